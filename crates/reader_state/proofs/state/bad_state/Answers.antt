-- The phases and the counters are asked once the layout was accepted, which makes it sound and the ratio at most 4.
use Rattle.std.proofs.Common.{◌≡◌, ◌∙◌, sym, false, is_err}
use Rattle.laws.specs.Refusals.{Answer, first}
use Rattle.image.specs.Tests.{layout_tests}
use Rattle.image.specs.Inner.Tests.{Sound}
use Rattle.image.proofs.Layouts.{sound_unless}
use Rattle.image.specs.declared.layout.Layout.{Layout}
use Rattle.guided.specs.declared.state.Reader.{Reader}
use Rattle.guided.specs.Calls.{reader_layout}
use Rattle.reader_state.proofs.state.bad_state.Goals as goal

accepted : (r : Reader) (l : Layout) (a : Answer) → l ≡ reader_layout r → a ≡ first (layout_tests false l) → is_err a ≡ false → Sound (reader_layout r)
accepted r l a e f h = rw (sym e) (sound_unless l a f h)

pub bad_phases-requires : goal.bad_phases-requires
unfolding reader_layout
bad_phases-requires c = (accepted c.args.reader c.reader_layout.result c.answer.result c.reader_layout.ensures c.answer.ensures (sym c.is_err.ensures.value ∙ c.if-is_err.false)).rh_most

pub bad_counters-requires-clause-sound : goal.bad_counters-requires-clause-sound
bad_counters-requires-clause-sound c = accepted c.args.reader c.reader_layout.result c.answer.result c.reader_layout.ensures c.answer.ensures (sym c.is_err.ensures.value ∙ c.if-is_err.false)
