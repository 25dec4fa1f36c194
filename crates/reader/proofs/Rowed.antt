-- What an accepted row call may rely on, and that scratch after its steps holds both finished rows.
use Rattle.std.proofs.Common.{◌≡◌, ◌∙◌, ◌*◌, ◌≤◌, false, sym, ap, Ok, List, Float, length, arith}
use Rattle.laws.specs.Refusals.{Answer, first}
use Rattle.laws.proofs.Refusals.{accepted_failed}
use Rattle.image.specs.declared.chroma.Components.TheVariants.{Both}
use Rattle.image.specs.Picture.{Planes, bad_planes}
use Rattle.image.specs.Scratch.{scratch_need}
use Rattle.image.proofs.Layouts.{neither}
use Rattle.guided.specs.declared.state.Reader.{Reader}
use Rattle.guided.specs.Calls.{RowCall, reader_layout, bad_state, row_tests, row_scratch}
use Rattle.guided.proofs.Places.{front_fits}
use Rattle.guided.proofs.FinishedRows.{length_row}
use Rattle.guided.proofs.Acceptance.{fine, RowHanded, row_handed}
use Rattle.guided_window.specs.Inner.Lent.{Lent}

pub rowed : (k : RowCall) (a : Answer) → a ≡ first (row_tests k) → a ≡ Ok tt → RowHanded k
rowed k a e h = row_handed k (accepted_failed _ (sym e ∙ h))

-- a reader's picture, lent to the steps
pub lent : (r : Reader) (ps : Planes) → bad_state r ≡ false → bad_planes (reader_layout r) ps ≡ false → Lent (reader_layout r) ps Both
unfolding bad_planes
lent r ps e h =
    let n = neither _ _ h in
    let m = neither _ _ n.1 in
    record { sound = (fine r e).sound; luma = n.0; cb = m.0; cr = λ _. m.1 }

-- scratch after the steps is as long as before
pub room_after : (k : RowCall) (s : List Float) → scratch_need (reader_layout k.reader) ≤ length k.scratch → s ≡ row_scratch k → 3 * (reader_layout k.reader).w ≤ length s
unfolding row_scratch
room_after k s h e =
    let f = front_fits (reader_layout k.reader) in
    let z = ap length e ∙ length_row _ _ _ _ _ _ _ in
    omega (arith, h)
