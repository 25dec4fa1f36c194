-- What an accepted RGB row call was handed: each test that failed is turned into the inequality that it stands for.
use Rattle.std.proofs.Common.{◌≡◌, false, ◌*◌, ◌≤◌, ◌<◌, length, ltb-false, leb-false, ◌∙◌, sym, Ok}
use Rattle.laws.specs.Refusals.{Answer, first}
use Rattle.laws.proofs.Refusals.{Failed, accepted_failed}
use Rattle.image.specs.Picture.{bad_planes}
use Rattle.image.specs.Scratch.{scratch_need}
use Rattle.guided.specs.Calls.{reader_layout, bad_state}
use Rattle.rgb_rows.specs.RgbRows.{RgbRowCall, rgb_row_tests}

pub record RgbRowHanded (c : RgbRowCall) : Type 0 where
  pub state : bad_state c.side.reader ≡ false
  pub planes : bad_planes (reader_layout c.side.reader) c.side.planes ≡ false
  pub room : scratch_need (reader_layout c.side.reader) ≤ length c.side.scratch
  pub output : (reader_layout c.side.reader).w * 3 ≤ length c.out
  pub inside : c.y < (reader_layout c.side.reader).h

pub rgb_row_handed : (c : RgbRowCall) → Failed (rgb_row_tests c) → RgbRowHanded c
unfolding rgb_row_tests
rgb_row_handed c f =
    let l = reader_layout c.side.reader in
    record {
      state = f.0;
      planes = f.1.0;
      room = ltb-false (length c.side.scratch) (scratch_need l) f.1.1.0;
      output = ltb-false (length c.out) (l.w * 3) f.1.1.1.0;
      inside = leb-false l.h c.y f.1.1.1.1.0;
    }

pub rowed : (c : RgbRowCall) (a : Answer) → a ≡ first (rgb_row_tests c) → a ≡ Ok tt → RgbRowHanded c
rowed c a e h = rgb_row_handed c (accepted_failed _ (sym e ∙ h))
