use Rattle.std.proofs.Common.{◌≡◌, refl, sym, ◌∙◌, true, false}
use Rattle.netpbm.specs.Bytes.{has_space}
use Rattle.netpbm.specs.Images.{has_number, field_of, field_end}
use Rattle.netpbm.specs.Inner.Held.{number_held, field_held}
use Rattle.netpbm.proofs.Runs.{space_is}
use Rattle.netpbm.proofs.pgm.field_at.Goals as goal
use Rattle.netpbm.proofs.pgm.field_at.Goals.{then-space_at, else-space_at}

pub returns : goal.returns
unfolding field_held has_number field_of field_end number_held
returns c =
    let s = sym (space_is c.args.input.now c.args.at) ∙ sym c.space_at.ensures in
    elim c.if-space_at.branch [
      | then-space_at w ↦ let h : has_space c.args.input.now c.args.at ≡ true = s ∙ w.if-space_at.true in rw (w.good-is, w.digit_at-good.ensures, c.number_at-n.ensures, c.skip_spaces-start.ensures, h) refl
      | else-space_at w ↦ let h : has_space c.args.input.now c.args.at ≡ false = s ∙ w.if-space_at.false in rw (w.good-is, w.if-space_at.false, c.number_at-n.ensures, c.skip_spaces-start.ensures, h) refl
    ]
