use Rattle.std.proofs.Common.{ap, ◌∙◌, ℕ, ◌<◌, arith, get_or}
use lib.Ieee.{of_bits, nan}
use Rattle.kernels.specs.T871.{t871_spans, studio255}
use Rattle.kernels.specs.Inner.Forms.{studio_chroma}
use Rattle.kernel_blocks.specs.Inner.Studio.{of_red, of_blue, Parts}
use Rattle.kernel_blocks.proofs.Shades.{tone_top, fall_top}
use Rattle.kernel_blocks.proofs.studio_blocks.studio_block.Goals as goal

pub tone_row-red-requires : goal.tone_row-red-requires
unfolding of_bits
tone_row-red-requires c =
    let parts_at : (i : ℕ) → i < 16 → Parts (get_or c.limited-l.result i 0) (get_or c.parts-less.result i nan) (get_or c.parts-more.result i nan) = λ i h. let e = c.limited-l.ensures i h in (record { most = omega arith; is = c.parts-less.ensures i h }, record { most = omega arith; is = c.parts-more.ensures i h }) in
    (of_red, λ i h. (parts_at i h, (c.requires i h).1))

pub fall_row-green-requires : goal.fall_row-green-requires
unfolding of_bits
fall_row-green-requires c =
    let parts_at : (i : ℕ) → i < 16 → Parts (get_or c.limited-l.result i 0) (get_or c.parts-less.result i nan) (get_or c.parts-more.result i nan) = λ i h. let e = c.limited-l.ensures i h in (record { most = omega arith; is = c.parts-less.ensures i h }, record { most = omega arith; is = c.parts-more.ensures i h }) in
    λ i h. (parts_at i h, (c.requires i h).0, (c.requires i h).1)

pub tone_row-blue-requires : goal.tone_row-blue-requires
unfolding of_bits
tone_row-blue-requires c =
    let parts_at : (i : ℕ) → i < 16 → Parts (get_or c.limited-l.result i 0) (get_or c.parts-less.result i nan) (get_or c.parts-more.result i nan) = λ i h. let e = c.limited-l.ensures i h in (record { most = omega arith; is = c.parts-less.ensures i h }, record { most = omega arith; is = c.parts-more.ensures i h }) in
    (of_blue, λ i h. (parts_at i h, (c.requires i h).0))

pub returns : goal.returns
unfolding of_bits studio255 t871_spans studio_chroma
returns c =
    let a = c.args in
    record {
      red = λ k h b r u v. c.tone_row-red.ensures k h r v ∙ ap (λ (z : ℕ). studio_chroma 1402 z r) (c.limited-l.ensures k h) ∙ tone_top (get_or a.y k 0) r of_red v.most;
      green = λ k h b r u v. c.fall_row-green.ensures k h b r u v ∙ ap (λ (z : ℕ). (studio255 z b r).green) (c.limited-l.ensures k h) ∙ fall_top (get_or a.y k 0) b r u.most v.most;
      blue = λ k h b r u v. c.tone_row-blue.ensures k h b u ∙ ap (λ (z : ℕ). studio_chroma 1772 z b) (c.limited-l.ensures k h) ∙ tone_top (get_or a.y k 0) b of_blue u.most;
    }
