use Rattle.std.proofs.Common.{refl, ap, ◌∙◌, arith, length, length-set}
use Rattle.kernel_blocks.proofs.Puts.{length_pixel, pixels_none}
use Rattle.kernel_blocks.proofs.Packed.{word_stored}
use Rattle.kernel_blocks.proofs.words.put_words.Goals as goal

pub loop-i-init : goal.loop-i-init
loop-i-init c =
    (refl, λ f h. pixels_none _ _ _ _)

pub loop-i-preserved : goal.loop-i-preserved
loop-i-preserved c =
    let a = c.args in
    let e = c.put_word.ensures in (
      ap length e ∙ simp (length-set, length_pixel) c.loop-i.invariant.0,
      λ f h. e ∙ rw (c.loop-i.invariant.1 f h) (word_stored a.dst.now a.at c.loop-i.i f (h c.loop-i.i (omega arith))),
    )
