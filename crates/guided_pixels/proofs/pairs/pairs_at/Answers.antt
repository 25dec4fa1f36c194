-- 0.75 and 0.25 are the definition's fractions, 3/4 and 1/4 divided once, by computing both.
use lib.Ieee.{nan, of_bits, div, of_int}
use Rattle.std.proofs.Common.{ℕ, ◌+◌, ◌≡◌, ◌∙◌, get_or, arith, Float, ap}
use Rattle.laws.specs.Lists.{table}
use Rattle.laws.proofs.Lists.{table_same}
use Rattle.image.specs.Scratch.{cell_at}
use Rattle.guided_pixels.proofs.TwoPixels.{pairs_are}
use Rattle.guided_pixels.proofs.pairs.pairs_at.Goals as goal

pub returns : goal.returns
unfolding of_bits div of_int
returns c =
    let a = c.args in
    let g : ℕ → Float = cell_at a.s.now a.src in
    let e : (n k : ℕ) → a.src + n + k ≡ a.src + (n + k) = λ n k. omega arith in
    let same : (n : ℕ) → table 8 (λ k. get_or a.s.now (a.src + n + k) nan) ≡ table 8 (λ k. g (n + k)) = λ n. table_same 8 _ _ (λ k h. ap (λ (m : ℕ). get_or a.s.now m nan) (e n k)) in
    pairs_are g a.i _ _
    (c.lerps.ensures _ _ (c.load-a.ensures ∙ same a.i) (c.load-b.ensures ∙ same (a.i + 1)))
    (c.lerps-2.ensures _ _ (c.load-b.ensures ∙ same (a.i + 1)) (c.load-c.ensures ∙ same (a.i + 2)))
