use Rattle.std.proofs.Common.{◌≡◌, ap, ◌∙◌, ℕ, ◌+◌, arith, Float, List, get_or}
use lib.Ieee.{nan}
use Rattle.laws.specs.Floats.{f32, ◌⊖◌, ◌⊗◌}
use Rattle.laws.proofs.Lists.{table_at}
use Rattle.fround.specs.Rounding.{round_clamped}
use Rattle.fround.proofs.Laws.{round_within}
use Rattle.colour_rows.proofs.samples.chroma_block.Goals as goal

pub returns : goal.returns
returns c =
    let a = c.args in
    let at : (k : ℕ) → a.src + a.x + k ≡ a.src + (a.x + k) = λ k. omega arith in
    λ k h. record {
      most = round_within _ _;
      is = ap (λ (v : List Float). get_or v k nan) (c.centred_256ths.ensures _ c.load.ensures) ∙ table_at 16 _ k nan h
          ∙ ap (λ (n : ℕ). f32 (round_clamped 65536 (get_or a.s.now n nan ⊗ f32 256)) ⊖ f32 32768) (at k);
    }
