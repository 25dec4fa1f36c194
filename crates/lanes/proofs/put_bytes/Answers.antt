use Rattle.std.proofs.Common.{◌≡◌, ◌∙◌, ℕ, get_or, Float, rules}
use lib.Ieee.{nan}
use Rattle.laws.specs.Floats.{f32}
use Rattle.laws.proofs.Lists.{put_same}
use Rattle.lanes.proofs.Made.{made}
use Rattle.lanes.proofs.put_bytes.Goals as goal

pub returns : goal.returns
returns c =
    let b = c.args.block in
    c.put_block.ensures ∙ put_same _ _ 16 _ _ (λ k h. made c.from_fn-floats.ensures.items (λ (i : ℕ) (v : Float). v ≡ f32 (get_or b i 0)) (λ i v q l u. (search rules, search rules)) k nan h)
