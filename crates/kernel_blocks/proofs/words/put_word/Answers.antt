-- The four bytes that are overwritten are `pixel` and one `set` more, and they are the word's digits.
use Rattle.std.proofs.Common.{◌≡◌, refl, ◌∙◌, List, [], ◌∷◌, ℕ, ◌+◌, ◌-◌, ◌/◌, ◌%◌, arith, get_or, set, length}
use Rattle.laws.specs.Lists.{put}
use Rattle.lanes.proofs.Overwritten.{overwritten}
use Rattle.kernel_blocks.specs.Stores.{pixel}
use Rattle.kernel_blocks.proofs.words.put_word.Goals as goal

four : (xs : List ℕ) (p a b c d : ℕ) → put xs p 4 (λ k. get_or (a ∷ b ∷ c ∷ d ∷ []) k 0) ≡ set (set (set (set xs p a) (p + 1) b) (p + 2) c) (p + 3) d
unfolding put
four xs p a b c d = let z : p + 0 ≡ p = omega arith in rw z refl

pub returns : goal.returns
unfolding pixel
returns c =
    let a = c.args in
    let e : a.p + 4 - a.p ≡ 4 = omega arith in
    let x = c.copy_from_slice.ensures.after in
    let b = c.to_le_bytes-bytes.ensures in
    let l : length c.to_le_bytes-bytes.result ≡ 4 = rw b refl in
    let last : a.w / 16777216 % 256 ≡ a.w / 16777216 = omega arith in
    rw (e, x) (overwritten a.dst.now c.to_le_bytes-bytes.result a.p 4 0 l c.requires ∙ rw (b, ← last) (four a.dst.now a.p (a.w % 256) (a.w / 256 % 256) (a.w / 65536 % 256) (a.w / 16777216 % 256)))
