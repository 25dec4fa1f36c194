-- Loops that write a run: their invariant is that s is what `put` leaves of the run so far. `put_more` is a turn of a value, and
-- `put_block` a turn of a block, which may overlap those before.
use Rattle.std.proofs.Common.{◌≡◌, ℕ, ◌+◌, ◌≤◌, ◌<◌, List, length, set, refl, sym, ap, ◌∙◌, add-one}
use Rattle.laws.specs.Lists.{put}
use Rattle.laws.proofs.Lists.{put_same, put_over}

pub put_more : {A : Type 0} (xs ys : List A) (at n : ℕ) (f : ℕ → A) (v : A) → ys ≡ put xs at n f → v ≡ f n → set ys (at + n) v ≡ put xs at (n + 1) f
unfolding put
put_more xs ys at n f v e h = rw (add-one n, e, h) refl

pub put_block : {A : Type 0} (xs ys zs : List A) (at done i k to : ℕ) (f g : ℕ → A) (d : A) → ys ≡ put xs at done f → zs ≡ put ys (at + i) k g
    → ((j : ℕ) → j < k → g j ≡ f (i + j)) → i ≤ done → done ≤ i + k → to ≡ i + k → at + done ≤ length xs → zs ≡ put xs at to f
put_block xs ys zs at done i k to f g d e z h a b t l =
    z ∙ ap (λ (s : List _). put s (at + i) k g) e ∙ put_same (put xs at done f) (at + i) k g (λ j. f (i + j)) h ∙ put_over xs at done f i k d a b l
    ∙ ap (λ (m : ℕ). put xs at m f) (sym t)
