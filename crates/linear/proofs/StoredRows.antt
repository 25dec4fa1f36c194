-- A row that is stored in parts: a part of k values behind the n that were stored.
use Rattle.std.proofs.Common.{◌≡◌, refl, ◌∙◌, List, ℕ, ◌+◌, arith, Float}
use Rattle.fround.specs.Rounding.{round_clamped}
use Rattle.image.specs.Scratch.{cell_at}
use Rattle.laws.proofs.Lists.{Run, run_run, put_same}
use Rattle.linear.specs.Inner.Stores.{store_run}

pub store_more : (s : List Float) (src limit at : ℕ) {n : ℕ} {xs ys : List ℕ} → Run xs ys at n (λ k. round_clamped limit (cell_at s src k)) → (zs : List ℕ) (m k from to : ℕ)
    → zs ≡ store_run s from k limit to ys → from ≡ src + n → to ≡ at + n → m ≡ n + k → Run xs zs at m (λ k. round_clamped limit (cell_at s src k))
unfolding store_run
store_more s src limit at {n} {xs} {ys} r zs m k from to e p q g =
    let f : ℕ → ℕ = λ i. round_clamped limit (cell_at s src (n + i)) in
    let place : (i : ℕ) → from + i ≡ src + (n + i) = λ i. omega arith in
    run_run r zs to m k (e ∙ put_same ys to k (λ i. round_clamped limit (cell_at s from i)) f (λ i h. rw (place i) refl)) q g
