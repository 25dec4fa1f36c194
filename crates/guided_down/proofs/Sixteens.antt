-- Cells by sixteens: a block more, which may overlap those before.
use Rattle.std.proofs.Common.{◌≡◌, refl, ap, ◌∙◌, List, ℕ, ◌+◌, ◌*◌, ◌≤◌, ◌<◌, arith, Float, get_or}
use Rattle.laws.specs.Floats.{f32}
use Rattle.laws.specs.Lists.{put}
use Rattle.laws.proofs.Lists.{put_same}
use Rattle.laws.proofs.Rows.{row_fits}
use Rattle.laws.proofs.Counts.{plus_plus}
use Rattle.guided_window.specs.declared.buffers.Window.{Window}
use Rattle.guided_window.specs.Inner.Buffers.{on}
use Rattle.guided_down.specs.Inner.Slopes.{Inside}

module _ (F : Window → ℕ) (t : Window) where
  -- cell i, whose left neighbours begin i further on
  abbrev cell : ℕ → Float
  cell i = f32 (F (on t i))

  further : (a k : ℕ) → F (on (on t a) k) ≡ F (on t (a + k))
  further a k = rw (plus_plus t.up a k, plus_plus t.at a k, plus_plus t.down a k) refl

  -- sixteen cells from cell i on
  pub block_is : (ys zs : List Float) (at i : ℕ) (block : List ℕ) → zs ≡ put ys at 16 (λ k. f32 (get_or block k 0)) → ((k : ℕ) → k < 16 → get_or block k 0 ≡ F (on (on t i) k)) → zs ≡ put ys at 16 (λ k. cell (i + k))
  block_is ys zs at i block e h = e ∙ put_same ys at 16 _ _ (λ k r. ap f32 (h k r ∙ further i k))

-- cell i of n + 2, each of b bytes, and its two neighbours end within the plane
pub nine_inside : (t : Window) (n i b len : ℕ) → Inside t ((n + 2) * b) len → i < n → Inside (on t (i * b)) (3 * b) len
nine_inside t n i b len o h =
    let f : i * b + b ≤ n * b = row_fits i n b h in
    let e : (n + 2) * b ≡ n * b + 2 * b = omega arith in
    record { up = omega (arith, o.up); at = omega (arith, o.at); down = omega (arith, o.down) }
