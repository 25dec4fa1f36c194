-- What a slice holds after pixels were stored. "A pixel has 3 or 4 bytes. The fourth keeps what it held." Definitions only.
use Rattle.std.specs.Prelude.{List, ℕ, zero, suc, ◌+◌, ◌*◌, set}
use Rattle.kernels.specs.Kernels.{Colour}

-- l after a pixel was stored from `at` on
unfoldable pub pixel : List ℕ → ℕ → Colour → List ℕ
pixel l at c = set (set (set l at c.red) (at + 1) c.green) (at + 2) c.blue

-- l after n pixels of `size` bytes each were stored from `at` on, pixel k being f k
unfoldable pub pixels : List ℕ → ℕ → ℕ → (ℕ → Colour) → ℕ → List ℕ
pixels l at size f zero = l
pixels l at size f (suc n) = pixel (pixels l at size f n) (at + n * size) (f n)
