-- Places in scratch and in planes.
use Rattle.std.proofs.Common.{◌≡◌, false, List, ℕ, ◌+◌, ◌*◌, ◌≤◌, ◌<◌, length}
use Rattle.image.specs.Samples.{plane_of}
use Rattle.image.specs.Picture.{short_plane}
use Rattle.image.proofs.Holding.{short_holds, sample_inside}
use Rattle.guided.proofs.Places.{buffer_fits}
use Rattle.image.specs.declared.layout.Layout.{Layout}
use Rattle.image.specs.Scratch.{scratch_need}
use Rattle.guided.specs.Scratch.{buffer_at, pitch}

-- a row buffer ends within scratch
pub buffer_room : (l : Layout) (n p : ℕ) → p ≡ pitch l → n < 35 → l.cw ≤ l.w → 3 * l.w + n * p + l.cw ≤ 32 * l.cw + 8 * l.w
unfolding buffer_at scratch_need
buffer_room l n p e h k = rw e (buffer_fits l n h k)

-- a sample ends within its plane
pub whole_inside : (l : Layout) (plane : List ℕ) (stride w h x y : ℕ) → short_plane l w h (plane_of plane stride) ≡ false → x < w → y < h
    → y * stride + x * l.sample_bytes + l.sample_bytes ≤ length plane
whole_inside l plane stride w h x y e p q = sample_inside (short_holds l w h (plane_of plane stride) e) x y p q
