-- That samples lie in a row of luma.
use Rattle.std.proofs.Common.{ℕ, ◌+◌, ◌*◌, ◌≤◌, ◌<◌, length}
use Rattle.image.specs.declared.layout.Layout.{Layout}
use Rattle.image.specs.Samples.{Plane, place}
use Rattle.image.proofs.Holding.{short_holds, sample_inside, run_inside}
use Rattle.colour_rows.specs.Inner.Gathered.{LumaRow}

module _ {l : Layout} {p : Plane} {row : ℕ} (r : LumaRow l p row) where
  -- a sample lies within the plane
  pub sample_room : (x : ℕ) → x < l.w → place l.sample_bytes p.stride row x + l.sample_bytes ≤ length p.bytes
  sample_room x h = sample_inside (short_holds l l.w l.h p r.plane) x row h r.inside

  -- and so do sixteen
  pub block_room : (x : ℕ) → x + 16 ≤ l.w → (1 ≤ l.sample_bytes) × (l.sample_bytes ≤ 2) × (place l.sample_bytes p.stride row x + 16 * l.sample_bytes ≤ length p.bytes)
  block_room x h = (r.shaped.bytes_some, r.shaped.bytes_most, run_inside (short_holds l l.w l.h p r.plane) 16 x row h r.inside)
