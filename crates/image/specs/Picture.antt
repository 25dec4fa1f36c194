-- The picture of document 01: "sizes, ratios, sample bytes, maxval and the samples inside its planes, without padding or surplus". Definitions only.
use Rattle.std.specs.Prelude.{◌≡◌, Bool, ◌&&◌, ◌||◌, cond, ℕ, ltb, length}
use Rattle.image.specs.declared.layout.Layout.{Layout}
use Rattle.image.specs.declared.layout.Range.{Range}
use Rattle.image.specs.declared.layout.Range.TheVariants.{Full}
use Rattle.image.specs.declared.chroma.Chroma.{Chroma}
use Rattle.image.specs.declared.chroma.Chroma.TheVariants.{Cb, Cr}
use Rattle.image.specs.Tests.{bad_plane}
use Rattle.image.specs.declared.plane.Planes.{Planes as LentPlanes}
use Rattle.image.specs.Samples.{Plane, seen, sample_at}

-- `luma y x` and `chroma k y x`: row y, column x. They are 0 outside the picture.
pub record Picture : Type 0 where
  pub layout : Layout
  pub luma : ℕ → ℕ → ℕ
  pub chroma : Chroma → ℕ → ℕ → ℕ

-- the planes of a picture, as a call is lent them
pub record Planes : Type 0 where
  pub y : Plane
  pub cb : Plane
  pub cr : Plane

abbrev pub planes_seen : LentPlanes → Planes
planes_seen ps = record { y = seen ps.y; cb = seen ps.cb; cr = seen ps.cr }

abbrev pub chroma_plane : Planes → Chroma → Plane
chroma_plane ps Cb = ps.cb
chroma_plane ps Cr = ps.cr

-- the samples of w columns and h rows, and nothing of what stands behind or below them
unfoldable pub inside : ℕ → ℕ → (ℕ → ℕ → ℕ) → ℕ → ℕ → ℕ
inside w h f y x = cond (ltb x w && ltb y h) (f y x) 0

unfoldable pub picture_of : Layout → Planes → Picture
picture_of l ps = record {
  layout = l;
  luma = inside l.w l.h (sample_at l.sample_bytes ps.y);
  chroma = λ k. inside l.cw l.ch (sample_at l.sample_bytes (chroma_plane ps k));
}

-- a layout with another range, and a picture with its samples as they are; "Reconstructed samples don't depend on the range" is said of these two
unfoldable pub ranged : Range → Layout → Layout
ranged range l = record { w = l.w; h = l.h; rh = l.rh; rv = l.rv; cw = l.cw; ch = l.ch; across = l.across; down = l.down; sample_bytes = l.sample_bytes; maxval = l.maxval; range = range }

unfoldable pub picture_in : Range → Picture → Picture
picture_in range p = record { layout = ranged range p.layout; luma = p.luma; chroma = p.chroma }

-- layouts that are equal but for the range
unfoldable pub SameButRange : Layout → Layout → Type 0
SameButRange l m = ranged Full l ≡ ranged Full m

-- 7 for one plane of w columns and h rows
unfoldable pub short_plane : Layout → ℕ → ℕ → Plane → Bool
short_plane l w h p = bad_plane l.sample_bytes w h p.stride (length p.bytes)

-- 7 for the three planes of a picture
unfoldable pub bad_planes : Layout → Planes → Bool
bad_planes l ps = short_plane l l.w l.h ps.y || (short_plane l l.cw l.ch ps.cb || short_plane l l.cw l.ch ps.cr)
