-- The steps of a fill, as the inner functions' contracts say them. Definitions only.
use Rattle.std.specs.Prelude.{◌≡◌, false, List, [], ◌∷◌, ℕ, ◌+◌, ◌*◌, ◌≤◌, Float}
use Rattle.image.specs.declared.layout.Layout.{Layout}
use Rattle.image.specs.declared.chroma.Chroma.TheVariants.{Cb, Cr}
use Rattle.image.specs.Picture.{picture_of, short_plane, Planes}
use Rattle.image.specs.Inner.Tests.{Shaped, Sound}
use Rattle.image.specs.Scratch.{scratch_need}
use Rattle.guided_rows.specs.CatchingUp.{guided_step}
use Rattle.fill.specs.declared.options.ChromaUpsampling.{ChromaUpsampling}
use Rattle.fill.specs.declared.options.ChromaUpsampling.TheVariants.{Linear, LumaGuided}
use Rattle.fill.specs.Fill.{linear_pair}

-- scratch after row a + n of the rows from a on, from scratch before it: `fill_scratch`'s step
unfoldable pub fill_step : ChromaUpsampling → Layout → Planes → ℕ → ℕ → List Float → List Float
fill_step Linear l ps a n s = linear_pair l ps (a + n) s
fill_step LumaGuided l ps a n s = guided_step (picture_of l ps) (Cb ∷ Cr ∷ []) a n s

-- what an accepted call knows of the layout and its planes: pairs, and whole ratios where chroma is guided
pub record ChromaLent (up : ChromaUpsampling) (l : Layout) (ps : Planes) : Type 0 where
  pub shaped : Shaped l
  pub whole : up ≡ LumaGuided → Sound l
  pub luma : short_plane l l.w l.h ps.y ≡ false
  pub cb : short_plane l l.cw l.ch ps.cb ≡ false
  pub cr : short_plane l l.cw l.ch ps.cr ≡ false

-- what an accepted call knows; `space` and `room` are how many values scratch and how many bytes output hold
pub record FillLent (up : ChromaUpsampling) (l : Layout) (ps : Planes) (size space room : ℕ) : Type 0 where
  pub lent : ChromaLent up l ps
  pub size_least : 3 ≤ size
  pub size_most : size ≤ 4
  pub scratch : scratch_need l ≤ space
  pub output : l.w * l.h * size ≤ room
