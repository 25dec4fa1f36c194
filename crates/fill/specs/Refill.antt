-- Document 02's W13, 'Painting out glare': "convert again in place only the rows whose cell row is within two of it". Definitions only.
use Rattle.std.specs.Prelude.{◌≡◌, Bool, true, ◌&&◌, ◌||◌, not, cond, List, [], ◌∷◌, ◌++◌, ℕ, zero, suc, ◌+◌, ◌-◌, ◌*◌, ◌/◌, min, leb, ltb, length, Float}
use Rattle.laws.specs.Refusals.{Test, first, accepted, Answer}
use Rattle.laws.specs.Numbers.{outside_of}
use Rattle.image.specs.declared.layout.Layout.{Layout}
use Rattle.image.specs.declared.rectangle.Rectangle.{Rectangle}
use Rattle.image.specs.Tests.{bad_siting, tests_for}
use Rattle.image.specs.Picture.{picture_of, bad_planes, Planes}
use Rattle.image.specs.Limits.{above_any}
use Rattle.image.specs.Rectangles.{is_empty, past_cells}
use Rattle.image.specs.Differences.{other_change}
use Rattle.image.specs.Scratch.{scratch_need}
use Rattle.kernels.specs.Kernels.{Colour}
use Rattle.kernel_blocks.specs.Stores.{pixels}
use Rattle.kernels.specs.declared.kernel.YcbcrKernel.{YcbcrKernel}
use Rattle.fill.specs.Tests.{is_fixed}
use Rattle.fill.specs.Fill.{fill_colour, fill_scratch}
use Rattle.fill.specs.declared.options.ChromaUpsampling.TheVariants.{LumaGuided}
use Rattle.laws.specs.declared.refusal.Refusal.TheVariants.{BadPlane, BadPixelSize, ShortScratch, ShortOutput, NotCentred, AboveMaxval, BadRectangle, OtherChange}

-- what a refill is handed: "the old RGB picture, the planes before and after, the rectangle and guided fill's other arguments"; out is the old picture
pub record RefillCall : Type 0 where
  pub layout : Layout
  pub old : Planes
  pub new : Planes
  pub cells : Rectangle
  pub kernel : YcbcrKernel
  pub size : ℕ
  pub scratch : List Float
  pub out : List ℕ

-- a call written by its arguments, in the order of its record
abbrev pub refill_call : Layout → Planes → Planes → Rectangle → YcbcrKernel → ℕ → List Float → List ℕ → RefillCall
refill_call layout old new cells kernel size scratch out =
    record { layout = layout; old = old; new = new; cells = cells; kernel = kernel; size = size; scratch = scratch; out = out }

-- "The checks are fill's, over both sets of planes": those of a guided fill, 7 and 17 for all six. "A rectangle with a cell outside the chroma plane gets 19, right before 10"; 21 comes "after all others"
unfoldable pub refill_tests : RefillCall → List Test
refill_tests c =
    let l = c.layout in
    tests_for true (is_fixed c.kernel) l
    ++ ((bad_siting l, NotCentred)
    ∷ (bad_planes l c.old || bad_planes l c.new, BadPlane)
    ∷ (above_any l c.old || above_any l c.new, AboveMaxval)
    ∷ (outside_of 3 4 c.size, BadPixelSize)
    ∷ (ltb (length c.scratch) (scratch_need l), ShortScratch)
    ∷ (past_cells l c.cells, BadRectangle)
    ∷ (ltb (length c.out) (l.w * l.h * c.size), ShortOutput)
    ∷ (other_change l c.cells c.old c.new, OtherChange)
    ∷ [])

-- "the rows whose cell row is within two of it": picture row y has cell row y / rv, and some row of the rectangle is at most two from it. "An empty rectangle converts nothing."
unfoldable pub near_row : Layout → Rectangle → ℕ → Bool
near_row l r y = not (is_empty r) && (leb r.top (y / l.rv + 2) && ltb (y / l.rv) (r.top + r.height + 2))

-- out after those of rows 0, .. n - 1 that pass were stored, "in place", "and every other row's bytes are untouched"
unfoldable pub rows_where : ℕ → ℕ → (ℕ → ℕ → Colour) → (ℕ → Bool) → ℕ → List ℕ → List ℕ
rows_where w size f p zero out = out
rows_where w size f p (suc n) out = cond (p n) (pixels (rows_where w size f p n out) (n * (w * size)) size (f n) w) (rows_where w size f p n out)

-- ---- what the papers leave free: what scratch holds after an accepted call

-- the first of those rows, and the one behind the last
unfoldable pub near_first : Layout → Rectangle → ℕ
near_first l r = cond (is_empty r) 0 ((r.top - 2) * l.rv)

unfoldable pub near_end : Layout → Rectangle → ℕ
near_end l r = cond (is_empty r) 0 (min ((r.top + r.height + 2) * l.rv) l.h)

-- what `refill` promises: of its answer, and of scratch and output after it: "Those rows are then the guided conversion afterwards"
pub record RefillGiven (c : RefillCall) (answer : Answer) (scratch' : List Float) (out' : List ℕ) : Type 0 where
  pub answers : answer ≡ first (refill_tests c)
  pub gives : out' ≡ cond (accepted answer) (rows_where c.layout.w c.size (fill_colour LumaGuided c.kernel (picture_of c.layout c.new)) (near_row c.layout c.cells) c.layout.h c.out) c.out
  pub scratches : scratch' ≡ cond (accepted answer) (fill_scratch LumaGuided c.layout c.new (near_first c.layout c.cells) (near_end c.layout c.cells - near_first c.layout c.cells) c.scratch) c.scratch
