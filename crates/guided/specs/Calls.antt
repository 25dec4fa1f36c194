-- Open, seek and row: what they are handed, what they answer, and what they leave. Definitions only.
use Rattle.std.specs.Prelude.{◌≡◌, Bool, false, ◌&&◌, ◌||◌, not, cond, List, [], ◌∷◌, ◌++◌, ℕ, ◌+◌, ◌-◌, ◌/◌, ◌<◌, min, max, leb, ltb, eqb, length, get_or, Float}
use Rattle.std.specs.Bool.{beq}
use Rattle.std.specs.Float.{nan}
use Rattle.laws.specs.Axes.{plain}
use Rattle.laws.specs.Lists.{put}
use Rattle.laws.specs.Refusals.{Answer, Test, first, accepted}
use Rattle.image.specs.declared.layout.Layout.{Layout}
use Rattle.image.specs.Tests.{bad_siting, layout_tests}
use Rattle.image.specs.declared.chroma.Chroma.{Chroma}
use Rattle.image.specs.declared.chroma.Chroma.TheVariants.{Cb, Cr}
use Rattle.image.specs.Picture.{chroma_plane, picture_of, bad_planes, Planes}
use Rattle.image.specs.Limits.{above_any}
use Rattle.fround.specs.Rounding.{is_same_float}
use Rattle.taps.specs.declared.phases.Phase.{Phase}
use Rattle.taps.specs.Taps.{tap_of, phase_at, phases_of}
use Rattle.image.specs.Scratch.{scratch_need, cell_at}
use Rattle.guided.specs.declared.geometry.Geometry.{Geometry}
use Rattle.guided.specs.declared.state.Reader.{Reader}
use Rattle.guided.specs.Scratch.{row_steps, finished_at}
use Rattle.laws.specs.declared.refusal.Refusal.TheVariants.{BadState, BadPlane, ShortScratch, ShortOutput, BadRow, RowPassed, NotCentred, AboveMaxval}

-- ---- states

-- the geometry that open keeps of a layout: "The geometry record .. gain[s] a range"
unfoldable pub geometry_of : Layout → Geometry
geometry_of l = record { w = l.w; h = l.h; rh = l.rh; rv = l.rv; cw = l.cw; ch = l.ch; phases = phases_of l.rh; range = l.range }

-- the layout that a reader's picture was opened with: an accepted open's axes are plain
unfoldable pub reader_layout : Reader → Layout
reader_layout s = record { w = s.geometry.w; h = s.geometry.h; rh = s.geometry.rh; rv = s.geometry.rv; cw = s.geometry.cw; ch = s.geometry.ch; across = plain; down = plain; sample_bytes = s.sample_bytes; maxval = s.maxval; range = s.geometry.range }

-- the first and the last chroma row that picture row y takes from
unfoldable pub top_of : Layout → ℕ → ℕ
top_of l y = (tap_of l.rv l.ch y).i0

unfoldable pub last_of : Layout → ℕ → ℕ
last_of l y = max (tap_of l.rv l.ch y).i1 (y / l.rv)

-- the counters that open and seek leave at row y, and those that row leaves there
abbrev pub fresh_h : Layout → ℕ → ℕ
fresh_h l y = top_of l y - 1

abbrev pub fresh_f : Layout → ℕ → ℕ
fresh_f l y = top_of l y

abbrev pub done_h : Layout → ℕ → ℕ
done_h l y = min (last_of l y + 2) l.ch

abbrev pub done_f : Layout → ℕ → ℕ
done_f l y = last_of l y + 1

-- a layout's reader at row y with these counters
unfoldable pub reader_at : Geometry → Layout → ℕ → ℕ → ℕ → Reader
reader_at g l y h f = record { geometry = g; sample_bytes = l.sample_bytes; maxval = l.maxval; place = y; h_next = h; f_next = f }

-- the state that an accepted open, seek or row leaves: "After open or seek the place is that row, after a row call it is the row given."
unfoldable pub after_open : Layout → Reader
after_open l = reader_at (geometry_of l) l 0 (fresh_h l 0) (fresh_f l 0)

unfoldable pub after_seek : Reader → ℕ → Reader
after_seek s y = reader_at s.geometry (reader_layout s) y (fresh_h (reader_layout s) y) (fresh_f (reader_layout s) y)

unfoldable pub after_row : Reader → ℕ → Reader
after_row s y = reader_at s.geometry (reader_layout s) y (done_h (reader_layout s) y) (done_f (reader_layout s) y)

-- ---- refusals

unfoldable pub same_phase : Phase → Phase → Bool
same_phase a b = beq a.left b.left && is_same_float a.f b.f

-- phase k as the state has it; past the end of an array the machine reads false and nan
abbrev pub phase_in : Geometry → ℕ → Phase
phase_in g k = get_or g.phases k (record { left = false; f = nan })

unfoldable pub bad_phases : Geometry → Bool
bad_phases g =
    not (same_phase (phase_in g 0) (phase_at g.rh 0) && (same_phase (phase_in g 1) (phase_at g.rh 1)
    && (same_phase (phase_in g 2) (phase_at g.rh 2) && same_phase (phase_in g 3) (phase_at g.rh 3))))

-- "its counters (`h_next`, `f_next`) neither those that open or seek leaves at its place nor those that row leaves there"
unfoldable pub bad_counters : Reader → Bool
bad_counters s =
    let l = reader_layout s in
    let y = s.place in
    not ((eqb s.h_next (fresh_h l y) && eqb s.f_next (fresh_f l y)) || (eqb s.h_next (done_h l y) && eqb s.f_next (done_f l y)))

-- 1: "a state that open, seek or row never leaves: geometry (its phase fractions with it), sample bytes, maxval or place that none of them leaves, or its counters"
unfoldable pub bad_state : Reader → Bool
bad_state s =
    not (accepted (first (layout_tests false (reader_layout s)))) || (bad_phases s.geometry || (leb s.geometry.h s.place || bad_counters s))

-- ---- the calls

pub record OpenCall : Type 0 where
  pub layout : Layout
  pub planes : Planes
  pub scratch : List Float
  pub reader : Reader

pub record SeekCall : Type 0 where
  pub y : ℕ
  pub reader : Reader

pub record RowCall : Type 0 where
  pub y : ℕ
  pub planes : Planes
  pub reader : Reader
  pub scratch : List Float
  pub out_cb : List Float
  pub out_cr : List Float

-- a call written by its arguments, in the order of its record
abbrev pub open_call : Layout → Planes → List Float → Reader → OpenCall
open_call layout planes scratch reader = record { layout = layout; planes = planes; scratch = scratch; reader = reader }

abbrev pub seek_call : ℕ → Reader → SeekCall
seek_call y reader = record { y = y; reader = reader }

abbrev pub row_call : ℕ → Planes → Reader → List Float → List Float → List Float → RowCall
row_call y planes reader scratch out_cb out_cr = record { y = y; planes = planes; reader = reader; scratch = scratch; out_cb = out_cb; out_cr = out_cr }

-- 2, 3, 4, 18 "in open and plane calls too, right after 4", 5; "Co-sited on either axis with guided (open included)" is 16, "looked at right after 6"; "look at all samples inside the planes lent and turn the picture down if one exceeds maxval" is 17, "after 7 and before 8"
unfoldable pub open_tests : OpenCall → List Test
open_tests o = layout_tests false o.layout ++ ((bad_siting o.layout, NotCentred) ∷ (bad_planes o.layout o.planes, BadPlane) ∷ (above_any o.layout o.planes, AboveMaxval) ∷ (ltb (length o.scratch) (scratch_need o.layout), ShortScratch) ∷ [])

unfoldable pub seek_tests : SeekCall → List Test
seek_tests k = (bad_state k.reader, BadState) ∷ (leb k.reader.geometry.h k.y, BadRow) ∷ []

unfoldable pub row_tests : RowCall → List Test
row_tests r =
    let l = reader_layout r.reader in
    (bad_state r.reader, BadState) ∷ (bad_planes l r.planes, BadPlane) ∷ (ltb (length r.scratch) (scratch_need l), ShortScratch)
    ∷ (ltb (length r.out_cb) l.w || ltb (length r.out_cr) l.w, ShortOutput) ∷ (leb l.h r.y, BadRow) ∷ (ltb r.y r.reader.place, RowPassed) ∷ []

-- scratch after an accepted row call
unfoldable pub row_scratch : RowCall → List Float
row_scratch r =
    let s = r.reader in
    let l = reader_layout s in
    row_steps (picture_of l r.planes) (Cb ∷ Cr ∷ []) s.h_next s.f_next (done_f l r.y - s.f_next) r.y r.scratch

-- an output of an accepted row call: its first w values are the component's finished row, the rest is as it was
unfoldable pub row_out : RowCall → Chroma → List Float → List Float
row_out r k out = put out 0 r.reader.geometry.w (cell_at (row_scratch r) (finished_at (reader_layout r.reader) k))

-- what open, seek and row answer, with the state afterwards
pub record Reply : Type 0 where
  pub answer : Answer
  pub reader : Reader

abbrev pub reply : Answer → Reader → Reply
reply answer reader = record { answer = answer; reader = reader }

-- ---- what the contracts promise: `ensures` of open, seek and row is one of these records, and nothing else

-- the bytes of an open's chroma planes: a fact of their type
unfoldable pub Bytes : OpenCall → Type 0
Bytes o = (k : Chroma) (i : ℕ) → get_or (chroma_plane o.planes k).bytes i 0 < 256

pub record OpenGiven (o : OpenCall) (r : Reply) : Type 0 where
  pub answers : r.answer ≡ first (open_tests o)
  pub leaves : r.reader ≡ cond (accepted r.answer) (after_open o.layout) o.reader
  pub bytes : Bytes o

pub record SeekGiven (k : SeekCall) (r : Reply) : Type 0 where
  pub answers : r.answer ≡ first (seek_tests k)
  pub leaves : r.reader ≡ cond (accepted r.answer) (after_seek k.reader k.y) k.reader

pub record RowGiven (k : RowCall) (r : Reply) (scratch out_cb out_cr : List Float) : Type 0 where
  pub answers : r.answer ≡ first (row_tests k)
  pub leaves : r.reader ≡ cond (accepted r.answer) (after_row k.reader k.y) k.reader
  pub scratches : scratch ≡ cond (accepted r.answer) (row_scratch k) k.scratch
  pub cbs : out_cb ≡ cond (accepted r.answer) (row_out k Cb k.out_cb) k.out_cb
  pub crs : out_cr ≡ cond (accepted r.answer) (row_out k Cr k.out_cr) k.out_cr
