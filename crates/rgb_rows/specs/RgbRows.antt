-- A reader's row as RGB: what the call is handed, why it is turned down, what it gives, and how it counts in the reader's list of demand 3. Definitions only.
use Rattle.std.specs.Prelude.{◌≡◌, cond, List, [], ◌∷◌, ℕ, ◌*◌, leb, ltb, length, replicate, Float}
use Rattle.std.specs.Float.{nan}
use Rattle.laws.specs.Refusals.{Answer, Test, first, accepted}
use Rattle.image.specs.declared.chroma.Chroma.TheVariants.{Cb, Cr}
use Rattle.image.specs.Picture.{bad_planes, Planes}
use Rattle.image.specs.Samples.{sample_at}
use Rattle.image.specs.Scratch.{scratch_need, cell_at}
use Rattle.kernels.specs.Kernels.{Colour}
use Rattle.kernels.specs.declared.kernel.YcbcrKernel.TheVariants.{Exact}
use Rattle.kernel_blocks.specs.Stores.{pixels}
use Rattle.colour_rows.specs.Colours.{colour_in}
use Rattle.guided.specs.declared.state.Reader.{Reader}
use Rattle.guided.specs.Calls.{Reply, reader_layout, bad_state, after_row, row_scratch, row_out, RowCall, OpenCall}
use Rattle.guided.specs.Scratch.{finished_at}
use Rattle.guided.specs.Events.{RowEvent, Event, RanRow, Run, picture_by}
use Rattle.fill.specs.declared.options.ChromaUpsampling.TheVariants.{LumaGuided}
use Rattle.fill.specs.Fill.{fill_colour}
use Rattle.laws.specs.declared.refusal.Refusal.TheVariants.{BadState, BadPlane, ShortScratch, ShortOutput, BadRow, RowPassed}

-- what a reader brings to a call: its state, the planes of its picture and its scratch. "Each picture has its own reader with scratch of its own"
pub record Side : Type 0 where
  pub reader : Reader
  pub planes : Planes
  pub scratch : List Float

pub record RgbRowCall : Type 0 where
  pub y : ℕ
  pub side : Side
  pub out : List ℕ

-- a side and a call written by their arguments, in the order of their records
abbrev pub side_of : Reader → Planes → List Float → Side
side_of reader planes scratch = record { reader = reader; planes = planes; scratch = scratch }

abbrev pub rgb_row_call : ℕ → Side → List ℕ → RgbRowCall
rgb_row_call y side out = record { y = y; side = side; out = out }

-- row's tests, where 10 is an output that can't hold w pixels of three bytes
unfoldable pub rgb_row_tests : RgbRowCall → List Test
rgb_row_tests c =
    let s = c.side in
    let l = reader_layout s.reader in
    (bad_state s.reader, BadState) ∷ (bad_planes l s.planes, BadPlane) ∷ (ltb (length s.scratch) (scratch_need l), ShortScratch)
    ∷ (ltb (length c.out) (l.w * 3), ShortOutput) ∷ (leb l.h c.y, BadRow) ∷ (ltb c.y s.reader.place, RowPassed) ∷ []

-- ---- what it gives

-- "a row call whose Cb and Cr go to the kernel instead of out": the row call that it is for its reader, whose outputs are a room of w values
unfoldable pub row_of : Side → ℕ → RowCall
row_of s y = record { y = y; planes = s.planes; reader = s.reader; scratch = s.scratch; out_cb = replicate s.reader.geometry.w nan; out_cr = replicate s.reader.geometry.w nan }

-- "each moved as by a row call": state and scratch after it
abbrev pub side_reader : Side → ℕ → Reader
side_reader s y = after_row s.reader y

abbrev pub side_scratch : Side → ℕ → List Float
side_scratch s y = row_scratch (row_of s y)

-- "one row of RGB, guided and exact", in the range of the geometry: the colour of column x, from luma and the two finished rows that the row call leaves in scratch
unfoldable pub side_colour : Side → ℕ → ℕ → Colour
side_colour s y x =
    let l = reader_layout s.reader in
    colour_in l.range Exact l.maxval (sample_at l.sample_bytes s.planes.y y x)
    (cell_at (side_scratch s y) (finished_at l Cb) x) (cell_at (side_scratch s y) (finished_at l Cr) x)

-- what `rgb_row` promises: of its answer, of the state, and of scratch and output after it
pub record RgbRowGiven (c : RgbRowCall) (r : Reply) (scratch : List Float) (out : List ℕ) : Type 0 where
  pub answers : r.answer ≡ first (rgb_row_tests c)
  pub leaves : r.reader ≡ cond (accepted r.answer) (side_reader c.side c.y) c.side.reader
  pub scratches : scratch ≡ cond (accepted r.answer) (side_scratch c.side c.y) c.side.scratch
  pub gives : out ≡ cond (accepted r.answer) (pixels c.out 0 3 (side_colour c.side c.y) c.side.reader.geometry.w) c.out

-- ---- demand 3's lists

-- "In each reader's list for demand 3 this call counts as a row call whose Cb and Cr go to the kernel instead of out, accepted or refused as it is answered": the event of row y that answered a and left this state and scratch
unfoldable pub event_of : Side → ℕ → Answer → Reader → List Float → RowEvent
event_of s y a r scratch = record {
  call = row_of s y;
  reply = record { answer = a; reader = r };
  scratch = scratch;
  out_cb = row_out (row_of s y) Cb (replicate s.reader.geometry.w nan);
  out_cr = row_out (row_of s y) Cr (replicate s.reader.geometry.w nan);
}

-- "what the guided exact fill" of the current picture "gives in that row": column x of row y
unfoldable pub guided_colour : OpenCall → ℕ → ℕ → Colour
guided_colour o y x = fill_colour LumaGuided Exact (picture_by o) y x

pub record RgbRows : Type 0 where
  -- every such call is a row event of its reader's list,
  pub counts : (c : RgbRowCall) (r : Reply) (s : List Float) (out : List ℕ) → RgbRowGiven c r s out → RanRow (event_of c.side c.y r.answer r.reader s)
  -- and over any list that keeps the premise and has an accepted open before it, its row is the fill's of the current picture
  pub rows : (c : RgbRowCall) (r : Reply) (s : List Float) (out : List ℕ) → RgbRowGiven c r s out
      → (o : OpenCall) (es : List Event) → Run o (event_of c.side c.y r.answer r.reader s) es
      → out ≡ pixels c.out 0 3 (guided_colour o c.y) o.layout.w
