-- What scratch holds: where each row lies, and what the steps of a row call leave. The papers leave scratch free; these definitions are what the contracts say of it. Definitions only.
use Rattle.std.specs.Prelude.{cond, List, [], ◌∷◌, ◌++◌, ℕ, zero, suc, ◌+◌, ◌-◌, ◌*◌, ◌/◌, ◌%◌, min, max, leb, Float}
use Rattle.laws.specs.Floats.{f32, ◌⊕◌}
use Rattle.laws.specs.Lists.{put}
use Rattle.image.specs.declared.layout.Layout.{Layout}
use Rattle.image.specs.declared.chroma.Chroma.{Chroma}
use Rattle.image.specs.declared.chroma.Chroma.TheVariants.{Cb, Cr}
use Rattle.image.specs.Picture.{Picture}
use Rattle.fround.specs.Rounding.{fmin, fmax}
use Rattle.image.specs.Scratch.{cell_at}
use Rattle.guided.specs.Guided.{Across, Luma, LumaSum, SquareSum, Cell, CellSum, ProductSum, three, across_val, extreme, slope_of, down_to, detail_of, value_of}

-- ---- where things lie

-- the finished rows: Cb at 0, Cr behind it
unfoldable pub finished_at : Layout → Chroma → ℕ
finished_at l Cb = 0
finished_at l Cr = l.w

-- the detail of the row, behind them
unfoldable pub detail_at : Layout → ℕ
detail_at l = 2 * l.w

-- how far apart the row buffers begin: rows of 256 cells and more are padded, so that they don't fall on the same lines of a cache, by 48 values or by what 35 buffers leave to each
unfoldable pub pitch : Layout → ℕ
pitch l = cond (leb 256 l.cw) (l.cw + min 48 ((5 * l.w - 3 * l.cw) / 35)) l.cw

-- row buffer n
unfoldable pub buffer_at : Layout → ℕ → ℕ
buffer_at l n = 3 * l.w + n * pitch l

-- what is stored of a chroma row across: a component's sums are formed again from its samples where a slope needs them
pub data Stored : Type 0 where
  Lumas LumaSums SquareSums : Stored
  Cells ProductSums : Chroma → Stored

abbrev pub part_of : Stored → Across
part_of Lumas = Luma
part_of LumaSums = LumaSum
part_of SquareSums = SquareSum
part_of (Cells k) = Cell k
part_of (ProductSums k) = ProductSum k

-- of three chroma rows, row r in slot r mod 3: seven buffers to a slot
unfoldable pub slot_at : Layout → ℕ → ℕ → ℕ
slot_at l n r = buffer_at l (r % 3 * 7 + n)

abbrev pub first_of : Chroma → ℕ
first_of Cb = 3
first_of Cr = 5

abbrev pub num_stored : Stored → ℕ
num_stored Lumas = 0
num_stored LumaSums = 1
num_stored SquareSums = 2
num_stored (Cells k) = first_of k
num_stored (ProductSums k) = first_of k + 1

-- what is made down of a chroma row for a component: the slopes, and the least and the greatest sample round each cell
pub data Down : Type 0 where
  Slope Least Greatest : Chroma → Down

-- of two chroma rows, row r in slot r mod 2: six buffers to a slot
unfoldable pub result_at : Layout → ℕ → ℕ → ℕ
result_at l n r = buffer_at l (21 + (r % 2 * 6 + n))

abbrev pub first_down : Chroma → ℕ
first_down Cb = 0
first_down Cr = 3

abbrev pub num_down : Down → ℕ
num_down (Slope k) = first_down k
num_down (Least k) = first_down k + 1
num_down (Greatest k) = first_down k + 2

-- behind them two rows of cells of one picture row: luma's, and when the detail is made a component's samples in its place; its slopes
unfoldable pub column_at : Layout → ℕ → ℕ
column_at l n = buffer_at l (33 + n)

unfoldable pub read_stored : Layout → List Float → Stored → ℕ → ℕ → Float
read_stored l xs q r i = cell_at xs (slot_at l (num_stored q) r) i

unfoldable pub read_across : Layout → List Float → Across → ℕ → ℕ → Float
read_across l xs Luma r i = read_stored l xs Lumas r i
read_across l xs LumaSum r i = read_stored l xs LumaSums r i
read_across l xs SquareSum r i = read_stored l xs SquareSums r i
read_across l xs (Cell k) r i = read_stored l xs (Cells k) r i
read_across l xs (CellSum k) r i = three ◌⊕◌ l.cw (read_stored l xs (Cells k) r) i
read_across l xs (ProductSum k) r i = read_stored l xs (ProductSums k) r i

unfoldable pub read_down : Layout → List Float → Down → ℕ → ℕ → Float
read_down l xs d r i = cell_at xs (result_at l (num_down d) r) i

-- ---- the steps

-- what is made across for luma and the components ks, in this order
unfoldable pub chroma_parts : List Chroma → List Stored
chroma_parts [] = []
chroma_parts (k ∷ ks) = Cells k ∷ ProductSums k ∷ chroma_parts ks

unfoldable pub parts : List Chroma → List Stored
parts ks = Lumas ∷ LumaSums ∷ SquareSums ∷ chroma_parts ks

-- what is made down for the components ks, in this order: every slope, then the extremes
unfoldable pub slope_parts : List Chroma → List Down
slope_parts [] = []
slope_parts (k ∷ ks) = Slope k ∷ slope_parts ks

unfoldable pub extreme_parts : List Chroma → List Down
extreme_parts [] = []
extreme_parts (k ∷ ks) = Least k ∷ Greatest k ∷ extreme_parts ks

unfoldable pub down_parts : List Chroma → List Down
down_parts ks = slope_parts ks ++ extreme_parts ks

module _ (p : Picture) where
  -- chroma row j across, each buffer in turn
  unfoldable pub across_over : ℕ → List Stored → List Float → List Float
  across_over j [] xs = xs
  across_over j (q ∷ qs) xs = across_over j qs (put xs (slot_at p.layout (num_stored q) j) p.layout.cw (across_val p (part_of q) j))

  -- one of what is made down of chroma row j: the slopes from the sums that scratch holds, the extremes from the picture
  unfoldable pub down_of : List Float → Down → ℕ → ℕ → Float
  down_of xs (Slope k) j = slope_of p.layout (read_across p.layout xs) k j
  down_of xs (Least k) j = extreme p fmin k j
  down_of xs (Greatest k) j = extreme p fmax k j

  -- chroma row j down, each buffer in turn
  unfoldable pub down_over : ℕ → List Down → List Float → List Float
  down_over j [] xs = xs
  down_over j (d ∷ ds) xs = down_over j ds (put xs (result_at p.layout (num_down d) j) p.layout.cw (down_of xs d j))

  module _ (ks : List Chroma) where
    -- a chroma row across for luma and the components, and one finished: down for the components
    unfoldable pub horizontal : ℕ → List Float → List Float
    horizontal j xs = across_over j (parts ks) xs

    unfoldable pub finish : ℕ → List Float → List Float
    finish j xs = down_over j (down_parts ks) xs

    -- n chroma rows across, from row j on: what `across_rows` leaves
    unfoldable pub across_rows : ℕ → ℕ → List Float → List Float
    across_rows j zero xs = xs
    across_rows j (suc n) xs = horizontal (j + n) (across_rows j n xs)

  -- `h_next` after n rows were finished, from the counters h and f on
  unfoldable pub h_at : ℕ → ℕ → ℕ → ℕ
  h_at h f zero = h
  h_at h f (suc n) = max (h_at h f n) (min (f + n + 2) p.layout.ch)

  -- scratch after n chroma rows were finished, from the counters h and f on: before each one, the rows round it are summed across. What `catch_up` leaves
  unfoldable pub catch_up : List Chroma → ℕ → ℕ → ℕ → List Float → List Float
  catch_up ks h f zero xs = xs
  catch_up ks h f (suc n) xs = finish ks (f + n) (across_rows ks (h_at h f n) (min (f + n + 2) p.layout.ch - h_at h f n) (catch_up ks h f n xs))

  -- picture row y, from the window: luma's cells lerped down, then the detail
  unfoldable pub luma_column : ℕ → List Float → List Float
  luma_column y xs = put xs (column_at p.layout 0) p.layout.cw (down_to p.layout (read_across p.layout xs Luma) y)

  unfoldable pub detail_row : ℕ → List Float → List Float
  detail_row y xs = put xs (detail_at p.layout) p.layout.w (λ x. detail_of p.layout (cell_at xs (column_at p.layout 0)) (f32 (p.luma y x)) x)

  -- a component's two rows of cells: samples and slopes lerped down
  unfoldable pub component_columns : Chroma → ℕ → List Float → List Float
  component_columns k y xs =
      let l = p.layout in
      let s0 = put xs (column_at l 0) l.cw (down_to l (read_across l xs (Cell k)) y) in
      put s0 (column_at l 1) l.cw (down_to l (read_down l s0 (Slope k)) y)

  -- a component's finished row from its two rows of cells, the extremes round its own chroma row, and the detail
  unfoldable pub finished_row : Chroma → ℕ → List Float → List Float
  finished_row k y xs =
      let l = p.layout in
      let row : ℕ → ℕ → Float = λ n. cell_at xs (column_at l n) in
      let own : Down → ℕ → Float = λ d. read_down l xs d (y / l.rv) in
      put xs (finished_at l k) l.w (λ x. value_of l (row 0) (row 1) (own (Least k)) (own (Greatest k)) (cell_at xs (detail_at l) x) x)

  unfoldable pub components_over : ℕ → List Chroma → List Float → List Float
  components_over y [] xs = xs
  components_over y (k ∷ ks) xs = components_over y ks (finished_row k y (component_columns k y xs))

  -- scratch after row y of the components ks, from the counters h and f on, n rows being finished on the way
  unfoldable pub row_steps : List Chroma → ℕ → ℕ → ℕ → ℕ → List Float → List Float
  row_steps ks h f n y xs = components_over y ks (detail_row y (luma_column y (catch_up ks h f n xs)))
