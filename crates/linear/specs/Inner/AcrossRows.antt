-- A linear row lerped across over lent scratch, as the inner functions' contracts say it. Definitions only.
use Rattle.std.specs.Prelude.{◌≡◌, List, ℕ, ◌+◌, ◌-◌, ◌*◌, ◌/◌, ◌%◌, ◌≤◌, ◌<◌, Float, get_or}
use Rattle.std.specs.Float.{nan}
use Rattle.laws.specs.Lists.{put}
use Rattle.laws.specs.declared.axes.Siting.{Siting}
use Rattle.laws.specs.declared.axes.Siting.TheVariants.{Centred, CoSited}
use Rattle.image.specs.Scratch.{cell_at}
use Rattle.taps.specs.Taps.{lerp_of, fraction_of, tap_by}
use Rattle.linear.specs.declared.cycles.Cycle.{Cycle}
use Rattle.linear.specs.declared.rows.Row.{Row}
use Rattle.linear.specs.Linear.{across_by}

-- what is known of a row in scratch of `len` values: its ratio is one of 1 to 4, its outputs lie over its cells, and the cells behind the outputs
pub record RowFits (row : Row) (len : ℕ) : Type 0 where
  pub num_some : 0 < row.axis.num
  pub num_most : row.axis.num ≤ row.r
  pub r_most : row.r ≤ 4
  pub w_some : 0 < row.w
  pub w_most : row.w ≤ 8192
  pub cw_some : 0 < row.cw
  pub over : row.w * row.axis.num ≤ row.cw * row.r
  pub behind : row.dst + row.w ≤ row.src
  pub inside : row.src + row.cw ≤ len

-- outputs from, .. from + n - 1 of a row, each by its own tap, put where they belong
unfoldable pub across_run : Row → ℕ → ℕ → List Float → List Float
across_run row from n s = put s (row.dst + from) n (λ i. across_by (tap_by row.axis row.r row.cw (from + i)) (cell_at s row.src))

-- how many outputs of a row come before those between cells 0 and 1
abbrev pub head_of : Siting → ℕ → ℕ
head_of Centred r = r / 2
head_of CoSited r = 0

-- how far output k of a pair of neighbouring cells lies between them, at ratio r
abbrev pub part_of : Siting → ℕ → ℕ → Float
part_of Centred r k = fraction_of (2 * (r / 2 + k) + 1 - r) (2 * r)
part_of CoSited r k = fraction_of k r

-- fractions that stand in an array
abbrev pub parts_in : List Float → ℕ → Float
parts_in parts k = get_or parts k nan

-- output i of those between neighbouring cells at src, r to each pair, output k of a pair the part `part k` of the way
abbrev pub between_at : (ℕ → Float) → ℕ → List Float → ℕ → ℕ → Float
between_at part r s src i = lerp_of (cell_at s src (i / r)) (cell_at s src (i / r + 1)) (part (i % r))

-- the outputs between n pairs of neighbouring cells, put at dst
unfoldable pub between_run : (ℕ → Float) → ℕ → ℕ → ℕ → ℕ → List Float → List Float
between_run part r src n dst s = put s dst (r * n) (between_at part r s src)

-- n pairs of neighbouring cells fit a row of a whole ratio behind its head, at ratio 2 eight at least
pub record Pairing (row : Row) (head n : ℕ) : Type 0 where
  pub whole : row.axis.num ≡ 1
  pub ratio : 1 < row.r
  pub begins : head ≡ head_of row.axis.siting row.r
  pub outputs : head + row.r * n ≤ row.w
  pub cells : n < row.cw
  pub block : row.r ≡ 2 → 8 ≤ n

-- ---- ratios that aren't whole: r outputs over num cells, and the same again num cells further

-- the first output that isn't below the first cell
abbrev pub first_of : Siting → ℕ
first_of Centred = 1
first_of CoSited = 0

-- n turns fit a row from output `from` on
pub record Turning (row : Row) (from n : ℕ) : Type 0 where
  pub num : 1 < row.axis.num
  pub ratio : row.axis.num < row.r
  pub begins : from ≡ first_of row.axis.siting
  pub small : from ≤ 1
  pub outputs : from + row.r * n ≤ row.w
  pub cells : row.axis.num * n < row.cw

-- c has the near cells and the fractions of the r outputs from `from` on
pub record Cycled (row : Row) (from : ℕ) (c : Cycle) : Type 0 where
  pub cell : (k : ℕ) → k < row.r → get_or c.cells k 0 ≡ (tap_by row.axis row.r row.cw (from + k)).i0
  pub part : (k : ℕ) → k < row.r → get_or c.parts k nan ≡ (tap_by row.axis row.r row.cw (from + k)).f

-- output k of a turn over the cells at src
abbrev pub cycle_at : Cycle → List Float → ℕ → ℕ → Float
cycle_at c s src k = lerp_of (cell_at s src (get_or c.cells k 0)) (cell_at s src (get_or c.cells k 0 + 1)) (get_or c.parts k nan)

-- the r outputs of a turn, put at dst
unfoldable pub cycle_run : Cycle → ℕ → ℕ → ℕ → List Float → List Float
cycle_run c src r dst s = put s dst r (cycle_at c s src)
