-- A linear row over scratch is the definition's: what down leaves in the buffer of cells is what across reads there (`across_read`), since each
-- tap's cells are among them. `Scratched` is the invariant of a plane's loop, and `ready` what an accepted call may rely on.
use Rattle.std.proofs.Common.{◌≡◌, refl, ap, ◌∙◌, false, List, ltb-false, ℕ, ◌+◌, ◌*◌, ◌≤◌, ◌<◌, add-one, arith, length, Float, Ok}
use lib.Ieee.{nan}
use Rattle.laws.specs.Lists.{put}
use Rattle.laws.proofs.Lists.{put_same, put_inside, length_put}
use Rattle.image.specs.declared.layout.Layout.{Layout}
use Rattle.laws.specs.Refusals.{first}
use Rattle.laws.proofs.Refusals.{accepted_failed, failed_both}
use Rattle.image.specs.Tests.{tests_for}
use Rattle.image.specs.Inner.Tests.{Shaped}
use Rattle.image.proofs.Layouts.{shaped}
use Rattle.image.proofs.Holding.{short_holds, row_inside}
use Rattle.image.specs.Samples.{Plane, sample_at}
use Rattle.fround.specs.Rounding.{round_clamped}
use Rattle.taps.specs.declared.positions.Tap.{Tap}
use Rattle.taps.specs.Taps.{tap_by}
use Rattle.taps.specs.Inner.Taps.{TapGiven}
use Rattle.linear.specs.Linear.{down_by, linear_down, linear_sample, linear_row, linear_scratch, linear_cells_at, linear_tests, across_by}
use Rattle.linear.specs.Inner.Linear.{Ready}
use Rattle.linear.specs.declared.rows.Row.{Row}
use Rattle.image.specs.Scratch.{scratch_need, cell_at}
use Rattle.linear.specs.Inner.Down.{down_run}
use Rattle.linear.specs.Inner.AcrossRows.{RowFits, across_run}
use Rattle.linear.specs.Inner.Stores.{store_run}
use Rattle.taps.proofs.Spots.{tap_given, own_cell}
use Rattle.laws.proofs.Counts.{none_plus, plus_none}

-- both rows of a tap end within the plane
pub tap_rows : (l : Layout) (p : Plane) (space : ℕ) → Ready l p space → (i : ℕ) → i < l.ch → i * p.stride + l.cw * l.sample_bytes ≤ length p.bytes
tap_rows l p space r i h = row_inside (short_holds l l.cw l.ch p r.plane) i h

-- the cells lie within scratch
pub cells_room : (l : Layout) (p : Plane) (space : ℕ) → Ready l p space → linear_cells_at l + l.cw ≤ space
unfolding scratch_need
cells_room l p space r = let h = r.scratch in let o = r.shaped in omega arith

-- down by the row's tap: what is put into scratch are the definition's cells
pub down_is : (l : Layout) (p : Plane) (y : ℕ) (t : Tap) (s : List Float) → t ≡ tap_by l.down l.rv l.ch y
    → down_run p.bytes l.sample_bytes (t.i0 * p.stride) (t.i1 * p.stride) t.f l.cw (linear_cells_at l) s ≡ put s (linear_cells_at l) l.cw (linear_down l (sample_at l.sample_bytes p) y)
unfolding down_run linear_down sample_at
down_is l p y t s e = ap (λ (u : Tap). put s (linear_cells_at l) l.cw (down_by u (sample_at l.sample_bytes p))) e

-- cells that scratch holds, lerped across by a tap whose cells are among them
across_read : (s : List Float) (at cw : ℕ) (f : ℕ → Float) (t : Tap) → at + cw ≤ length s → t.i0 < cw → t.i1 < cw → across_by t (cell_at (put s at cw f) at) ≡ across_by t f
across_read s at cw f t h p q = rw (put_inside s at cw f t.i0 nan p h, put_inside s at cw f t.i1 nan q h) refl

-- the row that goes across
abbrev pub row_of : Layout → ℕ → Row
row_of l dst = record { axis = l.across; r = l.rh; cw = l.cw; src = linear_cells_at l; dst = dst; w = l.w }

pub row_fits : (l : Layout) (dst len : ℕ) → Shaped l → dst ≤ l.w → linear_cells_at l + l.cw ≤ len → RowFits (row_of l dst) len
row_fits l dst len o h k =
    record { num_some = omega arith; num_most = omega arith; r_most = omega arith; w_some = omega arith; w_most = omega arith; cw_some = omega arith; over = o.cells; behind = omega arith; inside = k }

-- across from the cells that scratch holds: scratch afterwards is `linear_row`'s
pub row_is : (l : Layout) (p : Plane) (dst y : ℕ) (s : List Float) → Shaped l → linear_cells_at l + l.cw ≤ length s
    → across_run (row_of l dst) 0 l.w (put s (linear_cells_at l) l.cw (linear_down l (sample_at l.sample_bytes p) y)) ≡ linear_row l p dst y s
unfolding across_run linear_row linear_sample
row_is l p dst y s o h =
    let g = linear_down l (sample_at l.sample_bytes p) y in
    let xs = put s (linear_cells_at l) l.cw g in
    ap (λ (at : ℕ). put xs at l.w (λ i. across_by (tap_by l.across l.rh l.cw (0 + i)) (cell_at xs (linear_cells_at l)))) (plus_none dst)
    ∙ put_same xs dst l.w _ _ (λ i k.
    let t = tap_by l.across l.rh l.cw i in
    let n : TapGiven l.across l.rh l.cw i t = tap_given l.across l.rh l.cw i t o.cw_some (own_cell l.across.num l.rh l.w l.cw i o.rh_some o.cells k) refl in
    ap (λ (j : ℕ). across_by (tap_by l.across l.rh l.cw j) (cell_at xs (linear_cells_at l))) (none_plus i)
    ∙ across_read s (linear_cells_at l) l.cw g t h n.i0_inside n.i1_inside)

-- a row keeps scratch's length
pub length_row : (l : Layout) (p : Plane) (at y : ℕ) (s : List Float) → length (linear_row l p at y s) ≡ length s
unfolding linear_row
length_row l p at y s =
    length_put (put s (linear_cells_at l) l.cw (linear_down l (sample_at l.sample_bytes p) y)) at l.w (linear_sample l (sample_at l.sample_bytes p) y)
    ∙ length_put s (linear_cells_at l) l.cw (linear_down l (sample_at l.sample_bytes p) y)

-- the finished row is read back where it lies
pub row_read : (l : Layout) (p : Plane) (at y : ℕ) (s : List Float) (x : ℕ) → x < l.w → at + l.w ≤ length s → cell_at (linear_row l p at y s) at x ≡ linear_sample l (sample_at l.sample_bytes p) y x
unfolding linear_row
row_read l p at y s x h k = put_inside _ at l.w (linear_sample l (sample_at l.sample_bytes p) y) x nan h (rw (length_put s (linear_cells_at l) l.cw (linear_down l (sample_at l.sample_bytes p) y)) k)

-- ---- a plane's loop

-- what is known of the scratch that a call was handed is known of it as long as its length stays
pub ready_on : {l : Layout} {p : Plane} {space len : ℕ} → Ready l p space → len ≡ space → Ready l p len
ready_on r e = record { shaped = r.shaped; plane = r.plane; scratch = rw e r.scratch }

pub front_room : {l : Layout} {p : Plane} {space : ℕ} → Ready l p space → 0 + l.w ≤ space
front_room {l} {p} {space} r = let h = cells_room l p space r in omega arith

-- scratch after the first y rows
pub record Scratched (l : Layout) (p : Plane) (y : ℕ) (before after : List Float) : Type 0 where
  pub len : length after ≡ length before
  pub eq : after ≡ linear_scratch l p y before

pub scratch_none : (l : Layout) (p : Plane) (s : List Float) → Scratched l p 0 s s
unfolding linear_scratch
scratch_none l p s = record { len = refl; eq = refl }

pub scratch_more : {l : Layout} {p : Plane} {y : ℕ} {before after : List Float} → Scratched l p y before after → (next : List Float) → next ≡ linear_row l p 0 y after → Scratched l p (y + 1) before next
unfolding linear_scratch
scratch_more {l} {p} {y} {before} {after} w next e =
    record { len = ap length e ∙ length_row l p 0 y after ∙ w.len; eq = rw (add-one y) (e ∙ ap (linear_row l p 0 y) w.eq) }

pub scratch_end : {l : Layout} {p : Plane} {y : ℕ} {before after : List Float} → Scratched l p y before after → (h : ℕ) → y ≤ h → h ≤ y → after ≡ linear_scratch l p h before
scratch_end {l} {p} {y} {before} w h a b = let e : y ≡ h = omega arith in w.eq ∙ ap (λ (n : ℕ). linear_scratch l p n before) e

-- a row of samples, as it is rounded out of scratch
pub stored_is : (l : Layout) (p : Plane) (y at : ℕ) (s : List Float) (out : List ℕ) → 0 + l.w ≤ length s
    → store_run (linear_row l p 0 y s) 0 l.w l.maxval at out ≡ put out at l.w (λ x. round_clamped l.maxval (linear_sample l (sample_at l.sample_bytes p) y x))
unfolding store_run
stored_is l p y at s out h = put_same out at l.w _ _ (λ x k. ap (round_clamped l.maxval) (row_read l p 0 y s x k h))

-- ---- acceptance

-- what an accepted call may rely on
pub ready : (l : Layout) (p : Plane) (space room : ℕ) → first (linear_tests l p space room) ≡ Ok tt → Ready l p space × (l.w * l.h ≤ room)
unfolding linear_tests
ready l p space room e =
    let f = failed_both (tests_for false false l) _ (accepted_failed (linear_tests l p space room) e) in
    (record { shaped = shaped false false l f.0; plane = f.1.0; scratch = ltb-false space (scratch_need l) f.1.1.1.0 }, ltb-false room (l.w * l.h) f.1.1.1.1.0)
