-- What a call that was accepted has been handed: sizes, the three kinds of ratios, and where its rows lie.
-- The kinds are test 6 taken apart by cases over its comparisons: all but the wanted one compute to a contradiction. The rest is quotients.
use Rattle.std.proofs.Common.{◌≡◌, refl, Bool, true, false, ◌&&◌, ◌||◌, not, ℕ, ◌+◌, ◌*◌, ◌/◌, ◌≤◌, ◌<◌, arith, leb, eqb, length, ltb-false, leb-false, eqb-true, ne_eqb, Ok}
use Rattle.laws.specs.Refusals.{first}
use Rattle.laws.proofs.Refusals.{accepted_failed, failed_both}
use Rattle.laws.proofs.Rows.{row_fits}
use Rattle.image.specs.declared.layout.Layout.{Layout}
use Rattle.image.specs.Tests.{div_ceil, layout_tests}
use Rattle.image.specs.Inner.Tests.{Sound}
use Rattle.image.specs.Samples.{Plane}
use Rattle.image.proofs.Layouts.{sound}
use Rattle.image.proofs.Holding.{row_inside, short_holds}
use Rattle.upsample.specs.Triangular.{bad_triangular, triangular_tests}
use Rattle.upsample.specs.Inner.Pairs.{RowsInside, Doubled, Taken}
use Rattle.upsample.specs.declared.rows.CellRows.{CellRows}

-- ---- all refusals passed

pub taken : (l : Layout) (p : Plane) (room : ℕ) → first (triangular_tests l p room) ≡ Ok tt → Taken l p room
unfolding triangular_tests
taken l p room e =
    let f = failed_both (layout_tests false l) _ (accepted_failed (triangular_tests l p room) e) in
    record {
      size = sound false l f.0;
      kind = f.1.0;
      plane = f.1.1.1.0;
      output = ltb-false room (l.w * l.h) f.1.1.1.1.1.0;
    }

-- ---- the three kinds

pub across_kind : (l : Layout) → bad_triangular l ≡ false → l.rv ≡ 1 → (l.rh ≡ 2) × (2 < l.cw)
unfolding bad_triangular
across_kind l b e =
    let w = go (eqb l.rh 2) (eqb l.rh 1) (leb l.cw 2) (rw e at b) in
    (eqb-true l.rh 2 w.0, leb-false l.cw 2 w.1)
  where
    go : (a c e : Bool) → (not ((a && true) || ((c && false) || (a && false))) || (a && e)) ≡ false → (a ≡ true) × (e ≡ false)
    go true c e h = (refl, h)
    go false true e h = let z : ◌≡◌ {A = ℕ} 0 1 = cc in absurd (omega arith)
    go false false e h = let z : ◌≡◌ {A = ℕ} 0 1 = cc in absurd (omega arith)

pub two_down : (l : Layout) → bad_triangular l ≡ false → (l.rv ≡ 1 → ⊥) → l.rv ≡ 2
unfolding bad_triangular
two_down l b e = eqb-true l.rv 2 (go (eqb l.rh 2) (eqb l.rh 1) (eqb l.rv 2) (leb l.cw 2) (rw (ne_eqb l.rv 1 e) at b))
  where
    go : (a c d e : Bool) → (not ((a && false) || ((c && d) || (a && d))) || (a && e)) ≡ false → d ≡ true
    go a c true e h = refl
    go true true false e h = let z : ◌≡◌ {A = ℕ} 0 1 = cc in absurd (omega arith)
    go true false false e h = let z : ◌≡◌ {A = ℕ} 0 1 = cc in absurd (omega arith)
    go false true false e h = let z : ◌≡◌ {A = ℕ} 0 1 = cc in absurd (omega arith)
    go false false false e h = let z : ◌≡◌ {A = ℕ} 0 1 = cc in absurd (omega arith)

pub both_kind : (l : Layout) → bad_triangular l ≡ false → (l.rh ≡ 1 → ⊥) → (l.rh ≡ 2) × (2 < l.cw)
unfolding bad_triangular
both_kind l b f =
    let w = go (eqb l.rh 2) (eqb l.rv 1) (eqb l.rv 2) (leb l.cw 2) (rw (ne_eqb l.rh 1 f) at b) in
    (eqb-true l.rh 2 w.0, leb-false l.cw 2 w.1)
  where
    go : (a b d e : Bool) → (not ((a && b) || (false || (a && d))) || (a && e)) ≡ false → (a ≡ true) × (e ≡ false)
    go true true d e h = (refl, h)
    go true false true e h = (refl, h)
    go true false false e h = let z : ◌≡◌ {A = ℕ} 0 1 = cc in absurd (omega arith)
    go false b d e h = let z : ◌≡◌ {A = ℕ} 0 1 = cc in absurd (omega arith)

-- cells that are halves of the width, more than two
pub doubled : (l : Layout) → Sound l → l.rh ≡ 2 → 2 < l.cw → Doubled l.cw l.w
unfolding div_ceil
doubled l s e h =
    let d : l.cw ≡ (l.w + 1) / 2 = rw e at s.cw_is in
    record { wide = h; least = omega arith; most = omega arith }

-- ---- what each call that a row makes is handed

module _ {l : Layout} {p : Plane} {room : ℕ} (t : Taken l p room) where
  -- row y of the output
  pub output_row : (y : ℕ) → y < l.h → y * l.w + l.w ≤ room
  output_row y h = omega (arith, t.output, row_fits y l.h l.w h)

  -- row j of cells
  pub cell_row : (j : ℕ) → j < l.ch → j * p.stride + l.cw * l.sample_bytes ≤ length p.bytes
  cell_row j h = row_inside (short_holds l l.cw l.ch p t.plane) j h

  -- rows j and k of cells
  pub cell_rows : (r : CellRows) → r.bytes.now ≡ p.bytes → (j k : ℕ) → j < l.ch → k < l.ch → r.near ≡ j * p.stride → r.far ≡ k * p.stride → RowsInside l.sample_bytes l.cw r
  cell_rows r b j k h i n f =
      record { one = t.size.bytes_some; two = t.size.bytes_most; near = rw (b, n) (cell_row j h); far = rw (b, f) (cell_row k i) }

  -- where the output has as many columns, they are as many samples
  pub cells_all : l.rh ≡ 1 → (r : CellRows) → RowsInside l.sample_bytes l.cw r → RowsInside l.sample_bytes l.w r
  unfolding div_ceil
  cells_all a r o =
      let d : l.cw ≡ (l.w + 0) / 1 = rw a at t.size.cw_is in
      let q : l.cw ≡ l.w = omega arith in
      rw q at o

  -- the cell row of output row y, at either ratio down
  pub near_one : l.rv ≡ 1 → (y : ℕ) → y < l.h → y < l.ch
  unfolding div_ceil
  near_one a y h = let d : l.ch ≡ (l.h + 0) / 1 = rw a at t.size.ch_is in omega arith

  pub near_two : (l.rv ≡ 1 → ⊥) → (y : ℕ) → y < l.h → y / 2 < l.ch
  unfolding div_ceil
  near_two n y h =
      let d : l.ch ≡ (l.h + 1) / 2 = rw (two_down l t.kind n) at t.size.ch_is in omega arith

  -- two outputs a cell, at either ratio that has them
  pub doubled_one : l.rv ≡ 1 → Doubled l.cw l.w
  doubled_one a = let k = across_kind l t.kind a in doubled l t.size k.0 k.1

  pub doubled_two : (l.rh ≡ 1 → ⊥) → Doubled l.cw l.w
  doubled_two n = let k = both_kind l t.kind n in doubled l t.size k.0 k.1
