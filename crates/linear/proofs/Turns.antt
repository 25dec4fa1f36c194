-- Ratios that aren't whole: output o + r·i lies num·i cells past output o, with the same fraction (`turned`). Its place is num·i·d parts further, d to a
-- cell (`place_turned`), and those are whole cells (`place_period`); the cells are there because num·n of them, and one more, cover n turns.
use Rattle.std.proofs.Common.{◌≡◌, refl, sym, ap, subst, ◌∙◌, ℕ, suc, ◌+◌, ◌-◌, ◌*◌, ◌/◌, ◌%◌, ◌≤◌, ◌<◌, le_trans, mul-le-mul_left, mul-le-mul_right, div-add-mod', mod-lt, div-lt_iff_lt-mul, div-mul-le_self, lt_of_mul-lt-mul_right, suc-mul, arith, lit≤, ne_eqb, le-ltb, List, get_or, Float}
use lib.Arith.{digits_div, digits_mod}
use borrow.Author.Tests.{lt-leb}
use lib.Ieee.{nan}
use Rattle.image.specs.Scratch.{cell_at}
use Rattle.linear.specs.declared.cycles.Cycle.{Cycle}
use Rattle.linear.specs.declared.rows.Row.{Row}
use Rattle.laws.specs.declared.axes.Siting.{Siting}
use Rattle.laws.specs.declared.axes.Siting.TheVariants.{Centred, CoSited}
use Rattle.laws.specs.declared.axes.Axis.{Axis}
use Rattle.taps.specs.declared.positions.Tap.{Tap}
use Rattle.taps.specs.Taps.{Spot, lerp_of, fraction_of, spot_at, sited_at, spot_of, tap_on, tap_by}
use Rattle.linear.specs.Linear.{across_by}
use Rattle.linear.specs.Inner.AcrossRows.{RowFits, Turning, first_of, Cycled, cycle_at}

-- output o lies place_of / whole_of cells past the first
abbrev whole_of : Siting → ℕ → ℕ
whole_of Centred r = 2 * r
whole_of CoSited r = r

abbrev place_of : Siting → ℕ → ℕ → ℕ → ℕ
place_of Centred num r o = (2 * o + 1) * num - r
place_of CoSited num r o = o * num

-- it is not below it
abbrev Past : Siting → ℕ → ℕ → ℕ → Type 0
Past Centred num r o = r ≤ (2 * o + 1) * num
Past CoSited num r o = Unit {0}

whole_some : (sit : Siting) (r : ℕ) → 0 < r → 0 < whole_of sit r
whole_some Centred r z = omega arith
whole_some CoSited r z = z

between_sited : (sit : Siting) (num r len o : ℕ) → (num ≡ r → ⊥) → Past sit num r o → place_of sit num r o / whole_of sit r + 1 < len
    → spot_of sit num r len o ≡ record { near = place_of sit num r o / whole_of sit r; far = place_of sit num r o / whole_of sit r + 1; k = place_of sit num r o % whole_of sit r; d = whole_of sit r }
unfolding spot_of sited_at spot_at
between_sited Centred num r len o ne p h = rw (ne_eqb num r ne, le-ltb ((2 * o + 1) * num) r p, lt-leb (len - 1) (((2 * o + 1) * num - r) / (2 * r)) (omega arith)) refl
between_sited CoSited num r len o ne p h = rw (ne_eqb num r ne, lt-leb (len - 1) (o * num / r) (omega arith)) refl

-- a place n·d further is n cells further, with the same part
place_period : (m d n : ℕ) → 0 < d → ((m + n * d) / d ≡ m / d + n) × ((m + n * d) % d ≡ m % d)
place_period m d n z =
    let q = m / d in
    let j = m % d in
    let e : q * d + j ≡ m = div-add-mod' m d in
    let l : j < d = mod-lt m z in
    let x : m + n * d ≡ (q + n) * d + j = go q j e in
    (ap (λ (v : ℕ). v / d) x ∙ digits_div (q + n) l, ap (λ (v : ℕ). v % d) x ∙ digits_mod (q + n) l)
  where
    go : (q j : ℕ) → q * d + j ≡ m → m + n * d ≡ (q + n) * d + j
    go q j e = omega arith

place_turned : (sit : Siting) (num r o i : ℕ) → Past sit num r o → place_of sit num r (o + r * i) ≡ place_of sit num r o + num * i * whole_of sit r
place_turned Centred num r o i h = let e : (2 * (o + r * i) + 1) * num ≡ (2 * o + 1) * num + num * i * (2 * r) = omega arith in omega arith
place_turned CoSited num r o i h = omega arith

past_turned : (sit : Siting) (num r o x : ℕ) → Past sit num r o → Past sit num r (o + x)
past_turned Centred num r o x h = le_trans h (mul-le-mul_right num (omega arith))
past_turned CoSited num r o x h = tt

-- the outputs of the first turn are not below the first cell, and lie before cell num
past_first : (sit : Siting) (num r k : ℕ) → 1 < num → r ≤ 4 → Past sit num r (first_of sit + k)
past_first Centred num r k h l = let e : (2 * (1 + k) + 1) * num ≡ 3 * num + 2 * (k * num) = omega arith in omega arith
past_first CoSited num r k h l = tt

place_first : (sit : Siting) (num r k : ℕ) → 0 < num → num < r → k < r → place_of sit num r (first_of sit + k) < num * whole_of sit r
place_first Centred num r k z h l = let e : (2 * (1 + k) + 1) * num ≤ (2 * r + 1) * num = mul-le-mul_right num (omega arith) in omega arith
place_first CoSited num r k z h l = let e : suc k * num ≤ r * num = mul-le-mul_right num l in omega (arith, suc-mul k num)

-- output k of turn i: the cells of turn 0's, num·i further, which are there, and its fraction
pub record Turned (a : Axis) (r len from k i : ℕ) : Type 0 where
  pub is : tap_by a r len (from + (r * i + k)) ≡ record { i0 = a.num * i + (tap_by a r len (from + k)).i0; i1 = a.num * i + ((tap_by a r len (from + k)).i0 + 1); f = (tap_by a r len (from + k)).f }
  pub inside : a.num * i + ((tap_by a r len (from + k)).i0 + 1) < len

pub turned : (a : Axis) (r len n k i : ℕ) → 1 < a.num → a.num < r → r ≤ 4 → a.num * n < len → k < r → i < n → Turned a r len (first_of a.siting) k i
unfolding tap_by
turned a r len n k i h g t l kl il =
    let sit = a.siting in
    let num = a.num in
    let o = first_of sit + k in
    let d = whole_of sit r in
    let m = place_of sit num r o in
    let q = m / d in
    let z : 0 < d = whole_some sit r (omega arith) in
    let ne : num ≡ r → ⊥ = λ (e : num ≡ r). omega arith in
    let p : Past sit num r o = past_first sit num r k h t in
    let ql : q < num = (div-lt_iff_lt-mul z).1 (place_first sit num r k (omega arith) g kl) in
    let room : num * i + (q + 1) < len = fits num q (mul-le-mul_left num il) ql l in
    let b = between_sited sit num r len o ne p (less (num * i) q room) in
    let pp = place_period m d (num * i) z in
    let mt : place_of sit num r (o + r * i) ≡ m + num * i * d = place_turned sit num r o i p in
    let dv : place_of sit num r (o + r * i) / d ≡ q + num * i = ap (λ (x : ℕ). x / d) mt ∙ pp.0 in
    let md : place_of sit num r (o + r * i) % d ≡ m % d = ap (λ (x : ℕ). x % d) mt ∙ pp.1 in
    let c = between_sited sit num r len (o + r * i) ne (past_turned sit num r o (r * i) p) (rw dv (swap q (num * i) room)) in
    record {
      is =
          ap (λ (x : ℕ). tap_on (spot_of sit num r len x)) (order (first_of sit) (r * i))
          ∙ ap tap_on c
          ∙ same (place_of sit num r (o + r * i) / d) (place_of sit num r (o + r * i) % d) q (m % d) d (num * i) dv md
          ∙ ap (λ (s : Spot). record { i0 = num * i + s.near; i1 = num * i + (s.near + 1); f = fraction_of s.k s.d }) (sym b);
      inside = rw b room;
    }
  where
    fits : (num q : ℕ) → num * suc i ≤ num * n → q < num → num * n < len → num * i + (q + 1) < len
    fits num q x y z = omega arith

    less : (x q : ℕ) → x + (q + 1) < len → q + 1 < len
    less x q h = omega arith

    swap : (q x : ℕ) → x + (q + 1) < len → q + x + 1 < len
    swap q x h = omega arith

    order : (f x : ℕ) → f + (x + k) ≡ f + k + x
    order f x = omega arith

    same : (a b q j d x : ℕ) → a ≡ q + x → b ≡ j → tap_on (record { near = a; far = a + 1; k = b; d = d }) ≡ record { i0 = x + q; i1 = x + (q + 1); f = fraction_of j d }
    same a b q j d x e f = let g : q + x ≡ x + q = omega arith in let h : q + x + 1 ≡ x + (q + 1) = omega arith in rw (e, f, h, g) refl

pub turned_from : (row : Row) (from n k i : ℕ) → Turning row from n → row.r ≤ 4 → k < row.r → i < n → Turned row.axis row.r row.cw from k i
turned_from row from n k i t r kl il = subst (λ (x : ℕ). Turned row.axis row.r row.cw x k i) (sym t.begins) (turned row.axis row.r row.cw n k i t.num t.ratio r t.cells kl il)

-- as a loop that has the cells and fractions of a turn stores it, over a list whose cells are the same
pub turn_is : (row : Row) (from k i : ℕ) (c : Cycle) (s t : List Float) → Turned row.axis row.r row.cw from k i → Cycled row from c → k < row.r
    → ((x : ℕ) → cell_at s row.src x ≡ cell_at t row.src x) → cycle_at c s (row.src + row.axis.num * i) k ≡ across_by (tap_by row.axis row.r row.cw (from + (row.r * i + k))) (cell_at t row.src)
turn_is row from k i c s t d o l same =
    let src = row.src in
    let x = row.axis.num * i in
    let C = get_or c.cells k 0 in
    let T = tap_by row.axis row.r row.cw (from + k) in
    let e : C ≡ T.i0 = o.cell k l in
    lerp_same _ _ _ _ _ _
    (ap (λ (n : ℕ). get_or s n nan) (place src x C) ∙ same (x + C) ∙ ap (λ (n : ℕ). cell_at t src (x + n)) e)
    (ap (λ (n : ℕ). get_or s n nan) (place src x (C + 1)) ∙ same (x + (C + 1)) ∙ ap (λ (n : ℕ). cell_at t src (x + (n + 1))) e) (o.part k l)
    ∙ sym (ap (λ (u : Tap). across_by u (cell_at t src)) d.is)
  where
    place : (a b c : ℕ) → a + b + c ≡ a + (b + c)
    place a b c = omega arith

    lerp_same : (a b f a' b' f' : Float) → a ≡ a' → b ≡ b' → f ≡ f' → lerp_of a b f ≡ lerp_of a' b' f'
    lerp_same a b f a' b' f' p q e = rw (p, q, e) refl

first_small : (sit : Siting) → first_of sit ≤ 1
first_small Centred = lit≤ tt
first_small CoSited = lit≤ tt

-- the turns that fit behind the first outputs: they lie within the row, and their cells within the cells
pub turns_fit : (row : Row) (from len : ℕ) → RowFits row len → from ≡ first_of row.axis.siting → 1 < row.axis.num → row.axis.num < row.r → Turning row from ((row.w - 1) / row.r)
turns_fit row from len o e p h =
    let f : from ≤ 1 = rw e (first_small row.axis.siting) in
    let d : (w - 1) / r * r ≤ w - 1 = div-mul-le_self (w - 1) r in
    record { num = p; ratio = h; begins = e; small = f; outputs = go ((w - 1) / r) f d o.w_some; cells = lt_of_mul ((w - 1) / r) d }
  where
    w : ℕ
    w = row.w

    r : ℕ
    r = row.r

    num : ℕ
    num = row.axis.num

    go : (q : ℕ) → from ≤ 1 → q * r ≤ w - 1 → 0 < w → from + r * q ≤ w
    go q f d l = omega arith

    lt_of_mul : (q : ℕ) → q * r ≤ w - 1 → num * q < row.cw
    lt_of_mul q d =
        let l = o.w_some in
        let b : suc (w - 1) ≡ w = omega arith in
        lt_of_mul-lt-mul_right r (under q (w - 1) (mul-le-mul_right num d) (subst (λ (x : ℕ). x * num ≤ row.cw * r) (sym b) o.over))
      where
        under : (q v : ℕ) → q * r * num ≤ v * num → suc v * num ≤ row.cw * r → num * q * r < row.cw * r
        under q v a c = omega (arith, suc-mul v num)
