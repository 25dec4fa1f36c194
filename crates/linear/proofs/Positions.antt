-- The exact bilinear value by positions is the exact value between the cells of the taps, so that what is near the one is near the other.
-- An output's spot and its position are held against each other by the cases of `spot_of` (`spot_position`): on a cell the position is a whole
-- number of cells, and between two cells it is the spot's own fraction.
use Rattle.std.proofs.Common.{◌≡◌, ap, ◌∙◌, ℕ, ◌+◌, ◌-◌, ◌*◌, ◌/◌, ◌%◌, ◌≤◌, ◌<◌, min, mul-le-mul_right, mul-div_cancel, div-lt_iff_lt-mul, le-div_iff_mul-le, arith, Float}
use native.Mathlib.Nat.{mul-mod_left}
use lib.Ieee.{nan, inf, fin, down}
use Rattle.laws.specs.declared.axes.Siting.{Siting}
use Rattle.laws.specs.declared.axes.Siting.TheVariants.{Centred, CoSited}
use Rattle.laws.specs.declared.axes.Axis.{Axis}
use Rattle.laws.specs.Inner.Floats.{NearFraction}
use Rattle.laws.proofs.Nearness.{near_widen, near_aim}
use Rattle.taps.specs.Taps.{Spot, on_cell, spot_of}
use Rattle.taps.proofs.Spots.{between, by_centred, by_co_sited, by_place}
use Rattle.linear.specs.Bound.{Position, centred_at, co_sited_at, placed_at, exact_between, exact_num, exact_den, Sixteenth}
use Rattle.linear.proofs.Bound.{mix, spot_num, spot_den}

-- the position's value is the spot's, both parts of the fraction times n
record Same (s : Spot) (t : Position) : Type 0 where
  n : ℕ
  den : t.q ≡ s.d * n
  num : (f : ℕ → ℕ) → exact_between t f ≡ mix (f s.near) (f s.far) s.k s.d * n

-- i cells of q parts each: on cell i
on_cell_is : (i q p : ℕ) → 0 < q → p ≡ i * q → Same (on_cell i) (record { p = p; q = q })
on_cell_is i q p z e = record { n = q; den = omega arith; num = λ f. rw (e, mul-div_cancel i z, mul-mod_left i q) (whole (f i) (f (i + 1)) (q - 0) (omega arith)) }
  where
    whole : (a b d : ℕ) → d ≡ q → d * a + 0 * b ≡ (a * 1 + a * 0) * q
    whole a b d e = omega (arith, ap (λ (x : ℕ). x * a) e)

-- one cell to an output: it lies o cells from the first, and before the last or on it
least : (a b c : ℕ) → a ≡ b → b ≤ c → min a c ≡ b
least a b c e h = omega arith

-- m parts of which d make a cell: between the cells of its quotient
in_between : (m d p : ℕ) → p ≡ m → Same (between m d) (record { p = p; q = d })
in_between m d p e = record { n = 1; den = omega arith; num = λ f. rw e (same (f (m / d)) (f (m / d + 1)) (d - m % d) (m % d)) }
  where
    same : (a b j k : ℕ) → j * a + k * b ≡ (a * j + b * k) * 1
    same a b j k = omega arith

-- an output's spot and its position, centred
centred_position : (num den len o : ℕ) → 0 < den → 0 < len → (num ≡ den → o < len) → Same (spot_of Centred num den len o) (centred_at num den len o)
unfolding centred_at
centred_position num den len o z L O =
    by_centred (λ (s : Spot). Same s (centred_at num den len o)) num den len o (λ e. on_cell_is o (2 * den) (centred_at num den len o).p (omega arith) (own e)) (λ h. on_cell_is 0 (2 * den) (centred_at num den len o).p (omega arith) (none h))
    (λ h. by_place (λ (s : Spot). Same s (centred_at num den len o)) ((2 * o + 1) * num - den) (2 * den) len
    (λ g. on_cell_is (len - 1) (2 * den) (centred_at num den len o).p (omega arith) (past ((le-div_iff_mul-le (omega arith)).0 g)))
    (λ g. in_between ((2 * o + 1) * num - den) (2 * den) (centred_at num den len o).p (before ((div-lt_iff_lt-mul (omega arith)).0 g))))
  where
    own : num ≡ den → (centred_at num den len o).p ≡ o * (2 * den)
    own e =
        let i : o ≤ len - 1 = (let h = O e in omega arith) in
        let m : (2 * o + 1) * num ≡ (2 * o + 1) * den = ap (λ (x : ℕ). (2 * o + 1) * x) e in
        let k : (2 * o + 1) * num - den ≡ o * (2 * den) = omega arith in
        let h : o * (2 * den) ≤ (len - 1) * (2 * den) = mul-le-mul_right (2 * den) i in
        least _ _ _ k h

    none : (2 * o + 1) * num < den → (centred_at num den len o).p ≡ 0 * (2 * den)
    none h = omega arith

    past : (len - 1) * (2 * den) ≤ (2 * o + 1) * num - den → (centred_at num den len o).p ≡ (len - 1) * (2 * den)
    past h = omega arith

    before : (2 * o + 1) * num - den < (len - 1) * (2 * den) → (centred_at num den len o).p ≡ (2 * o + 1) * num - den
    before h = omega arith

-- co-sited
co_sited_position : (num den len o : ℕ) → 0 < den → 0 < len → (num ≡ den → o < len) → Same (spot_of CoSited num den len o) (co_sited_at num den len o)
unfolding co_sited_at
co_sited_position num den len o z L O =
    by_co_sited (λ (s : Spot). Same s (co_sited_at num den len o)) num den len o (λ e. on_cell_is o den (co_sited_at num den len o).p z (own e))
    (by_place (λ (s : Spot). Same s (co_sited_at num den len o)) (o * num) den len
    (λ g. on_cell_is (len - 1) den (co_sited_at num den len o).p z (past ((le-div_iff_mul-le z).0 g)))
    (λ g. in_between (o * num) den (co_sited_at num den len o).p (before ((div-lt_iff_lt-mul z).0 g))))
  where
    own : num ≡ den → (co_sited_at num den len o).p ≡ o * den
    own e =
        let i : o ≤ len - 1 = (let h = O e in omega arith) in
        least _ _ _ (ap (λ (x : ℕ). o * x) e) (mul-le-mul_right den i)

    past : (len - 1) * den ≤ o * num → (co_sited_at num den len o).p ≡ (len - 1) * den
    past h = omega arith

    before : o * num < (len - 1) * den → (co_sited_at num den len o).p ≡ o * num
    before h = omega arith

spot_position : (siting : Siting) (num den len o : ℕ) → 0 < den → 0 < len → (num ≡ den → o < len) → Same (spot_of siting num den len o) (placed_at siting num den len o)
spot_position Centred num den len o z L O = centred_position num den len o z L O
spot_position CoSited num den len o z L O = co_sited_position num den len o z L O

-- sixteen 256ths are a sixteenth
pub sixteenth : (x : Float) (num den : ℕ) → NearFraction x num 0 den 16 → Sixteenth x num den
sixteenth nan num den h = h
sixteenth (inf s) num den h = h
sixteenth (fin s m e) num den h = record { above = omega arith; below = omega arith }

module _ (c : ℕ → ℕ → ℕ) (v h : Spot) (p q : Position) (a : Same v p) (b : Same h q) where
  -- the cells of column i, down
  column : (i : ℕ) → exact_between p (λ j. c j i) ≡ mix (c v.near i) (c v.far i) v.k v.d * a.n
  column i = a.num (λ j. c j i)

  num_is : exact_num c p q ≡ spot_num c v h * (a.n * b.n)
  num_is = b.num (λ i. exact_between p (λ j. c j i)) ∙ rw (column h.near, column h.far) (regroup _ _ (h.d - h.k) h.k a.n b.n)
    where
      regroup : (x y j k s t : ℕ) → (x * s * j + y * s * k) * t ≡ (x * j + y * k) * (s * t)
      regroup x y j k s t = omega arith

  den_is : exact_den p q ≡ spot_den v h * (a.n * b.n)
  den_is = rw (a.den, b.den) (regroup v.d h.d a.n b.n)
    where
      regroup : (x y s t : ℕ) → x * s * (y * t) ≡ x * y * (s * t)
      regroup x y s t = omega arith

  near_both : (x : Float) (e : ℕ) → NearFraction x (spot_num c v h) 0 (spot_den v h) e → NearFraction x (exact_num c p q) 0 (exact_den p q) e
  near_both x e g =
      let n = a.n * b.n in
      rw (num_is, den_is) (near_aim x (spot_num c v h * n) (0 * n) (spot_den v h * n) e (spot_num c v h * n) 0 (omega arith) (near_widen x (spot_num c v h) 0 (spot_den v h) e n g))

-- what is within e / 256 of the value by two outputs' spots is so of the value by their positions, by either siting and any pair on each axis
pub position_near : (c : ℕ → ℕ → ℕ) (down across : Axis) (rv ch y rh cw x : ℕ) → 0 < rv → 0 < ch → (down.num ≡ rv → y < ch) → 0 < rh → 0 < cw → (across.num ≡ rh → x < cw)
    → (z : Float) (e : ℕ) → NearFraction z (spot_num c (spot_of down.siting down.num rv ch y) (spot_of across.siting across.num rh cw x)) 0 (spot_den (spot_of down.siting down.num rv ch y) (spot_of across.siting across.num rh cw x)) e
    → NearFraction z (exact_num c (placed_at down.siting down.num rv ch y) (placed_at across.siting across.num rh cw x)) 0 (exact_den (placed_at down.siting down.num rv ch y) (placed_at across.siting across.num rh cw x)) e
position_near c down across rv ch y rh cw x a b Y d f X z e g =
    near_both c (spot_of down.siting down.num rv ch y) (spot_of across.siting across.num rh cw x) (placed_at down.siting down.num rv ch y) (placed_at across.siting across.num rh cw x)
    (spot_position down.siting down.num rv ch y a b Y) (spot_position across.siting across.num rh cw x d f X) z e g

-- the denominator of a position is the ratio or its double
pub placed_some : (siting : Siting) (num den len o : ℕ) → 0 < den → 0 < (placed_at siting num den len o).q
unfolding centred_at co_sited_at
placed_some Centred num den len o z = omega arith
placed_some CoSited num den len o z = z
