-- A lerp never leaves the span of its two ends, for ends that are not negative and a fraction from 0 to 7 / 8: the rounded part of the
-- rounded difference is at most the exact difference. That is the hard step, `portion_within`: two roundings add less than 1 / 8 of it.
use Rattle.std.proofs.Common.{◌≡◌, sym, ap, subst, Bool, true, false, not, ℕ, ◌+◌, ◌-◌, ◌*◌, ◌^◌, ◌≤◌, ◌<◌, le_refl, le_trans, le_of_eq, lt_of_le_of_lt, mul-one, mul-pos, mul-le-mul_right, le_of_mul-le-mul_right, arith, T, ltb, ltb→lt, nltb→le, lit≤, lit<, pow_pos, Float}
use lib.IntN.{pos}
use lib.Ieee.{nan, inf, fin, binary32, up, down, fits, round, sub, mul, le}
use lib.Ieee.Fits.{add-fits, of_int-fits}
use lib.Ieee.Exact.{HasValue}
use lib.Ieee.Order.{le_of_values}
use lib.Ieee.Scale.{grid}
use Rattle.laws.specs.Floats.{f32}
use Rattle.laws.proofs.Values.{whole_value}
use Rattle.taps.specs.Taps.{Spot, lerp_of, fraction_of, tap_on}
use Rattle.linear.specs.Linear.{down_by, across_by}
use Rattle.linear.specs.Bound.{Spanned}
use Rattle.taps.proofs.Spots.{Valid}
use Rattle.taps.proofs.Table.{Fraction, tap_fraction}
use Rattle.laws.proofs.Units.{Kept, round_over, round_value, under_kept, round_most, round_least, kept_float}
use Rattle.laws.proofs.Operators.{sub_up, sub_down, add_up, add_down, mul_by}

-- ---- in units of 2 ^ -149: the difference D rounded, and F / G of that, rounded
abbrev diff : ℕ → ℕ
diff D = grid binary32 D (2 ^ 149)

abbrev portion : ℕ → ℕ → ℕ → ℕ
portion F G D = grid binary32 (F * diff D) (G * 2 ^ 149)

-- 2 ^ 16 is far from an overflow
far_under : (X : ℕ) → X ≤ 2 ^ 165 → 2 * X + 1 < 2 ^ 277
far_under X h = go (2 ^ 165) (2 ^ 277) h (lit< tt)
  where
    go : (b o : ℕ) → X ≤ b → 2 * b + 1 < o → 2 * X + 1 < o
    go b o h l = omega arith

-- a difference of samples is far from an overflow too, so that it has a value
diff_under : (D : ℕ) → D ≤ 2 ^ 165 → diff D < 2 ^ 277
diff_under D h = under_kept D (2 ^ 149) D (pow_pos 149) (le_refl (D * 2 ^ 149)) (far_under D h)

-- the difference is over by 2 ^ -24 and half a unit at most, and its part by as much again
diff_over : (D : ℕ) → 0x100_0000 * diff D ≤ 0x100_0001 * D + 0x80_0000
diff_over D = le_of_mul-le-mul_right (go (diff D) (2 ^ 149) (round_over D (2 ^ 149) (pow_pos 149))) (pow_pos 149)
  where
    go : (d U : ℕ) → 0x100_0000 * (d * U) ≤ 0x100_0001 * (D * U) + 0x80_0000 * U → 0x100_0000 * d * U ≤ (0x100_0001 * D + 0x80_0000) * U
    go d U h = omega arith

portion_over : (F G D : ℕ) → 0 < G → 8 * F ≤ 7 * G → 0x800_0000 * portion F G D ≤ 0x700_0007 * diff D + 0x400_0000
portion_over F G D z l = le_of_mul-le-mul_right (go (portion F G D) (diff D) (2 ^ 149) (round_over (F * diff D) (G * 2 ^ 149) (mul-pos z (pow_pos 149)))) (mul-pos z (pow_pos 149))
  where
    go : (t d U : ℕ) → 0x100_0000 * (t * (G * U)) ≤ 0x100_0001 * (F * d * U) + 0x80_0000 * (G * U) → 0x800_0000 * t * (G * U) ≤ (0x700_0007 * d + 0x400_0000) * (G * U)
    go t d U h = omega (arith, mul-le-mul_right (d * U) l)

-- 7 / 8 leaves room for two roundings, and what is less than one unit too much is none
portion_within : (F G D : ℕ) → 0 < G → 8 * F ≤ 7 * G → portion F G D ≤ D
portion_within F G D z l = go (portion F G D) (diff D) (diff_over D) (portion_over F G D z l)
  where
    go : (t d : ℕ) → 0x100_0000 * d ≤ 0x100_0001 * D + 0x80_0000 → 0x800_0000 * t ≤ 0x700_0007 * d + 0x400_0000 → t ≤ D
    go t d a b = omega arith

-- ---- a float with a value from lo to hi, in units
pub record Held (x : Float) (lo hi : ℕ) : Type 0 where
  pub units : ℕ
  pub value : HasValue x false units (2 ^ 149)
  pub fit : T (fits binary32 x)
  pub low : lo ≤ units
  pub high : units ≤ hi

-- a narrower span is inside a wider one
held_wider : (x : Float) (a b lo hi : ℕ) → lo ≤ a → b ≤ hi → Held x a b → Held x lo hi
held_wider x a b lo hi l m h = record { units = h.units; value = h.value; fit = h.fit; low = le_trans l h.low; high = le_trans h.high m }

-- a rounding between two kept numbers lies between them
between : (x : Float) (R A B : ℕ) → T (fits binary32 x) → x ≡ round binary32 false R (2 ^ 149) → Kept A → Kept B → A ≤ R → R ≤ B → Held x A B
between x R A B t e a b l m =
    let u : R * 2 ^ 149 ≤ B * 2 ^ 149 = mul-le-mul_right (2 ^ 149) m in
    let o : grid binary32 R (2 ^ 149) < 2 ^ 277 = under_kept R (2 ^ 149) B (pow_pos 149) u b.under in
    record {
      units = grid binary32 R (2 ^ 149);
      value = subst (λ (y : Float). HasValue y false (grid binary32 R (2 ^ 149)) (2 ^ 149)) (sym e) (round_value false R (2 ^ 149) o);
      fit = t;
      low = round_least R (2 ^ 149) A (pow_pos 149) a o (mul-le-mul_right (2 ^ 149) l);
      high = round_most R (2 ^ 149) B (pow_pos 149) b u;
    }

-- the product of the fraction and a rounded difference, in units
product : (f y : Float) (s : Bool) (F G D : ℕ) → 0 < G → 8 * F ≤ 7 * G → D ≤ 2 ^ 165 → HasValue f false F G → y ≡ round binary32 s D (2 ^ 149) → HasValue (mul binary32 f y) s (portion F G D) (2 ^ 149)
product f y s F G D z l h v e =
    let d : HasValue y s (diff D) (2 ^ 149) = subst (λ (x : Float). HasValue x s (diff D) (2 ^ 149)) (sym e) (round_value s D (2 ^ 149) (diff_under D h)) in
    let o : portion F G D < 2 ^ 277 = lt_of_le_of_lt (le_trans (portion_within F G D z l) h) (lit< tt) in
    subst (λ (x : Float). HasValue x s (portion F G D) (2 ^ 149)) (sym (mul_by binary32 f y s F G (diff D) (2 ^ 149) z (pow_pos 149) v d)) (round_value s (F * diff D) (G * 2 ^ 149) o)

less : (x y : ℕ) → x - y ≤ x
less x y = omega arith

module _ (a b f : Float) (A B F G : ℕ) (z : 0 < G) (l : 8 * F ≤ 7 * G) (v : HasValue f false F G) (p : HasValue a false A (2 ^ 149)) (q : HasValue b false B (2 ^ 149)) (k : Kept A) (m : Kept B) where
  -- upward: the first end and at most the difference more
  lerp_up : A ≤ B → B ≤ 2 ^ 165 → Held (lerp_of a b f) A B
  lerp_up h t =
      let y = mul binary32 f (sub binary32 b a) in
      let w : portion F G (B - A) ≤ B - A = portion_within F G (B - A) z l in
      let g : HasValue y false (portion F G (B - A)) (2 ^ 149) =
      product f (sub binary32 b a) false F G (B - A) z l (le_trans (less B A) t) v (sub_up binary32 b a B A (2 ^ 149) (pow_pos 149) q p h) in
      between (lerp_of a b f) (A + portion F G (B - A)) A B (add-fits binary32 a y) (add_up binary32 a y A (portion F G (B - A)) (2 ^ 149) (pow_pos 149) p g) k m (more A (portion F G (B - A))) (room (portion F G (B - A)) h w)
    where
      more : (x y : ℕ) → x ≤ x + y
      more x y = omega arith

      room : (t : ℕ) → A ≤ B → t ≤ B - A → A + t ≤ B
      room t h w = omega arith

  -- downward: the first end and at most the difference less
  lerp_down : B < A → A ≤ 2 ^ 165 → Held (lerp_of a b f) B A
  lerp_down h t =
      let y = mul binary32 f (sub binary32 b a) in
      let w : portion F G (A - B) ≤ A - B = portion_within F G (A - B) z l in
      let g : HasValue y true (portion F G (A - B)) (2 ^ 149) =
      product f (sub binary32 b a) true F G (A - B) z l (le_trans (less A B) t) v (sub_down binary32 b a B A (2 ^ 149) (pow_pos 149) q p h) in
      between (lerp_of a b f) (A - portion F G (A - B)) B A (add-fits binary32 a y) (add_down binary32 a y A (portion F G (A - B)) (2 ^ 149) (pow_pos 149) p g (le_trans w (less A B))) m k (room (portion F G (A - B)) h w) (less A (portion F G (A - B)))
    where
      room : (t : ℕ) → B < A → t ≤ A - B → B ≤ A - t
      room t h w = omega arith

-- a lerp by a fraction of the table stays where both ends are
pub lerp_held : (a b f : Float) (k d lo hi : ℕ) → hi ≤ 2 ^ 165 → Fraction f k d → Held a lo hi → Held b lo hi → Held (lerp_of a b f) lo hi
lerp_held a b f k d lo hi t v p q = go (ltb q.units p.units) (ltb→lt q.units p.units) (nltb→le q.units p.units)
  where
    kept : (x : Float) (h : Held x lo hi) → Kept h.units
    kept x h = kept_float x false h.units h.fit h.value (far_under h.units (le_trans h.high t))

    go : (c : Bool) → (T c → q.units < p.units) → (T (not c) → p.units ≤ q.units) → Held (lerp_of a b f) lo hi
    go true m n =
        held_wider (lerp_of a b f) q.units p.units lo hi q.low p.high
        (lerp_down a b f p.units q.units v.F v.G v.some v.most v.value p.value q.value (kept a p) (kept b q) (m tt) (le_trans p.high t))
    go false m n =
        held_wider (lerp_of a b f) p.units q.units lo hi p.low q.high
        (lerp_up a b f p.units q.units v.F v.G v.some v.most v.value p.value q.value (kept a p) (kept b q) (n tt) (le_trans q.high t))

-- ---- down, then across

-- a whole number in units
in_units : (x : Float) (s : Bool) (n U : ℕ) → HasValue x s n 1 → HasValue x s (n * U) U
in_units nan s n U v = v
in_units (inf t) s n U v = v
in_units (fin t m e) s n U v = (v.0, go (m * up e) (down e) v.1)
  where
    go : (M D : ℕ) → M * 1 ≡ n * D → M * U ≡ n * U * D
    go M D e = omega (arith, ap (λ (x : ℕ). x * U) e)

-- samples are below 2 ^ 16
sample_top : (hi : ℕ) → hi ≤ 65535 → hi * 2 ^ 149 ≤ 2 ^ 165
sample_top hi t = le_trans (mul-le-mul_right (2 ^ 149) t) (lit≤ tt)

-- a cell is held where its sample is
cell_held : (n lo hi : ℕ) → hi ≤ 65535 → (lo ≤ n) × (n ≤ hi) → Held (f32 n) (lo * 2 ^ 149) (hi * 2 ^ 149)
cell_held n lo hi t h =
    record {
      units = n * 2 ^ 149;
      value = in_units (f32 n) false n (2 ^ 149) (whole_value n (le_trans h.1 (le_trans t (lit≤ tt))));
      fit = of_int-fits binary32 (pos n);
      low = mul-le-mul_right (2 ^ 149) h.0;
      high = mul-le-mul_right (2 ^ 149) h.1;
    }

-- what is held between whole numbers lies between their floats
held_between : (x : Float) (lo hi : ℕ) → lo ≤ 65535 → hi ≤ 65535 → Held x (lo * 2 ^ 149) (hi * 2 ^ 149) → T (le (f32 lo) x) × T (le x (f32 hi))
held_between x lo hi l m h = (
  le_of_values (f32 lo) x lo 1 h.units (2 ^ 149) (lit≤ tt) (pow_pos 149) (whole_value lo (le_trans l (lit≤ tt))) h.value (le_trans h.low (le_of_eq (sym (mul-one h.units)))),
  le_of_values x (f32 hi) h.units (2 ^ 149) hi 1 (pow_pos 149) (lit≤ tt) h.value (whole_value hi (le_trans m (lit≤ tt))) (le_trans (le_of_eq (mul-one h.units)) h.high),
)

-- two cells of a column, lerped down
column_held : (a b : ℕ) (v : Spot) (lo hi : ℕ) → Valid v → hi ≤ 65535 → (lo ≤ a) × (a ≤ hi) → (lo ≤ b) × (b ≤ hi) → Held (lerp_of (f32 a) (f32 b) (fraction_of v.k v.d)) (lo * 2 ^ 149) (hi * 2 ^ 149)
column_held a b v lo hi p t g h =
    lerp_held (f32 a) (f32 b) (fraction_of v.k v.d) v.k v.d (lo * 2 ^ 149) (hi * 2 ^ 149) (sample_top hi t) (tap_fraction v.k v.d p.part p.small) (cell_held a lo hi t g) (cell_held b lo hi t h)

-- four cells by any two taps of the table stay between what the cells lie between
pub bilinear_between : (c : ℕ → ℕ → ℕ) (v h : Spot) → Valid v → Valid h → (lo hi : ℕ) → hi ≤ 65535 → Spanned c v h lo hi
    → T (le (f32 lo) (across_by (tap_on h) (down_by (tap_on v) c))) × T (le (across_by (tap_on h) (down_by (tap_on v) c)) (f32 hi))
bilinear_between c v h p q lo hi t s =
    held_between (across_by (tap_on h) (down_by (tap_on v) c)) lo hi (le_trans s.near_near.0 (le_trans s.near_near.1 t)) t
    (lerp_held (down_by (tap_on v) c h.near) (down_by (tap_on v) c h.far) (fraction_of h.k h.d) h.k h.d (lo * 2 ^ 149) (hi * 2 ^ 149) (sample_top hi t)
    (tap_fraction h.k h.d q.part q.small) (column_held (c v.near h.near) (c v.far h.near) v lo hi p t s.near_near s.far_near)
    (column_held (c v.near h.far) (c v.far h.far) v lo hi p t s.near_far s.far_far))
