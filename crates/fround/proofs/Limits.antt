-- x limited to 0 .. max by two comparisons, and what the limit does to the rounding.
-- `low` and `high` go by the cases of x: what is limited rounds to the limit, and the rest is left. The hard step is in `high`, where
-- a comparison with the float of max becomes one of x's fraction with max (`cross_lt`, `cross_le`).
use Rattle.std.proofs.Common.{◌≡◌, refl, sym, ap, ◌∙◌, subst, ℕ, ◌*◌, ◌≤◌, ◌<◌, min, zero-le, le_of_eq, le_trans, le_of_lt, lt_of_lt_of_le, mul-one, mul_right_comm, lt_of_mul-lt-mul_right, le_of_mul-le-mul_right, arith, Bool, true, false, not, cond, true≢false, T, ltb, ltb→lt, nltb→le, Float}
use lib.IntN.{ℤ, pos}
use lib.Ieee.{nan, inf, fin, binary32, up, down, lt, fits}
use lib.Ieee.Fits.{down_pos, of_int-fits}
use lib.Ieee.Exact.{HasValue}
use Rattle.laws.specs.Floats.{f32}
use Rattle.laws.specs.Rounding.{half_up}
use Rattle.laws.proofs.Halves.{up_le, up_ge, up_whole}
use Rattle.laws.proofs.Values.{whole_value}
use Rattle.fround.specs.Rounding.{fmax, round_clamped}
use Rattle.fround.specs.Inner.Rounding.{origin, clamped}

min_l : (a b : ℕ) → a ≤ b → min a b ≡ a
min_l a b h = omega arith

min_r : (a b : ℕ) → b ≤ a → min a b ≡ b
min_r a b h = omega arith

-- ---- the lower limit
abbrev pub nonneg : Float → Bool
nonneg nan = false
nonneg (inf s) = not s
nonneg (fin s m e) = not s

abbrev pub Low : ℕ → Float → Float → Type 0
Low max x p = T (fits binary32 p) × T (nonneg p) × (round_clamped max p ≡ round_clamped max x)

origin_low : (max : ℕ) → round_clamped max origin ≡ 0
unfolding round_clamped
origin_low max = min_r max 0 zero-le

origin_fits : T (fits binary32 origin)
unfolding fits
origin_fits = tt

low : (max : ℕ) (x : Float) → T (fits binary32 x) → Low max x (cond (lt origin x) x origin)
unfolding lt round_clamped
low max nan f = (origin_fits, tt, origin_low max)
low max (inf true) f = (origin_fits, tt, origin_low max)
low max (inf false) f = (f, tt, refl)
low max (fin true m e) f = (origin_fits, tt, origin_low max)
low max (fin false m e) f = go (ltb (0 * down e) (m * up e * 1)) (nltb→le (0 * down e) (m * up e * 1))
  where
    go : (b : Bool) → (T (not b) → m * up e * 1 ≤ 0 * down e) → Low max (fin false m e) (cond b (fin false m e) origin)
    go true h = (f, tt, refl)
    go false h =
        let z : m * up e * 1 ≤ 0 * down e = h tt in
        let a : m * up e ≡ 0 * down e = omega arith in
        (origin_fits, tt, origin_low max ∙ sym (ap (λ (x : ℕ). min max x) (up_whole (m * up e) (down e) 0 (down_pos e) a) ∙ min_r max 0 zero-le))

-- ---- the upper limit, a value M that is the whole number max
pub record Limited (max : ℕ) (x c : Float) : Type 0 where
  pub m : ℕ
  pub e : ℤ
  pub is : c ≡ fin false m e
  pub fits' : T (fits binary32 (fin false m e))
  pub within : m * up e ≤ max * down e
  pub rounds : half_up (m * up e) (down e) ≡ round_clamped max x

cross_lt : (X dx Y dy M : ℕ) → Y * 1 ≡ M * dy → X * dy < Y * dx → X < M * dx
cross_lt X dx Y dy M v h = lt_of_mul-lt-mul_right dy (lt_of_lt_of_le h (le_of_eq (ap (λ (z : ℕ). z * dx) (sym (mul-one Y) ∙ v) ∙ mul_right_comm M dy dx)))

cross_le : (X dx Y dy M : ℕ) → 0 < dy → Y * 1 ≡ M * dy → Y * dx ≤ X * dy → M * dx ≤ X
cross_le X dx Y dy M D v h = le_of_mul-le-mul_right (le_trans (le_of_eq (mul_right_comm M dx dy ∙ ap (λ (z : ℕ). z * dx) (sym v ∙ mul-one Y))) h) D

high : (max : ℕ) (p M : Float) → T (fits binary32 p) → T (nonneg p) → T (fits binary32 M) → HasValue M false max 1 → Limited max p (cond (lt p M) p M)
unfolding lt round_clamped
high max p nan f n g v = absurd v
high max p (inf s) f n g v = absurd v
high max p (fin true k d) f n g v = absurd (true≢false v.0)
high max nan (fin false k d) f n g v = absurd n
high max (inf true) (fin false k d) f n g v = absurd n
high max (inf false) (fin false k d) f n g v =
    let a : k * up d ≡ max * down d = sym (mul-one (k * up d)) ∙ v.1 in
    record { m = k; e = d; is = refl; fits' = g; within = le_of_eq a; rounds = up_whole (k * up d) (down d) max (down_pos d) a }
high max (fin true m e) (fin false k d) f n g v = absurd n
high max (fin false m e) (fin false k d) f n g v = go (ltb (m * up e * down d) (k * up d * down e)) (ltb→lt (m * up e * down d) (k * up d * down e)) (nltb→le (m * up e * down d) (k * up d * down e))
  where
    go : (b : Bool) → (T b → m * up e * down d < k * up d * down e) → (T (not b) → k * up d * down e ≤ m * up e * down d) → Limited max (fin false m e) (cond b (fin false m e) (fin false k d))
    go true h h' =
        let l : m * up e ≤ max * down e = le_of_lt (cross_lt (m * up e) (down e) (k * up d) (down d) max v.1 (h tt)) in
        record { m = m; e = e; is = refl; fits' = f; within = l; rounds = sym (min_r max (half_up (m * up e) (down e)) (up_le (m * up e) (down e) max (down_pos e) l)) }
    go false h h' =
        let l : max * down e ≤ m * up e = cross_le (m * up e) (down e) (k * up d) (down d) max (down_pos d) v.1 (h' tt) in
        let a : k * up d ≡ max * down d = sym (mul-one (k * up d)) ∙ v.1 in
        record { m = k; e = d; is = refl; fits' = g; within = le_of_eq a; rounds = up_whole (k * up d) (down d) max (down_pos d) a ∙ sym (min_l max (half_up (m * up e) (down e)) (up_ge (m * up e) (down e) max (down_pos e) l)) }

-- ---- the two together
pub limited : (x : Float) (max : ℕ) → T (fits binary32 x) → max ≤ 16777216 → Limited max x (clamped max x)
limited x max f h =
    let L : Low max x (fmax x origin) = low max x f in
    let H : Limited max (fmax x origin) (clamped max x) = high max (fmax x origin) (f32 max) L.0 L.1 (of_int-fits binary32 (pos max)) (whole_value max h) in
    record { m = H.m; e = H.e; is = H.is; fits' = H.fits'; within = H.within; rounds = H.rounds ∙ L.2 }

-- the same of what the code's steps gave: k for the lower of two limits, then c
pub limited_by : (x c : Float) (k max limit : ℕ) → fits binary32 x ≡ true → limit ≤ 16777216 → k ≡ min max limit → c ≡ clamped k x → Limited (min max limit) x c
limited_by x c k max limit f h p q =
    subst (Limited (min max limit) x) (sym (q ∙ ap (λ (i : ℕ). clamped i x) p)) (limited x (min max limit) (subst T (sym f) tt) (omega arith))
