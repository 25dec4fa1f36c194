-- The operators on floats by the fractions that they equal: each is one rounding of the exact result, with its sign.
-- Their definitions round a fraction over the floats' own denominators, and `round_same` puts any equal fraction in its place. The work is
-- in the cross products that it asks for, most in `sub_down`, where also which of the two is larger has to be carried over.
use Rattle.std.proofs.Common.{◌≡◌, refl, sym, ap, ◌∙◌, Bool, true, false, cond, true≢false, ℕ, ◌+◌, ◌-◌, ◌*◌, ◌≤◌, ◌<◌, mul_assoc, mul_comm, mul-pos, mul-le-mul_right, mul-lt-mul_of_pos_right, arith, ltb, lt→ltb, Float}
use native.Mathlib.Nat.{mul-mul-mul_comm, mul-sub}
use lib.Ieee.{nan, inf, fin, Format, up, down, unlike, round, neg, sum, add, sub, mul}
use lib.Ieee.Bits.{is_true}
use lib.Ieee.Fits.{down_pos}
use lib.Ieee.Exact.{HasValue}
use lib.Ieee.Scale.{round_same}
use Rattle.laws.proofs.Values.{both_finite, cross_less, sub_ge}

-- (a - b) / c, written with every part c times as large
sub_cancel : (a b c : ℕ) → (a * c - b * c) * c ≡ (a - b) * (c * c)
sub_cancel a b c =
    ap (λ (z : ℕ). z * c) (ap (λ (z : ℕ). z - b * c) (mul_comm a c) ∙ ap (λ (z : ℕ). c * a - z) (mul_comm b c) ∙ sym (mul-sub c a b) ∙ mul_comm c (a - b)) ∙ mul_assoc (a - b) c c

-- a difference that is not negative
pub sub_up : (f : Format) (x y : Float) (a b c : ℕ) → 0 < c → HasValue x false a c → HasValue y false b c → b ≤ a → sub f x y ≡ round f false (a - b) c
sub_up f x y a b c z p q h =
    sub_ge f x y a c b c z z p q (mul-le-mul_right c h) ∙ round_same f false (a * c - b * c) (c * c) (a - b) c (mul-pos z z) z (sub_cancel a b c)

-- a sum with a negative number that is no larger
pub add_down : (f : Format) (x y : Float) (a b c : ℕ) → 0 < c → HasValue x false a c → HasValue y true b c → b ≤ a → add f x y ≡ round f false (a - b) c
unfolding sub neg
add_down f x nan a b c z p q h = absurd q
add_down f x (inf t) a b c z p q h = absurd q
add_down f x (fin false n d) a b c z p q h = absurd (true≢false (sym q.0))
add_down f x (fin true n d) a b c z p q h = sub_up f x (fin false n d) a b c z p (refl, q.1) h

-- a sum of two that are not negative
pub add_up : (f : Format) (x y : Float) (a b c : ℕ) → 0 < c → HasValue x false a c → HasValue y false b c → add f x y ≡ round f false (a + b) c
unfolding add sum
add_up f x y a b c z p q =
    both_finite (λ x y. add f x y ≡ round f false (a + b) c) x y a c b c p q (λ m e n d u v.
    round_same f false (m * up e * down d + n * up d * down e) (down e * down d) (a + b) c (mul-pos (down_pos e) (down_pos d)) z (go (m * up e) (n * up d) (down e) (down d) u v))
  where
    go : (X Y u v : ℕ) → X * c ≡ a * u → Y * c ≡ b * v → (X * v + Y * u) * c ≡ (a + b) * (u * v)
    go X Y u v p q = omega (arith, ap (λ (z : ℕ). z * v) p, ap (λ (z : ℕ). z * u) q)

-- a difference that is negative
pub sub_down : (f : Format) (x y : Float) (a b c : ℕ) → 0 < c → HasValue x false a c → HasValue y false b c → a < b → sub f x y ≡ round f true (b - a) c
unfolding sub add neg sum
sub_down f x y a b c z p q h =
    both_finite (λ x y. sub f x y ≡ round f true (b - a) c) x y a c b c p q (λ m e n d u v.
    let A = m * up e * down d in
    let B = n * up d * down e in
    ap (λ (t : Bool). cond t (round f true (B - A) (down e * down d)) (round f false (A - B) (down e * down d))) (is_true (ltb A B) (lt→ltb A B (cross_less (m * up e) (n * up d) (down e) (down d) a c b c (down_pos e) (down_pos d) u v (mul-lt-mul_of_pos_right h z))))
    ∙ round_same f true (B - A) (down e * down d) (b - a) c (mul-pos (down_pos e) (down_pos d)) z (go (m * up e) (n * up d) (down e) (down d) u v))
  where
    go : (X Y u v : ℕ) → X * c ≡ a * u → Y * c ≡ b * v → (Y * u - X * v) * c ≡ (b - a) * (u * v)
    go X Y u v p q =
        let l : c * (X * v) ≡ u * v * a = omega (arith, ap (λ (z : ℕ). z * v) p) in
        let r : c * (Y * u) ≡ u * v * b = omega (arith, ap (λ (z : ℕ). z * u) q) in
        mul_comm (Y * u - X * v) c ∙ mul-sub c (Y * u) (X * v) ∙ ap (λ (z : ℕ). z - c * (X * v)) r ∙ ap (λ (z : ℕ). u * v * b - z) l ∙ sym (mul-sub (u * v) b a) ∙ mul_comm (u * v) (b - a)

-- a factor that is not negative leaves the sign
unlike_false : (t : Bool) → unlike false t ≡ t
unlike_false true = refl
unlike_false false = refl

-- a product by a number that is not negative has the other's sign
pub mul_by : (f : Format) (x y : Float) (s : Bool) (a c b d : ℕ) → 0 < c → 0 < d → HasValue x false a c → HasValue y s b d → mul f x y ≡ round f s (a * b) (c * d)
unfolding mul
mul_by f nan y s a c b d C D p q = absurd p
mul_by f (inf r) y s a c b d C D p q = absurd p
mul_by f (fin r m e) nan s a c b d C D p q = absurd q
mul_by f (fin r m e) (inf t) s a c b d C D p q = absurd q
mul_by f (fin true m e) (fin t n g) s a c b d C D p q = absurd (true≢false p.0)
mul_by f (fin false m e) (fin t n g) s a c b d C D p q =
    ap (λ (r : Bool). round f r (m * up e * (n * up g)) (down e * down g)) (unlike_false t ∙ q.0)
    ∙ round_same f s (m * up e * (n * up g)) (down e * down g) (a * b) (c * d) (mul-pos (down_pos e) (down_pos g)) (mul-pos C D)
    (mul-mul-mul_comm (m * up e) (n * up g) c d ∙ ap (λ (z : ℕ). z * (n * up g * d)) p.1 ∙ ap (λ (z : ℕ). a * down e * z) q.1 ∙ mul-mul-mul_comm a (down e) b (down g))
