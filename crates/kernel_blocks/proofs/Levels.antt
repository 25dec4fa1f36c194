-- The near forms of studio range count the level that their exact value is nearest to, but for a margin.
use Rattle.std.proofs.Common.{refl, sym, subst, false, ℕ, ◌+◌, ◌*◌, ◌≤◌, zero-lt-suc, arith, lit<, Float}
use lib.IntN.{negsuc}
use lib.Ieee.{fin, binary32}
use Rattle.laws.specs.Floats.{f32, ◌⊕◌, ◌⊖◌, ◌⊗◌}
use Rattle.laws.specs.Inner.Floats.{NearFraction}
use Rattle.laws.proofs.Values.{whole_value}
use Rattle.laws.proofs.Operators.{mul_by}
use Rattle.laws.proofs.Nearness.{mild_step, near_chain, near_widen, value_near, add_near, sub_near}
use Rattle.kernel_blocks.specs.Inner.Floating.{Centred, middle}
use Rattle.kernel_blocks.specs.Inner.Studio.{luma_slope, Shift, by_less, by_more, luma_part, Tone, of_red, of_blue, fall}
use Rattle.kernel_blocks.proofs.Wide.{ample_step}
use Rattle.kernel_blocks.proofs.GridBits.{Bits, plus_bits}
use Rattle.kernel_blocks.proofs.Chromas.{scaled}

-- 219 · 224,000, the denominator of red and blue; green's is 587 times that
abbrev pub unit : ℕ
unit = 49056000

abbrev pub unit_green : ℕ
unit_green = 28795872000

slope_near : (l : ℕ) → l ≤ 511 → NearFraction (luma_slope ⊗ f32 l) (2064384000 * l) 0 unit 2
slope_near l h =
    near_chain (luma_slope ⊗ f32 l) (5515797 * l) 0 131072 (2064384000 * l) 0 unit 1 1 (lit< tt)
    (subst (λ (y : Float). NearFraction y (5515797 * l) 0 131072 1) (sym (mul_by binary32 luma_slope (f32 l) false 5515797 131072 l 1 (lit< tt) (zero-lt-suc 0) (refl, refl) (whole_value l (omega arith))))
    (mild_step (5515797 * l) 0 131072 0 (record { some = lit< tt; top = omega arith; bottom = omega arith; few = omega arith }) false (5515797 * l) (131072 * 1) (lit< tt) (record { hi = omega arith; lo = omega arith })))
    (record { hi = omega arith; lo = omega arith })

shift_near : {t : Float} {n : ℕ} → Shift t n → NearFraction t (191625 * n) 0 unit 0
shift_near {t} by_less = value_near t false (191625 * 1220935) unit (refl, refl)
shift_near {t} by_more = value_near t false (191625 * 1220955) unit (refl, refl)

shift_most : {t : Float} {n : ℕ} → Shift t n → n ≤ 1220955
shift_most by_less = omega arith
shift_most by_more = omega arith

part_near : {t : Float} {n : ℕ} (l : ℕ) → l ≤ 511 → Shift t n → NearFraction (luma_part t l) (2064384000 * l + 0) (0 + 191625 * n) unit 3
unfolding luma_part
part_near {t} {n} l h s =
    let m = shift_most s in
    sub_near (luma_slope ⊗ f32 l) t (2064384000 * l) 0 (191625 * n) 0 unit 2 0 3
    (mild_step (2064384000 * l + 0) (0 + 191625 * n) unit 2 (record { some = lit< tt; top = omega arith; bottom = omega arith; few = omega arith }))
    (slope_near l h) (shift_near s)

-- ---- red and blue

-- a number v that is near P - N, added to luma's part
sum_bits : {t : Float} {n : ℕ} (l : ℕ) (v : Float) (P N : ℕ) → l ≤ 511 → Shift t n → NearFraction v P N unit 2 → P ≤ 2 * N → N ≤ 3242634117120 → Bits (middle ⊕ (luma_part t l ⊕ v)) (2064384000 * l + 0 + P) (0 + 191625 * n + N) unit 6
sum_bits {t} {n} l v P N h s w f g =
    let m = shift_most s in
    plus_bits (2064384000 * l + 0 + P) (0 + 191625 * n + N) unit 6 (record { some = lit< tt; top = omega arith; bottom = omega arith }) (luma_part t l ⊕ v)
    (add_near (luma_part t l) v (2064384000 * l + 0) (0 + 191625 * n) P N unit 3 2 6
    (ample_step (2064384000 * l + 0 + P) (0 + 191625 * n + N) unit 5 (record { some = lit< tt; top = omega arith; bottom = omega arith; few = omega arith }))
    (part_near l h s) w)

red_near : {x : Float} {c : ℕ} → Centred x c → NearFraction (fin false 13388443 (negsuc 22) ⊗ x) (78294690 * c) (78294690 * 32768) unit 2
red_near {x} {c} h =
    let l = h.most in
    let k = fin false 13388443 (negsuc 22) in
    near_chain (k ⊗ x) (13388443 * c) (13388443 * 32768) 8388608 (78294690 * c) (78294690 * 32768) unit 1 1 (lit< tt) (scaled k x 13388443 8388608 c (refl, refl) (lit< tt) (omega arith) h) (record { hi = omega arith; lo = omega arith })

blue_near : {x : Float} {c : ℕ} → Centred x c → NearFraction (fin false 8460885 (negsuc 21) ⊗ x) (98957340 * c) (98957340 * 32768) unit 2
blue_near {x} {c} h =
    let l = h.most in
    let k = fin false 8460885 (negsuc 21) in
    near_chain (k ⊗ x) (8460885 * c) (8460885 * 32768) 4194304 (98957340 * c) (98957340 * 32768) unit 1 1 (lit< tt) (scaled k x 8460885 4194304 c (refl, refl) (lit< tt) (omega arith) h) (record { hi = omega arith; lo = omega arith })

pub tone_bits_is : {k x t : Float} {m c n : ℕ} (l : ℕ) → l ≤ 511 → Tone k m → Shift t n → Centred x c
    → Bits (middle ⊕ (luma_part t l ⊕ k ⊗ x)) (2064384000 * l + 0 + 55845 * m * c) (0 + 191625 * n + 55845 * m * 32768) unit 6
tone_bits_is {c = c} l b of_red s h = let z = h.most in sum_bits l _ (78294690 * c) (78294690 * 32768) b s (red_near h) (omega arith) (omega arith)
tone_bits_is {c = c} l b of_blue s h = let z = h.most in sum_bits l _ (98957340 * c) (98957340 * 32768) b s (blue_near h) (omega arith) (omega arith)

-- ---- green

fall_near : {x y : Float} {b r : ℕ} → Centred x b → Centred y r → NearFraction (fall x y) (11281136760 * b + 23410112310 * r) (11281136760 * 32768 + 23410112310 * 32768) unit_green 5
fall_near {x} {y} {b} {r} h k =
    let l = h.most in
    let m = k.most in
    let u = fin false 13145361 (negsuc 24) in
    let v = fin false 6819667 (negsuc 22) in
    add_near (u ⊗ x) (v ⊗ y) (11281136760 * b) (11281136760 * 32768) (23410112310 * r) (23410112310 * 32768) unit_green 2 2 5
    (mild_step (11281136760 * b + 23410112310 * r) (11281136760 * 32768 + 23410112310 * 32768) unit_green 4 (record { some = lit< tt; top = omega arith; bottom = omega arith; few = omega arith }))
    (near_chain (u ⊗ x) (13145361 * b) (13145361 * 32768) 33554432 (11281136760 * b) (11281136760 * 32768) unit_green 1 1 (lit< tt) (scaled u x 13145361 33554432 b (refl, refl) (lit< tt) (omega arith) h) (record { hi = omega arith; lo = omega arith }))
    (near_chain (v ⊗ y) (6819667 * r) (6819667 * 32768) 8388608 (23410112310 * r) (23410112310 * 32768) unit_green 1 1 (lit< tt) (scaled v y 6819667 8388608 r (refl, refl) (lit< tt) (omega arith) k) (record { hi = omega arith; lo = omega arith }))

pub fall_bits_is : {x y t : Float} {b r n : ℕ} (l : ℕ) → l ≤ 511 → Shift t n → Centred x b → Centred y r
    → Bits (middle ⊕ (luma_part t l ⊖ fall x y)) ((2064384000 * l + 0) * 587 + (11281136760 * 32768 + 23410112310 * 32768)) ((0 + 191625 * n) * 587 + (11281136760 * b + 23410112310 * r)) unit_green 9
fall_bits_is {x} {y} {t} {b} {r} {n} l i s h k =
    let f = h.most in
    let g = k.most in
    let m = shift_most s in
    let A = (2064384000 * l + 0) * 587 in
    let B = (0 + 191625 * n) * 587 in
    let P = 11281136760 * b + 23410112310 * r in
    let N = 11281136760 * 32768 + 23410112310 * 32768 in
    plus_bits (A + N) (B + P) unit_green 9 (record { some = lit< tt; top = omega arith; bottom = omega arith }) (luma_part t l ⊖ fall x y)
    (sub_near (luma_part t l) (fall x y) A B P N unit_green 3 5 9
    (ample_step (A + N) (B + P) unit_green 8 (record { some = lit< tt; top = omega arith; bottom = omega arith; few = omega arith }))
    (near_widen (luma_part t l) (2064384000 * l + 0) (0 + 191625 * n) unit 3 587 (part_near l i s)) (fall_near h k))
