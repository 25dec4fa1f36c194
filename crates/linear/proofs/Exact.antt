-- With fractions of halves, quarters and eighths nothing rounds: the linear float is the exact bilinear value. Down, a difference of samples is below 2^16, and
-- in eighths it has 19 bits; across, a difference of such is in 64ths, 22 bits. A float has 24, so none of the six operations rounds.
use Rattle.std.proofs.Common.{◌≡◌, refl, sym, ap, ◌∙◌, subst, Bool, true, false, ◌&&◌, inl, inr, ℕ, ◌+◌, ◌-◌, ◌*◌, ◌/◌, ◌^◌, ◌≤◌, ◌<◌, min, one-mul, le_trans, le_of_lt, mul-le-mul, mul-pos, le_of_suc-le-suc, eq-zero-or-pos, mod-lt, arith, T, eqb, eqb→eq, leb, leb→le, lit≤, pow-add, pow_pos, pow_mono, Float}
use native.Mathlib.Nat.{div-eq_of_lt}
use lib.Ieee.{nan, inf, fin, up, down, div, of_int}
use lib.Ieee.Fits.{and_l, and_r, down_pos}
use lib.Ieee.Nearest.{div_same}
use Rattle.laws.specs.declared.axes.Siting.{Siting}
use Rattle.laws.specs.declared.axes.Siting.TheVariants.{Centred, CoSited}
use Rattle.laws.specs.Floats.{f32}
use Rattle.laws.specs.Inner.Floats.{NearFraction, IsFraction}
use Rattle.laws.specs.Rounding.{half_up}
use Rattle.laws.proofs.Fractions.{exact_takes}
use Rattle.laws.proofs.Nearness.{Part, Whole, exact_step, whole_near}
use Rattle.fround.specs.Rounding.{round_clamped}
use Rattle.taps.specs.Taps.{Spot, lerp_of, fraction_of, tap_on, spot_of, on_cell}
use Rattle.taps.proofs.Spots.{by_centred, by_co_sited, by_place}
use Rattle.taps.proofs.Table.{below, at}
use Rattle.linear.specs.Linear.{down_by, across_by}
use Rattle.linear.specs.Bound.{OneTwoFour, Equals}
use Rattle.linear.proofs.Bound.{mix, split, mix_le, spot_num, spot_den, lerp_near}

-- ---- fractions: k / 2 ^ j divided once is k / 2 ^ j, for j up to 3. One computed test

exactly : Float → ℕ → ℕ → Bool
exactly nan k d = false
exactly (inf s) k d = false
exactly (fin true m x) k d = false
exactly (fin false m x) k d = leb (m * up x) (down x) && eqb (m * up x * d) (k * down x)

exactly_part : (x : Float) (k d : ℕ) → T (exactly x k d) → Part x k d 0
unfolding exactly
exactly_part nan k d t = absurd t
exactly_part (inf s) k d t = absurd t
exactly_part (fin true m x) k d t = absurd t
exactly_part (fin false m x) k d t = (
  refl,
  exact_takes (m * up x) (down x) k d (leb→le (m * up x) (down x) (and_l (leb (m * up x) (down x)) (eqb (m * up x * d) (k * down x)) t))
      (eqb→eq (m * up x * d) (k * down x) (and_r (leb (m * up x) (down x)) (eqb (m * up x * d) (k * down x)) t)),
)

row : ℕ → Bool
row j = below (2 ^ j) (λ (k : ℕ). exactly (fraction_of k (2 ^ j)) k (2 ^ j))

all_exactly : T (below 4 row)
unfolding below row exactly div of_int
all_exactly = tt

pub part_exact : (k j : ℕ) → j < 4 → k < 2 ^ j → Part (fraction_of k (2 ^ j)) k (2 ^ j) 0
unfolding row
part_exact k j l h = exactly_part (fraction_of k (2 ^ j)) k (2 ^ j) (at (2 ^ j) (λ (k : ℕ). exactly (fraction_of k (2 ^ j)) k (2 ^ j)) (at 4 row all_exactly j l) k h)

-- ---- lerp

whole_add : (p q c k d j : ℕ) → c * d * 2 ^ j ≡ 2 ^ 149 → j ≤ 149 → c * d ≤ 64 → k ≤ d → p ≤ 65535 * c → q ≤ 65535 * c → Whole (p * d + (q + 0) * k) (0 * d + (0 + p) * k) (c * d) j
whole_add p q c k d j s l m h pl ql =
    let a : p * d ≡ p * (d - k) + p * k = split p k d h in
    let b : mix p q k d ≤ 65535 * (c * d) = mix_le p q k d c h pl ql in
    record { scale = s; low = l; top = top (d - k) m a b; bottom = bottom (d - k) a }
  where
    top : (j : ℕ) → c * d ≤ 64 → p * d ≡ p * j + p * k → p * j + q * k ≤ 65535 * (c * d) → p * d + (q + 0) * k ≤ 0 * d + (0 + p) * k + 0xff_ffff
    top j m a b = omega arith

    bottom : (j : ℕ) → p * d ≡ p * j + p * k → 0 * d + (0 + p) * k ≤ p * d + (q + 0) * k + 0xff_ffff
    bottom j a = omega arith

whole_mul : (p q c k d j : ℕ) → c * d * 2 ^ j ≡ 2 ^ 149 → j ≤ 149 → c * d ≤ 64 → k ≤ d → p ≤ 65535 * c → q ≤ 65535 * c → Whole ((q + 0) * k) ((0 + p) * k) (c * d) j
whole_mul p q c k d j s l m h pl ql =
    let a : p * k ≤ 65535 * c * d = mul-le-mul pl h in
    let b : q * k ≤ 65535 * c * d = mul-le-mul ql h in
    record { scale = s; low = l; top = omega arith; bottom = omega arith }

lerp_exact : (a b f : Float) (p q c k d i j : ℕ) → 0 < c → k ≤ d → c * 2 ^ i ≡ 2 ^ 149 → i ≤ 149 → c ≤ 64 → c * d * 2 ^ j ≡ 2 ^ 149 → j ≤ 149 → c * d ≤ 64 → p ≤ 65535 * c → q ≤ 65535 * c
    → Part f k d 0 → NearFraction a p 0 c 0 → NearFraction b q 0 c 0 → NearFraction (lerp_of a b f) (mix p q k d) 0 (c * d) 0
lerp_exact a b f p q c k d i j zc l s li m t lj m' pl ql v g h =
    lerp_near a b f p q c k d 0 0 0 0 0 zc l pl ql
    (exact_step (q + 0) (0 + p) c i (record { scale = s; low = li; top = omega arith; bottom = omega arith }))
    (exact_step ((q + 0) * k) ((0 + p) * k) (c * d) j (whole_mul p q c k d j t lj m' l pl ql))
    (exact_step (p * d + (q + 0) * k) (0 * d + (0 + p) * k) (c * d) j (whole_add p q c k d j t lj m' l pl ql))
    v g h

-- ---- down, then across

rest_of : (i : ℕ) → i ≤ 149 → 2 ^ i * 2 ^ (149 - i) ≡ 2 ^ 149
rest_of i h = sym (pow-add 2 i (149 - i)) ∙ ap (λ (x : ℕ). 2 ^ x) (back i h)
  where
    back : (i : ℕ) → i ≤ 149 → i + (149 - i) ≡ 149
    back i h = omega arith

-- a spot whose part is in halves, quarters or eighths
pub record Binary (s : Spot) : Type 0 where
  pub j : ℕ
  pub few : j < 4
  pub is : s.d ≡ 2 ^ j
  pub part : s.k < s.d

module _ (c : ℕ → ℕ → ℕ) (b : (j i : ℕ) → c j i ≤ 65535) (vn vf vk vj : ℕ) (hv : vk < 2 ^ vj) (lv : vj < 4) where
  power : 2 ^ vj ≤ 8
  power = le_trans (pow_mono (le_of_suc-le-suc lv)) (lit≤ tt)

  scale : 1 * 2 ^ vj * 2 ^ (149 - vj) ≡ 2 ^ 149
  scale = ap (λ (x : ℕ). x * 2 ^ (149 - vj)) (one-mul (2 ^ vj)) ∙ rest_of vj (omega arith)

  column : (i : ℕ) → NearFraction (lerp_of (f32 (c vn i)) (f32 (c vf i)) (fraction_of vk (2 ^ vj))) (mix (c vn i) (c vf i) vk (2 ^ vj)) 0 (1 * 2 ^ vj) 0
  column i =
      lerp_exact (f32 (c vn i)) (f32 (c vf i)) (fraction_of vk (2 ^ vj)) (c vn i) (c vf i) 1 vk (2 ^ vj) 149 (149 - vj) (lit≤ tt) (le_of_lt hv) refl (lit≤ tt) (lit≤ tt) scale (omega arith)
      (let w = power in omega arith) (b vn i) (b vf i) (part_exact vk vj lv hv) (whole_near (c vn i) (le_trans (b vn i) (lit≤ tt))) (whole_near (c vf i) (le_trans (b vf i) (lit≤ tt)))

  both : (hn hf hk hj : ℕ) → hk < 2 ^ hj → hj < 4
      → NearFraction (lerp_of (lerp_of (f32 (c vn hn)) (f32 (c vf hn)) (fraction_of vk (2 ^ vj))) (lerp_of (f32 (c vn hf)) (f32 (c vf hf)) (fraction_of vk (2 ^ vj))) (fraction_of hk (2 ^ hj)))
      (mix (mix (c vn hn) (c vf hn) vk (2 ^ vj)) (mix (c vn hf) (c vf hf) vk (2 ^ vj)) hk (2 ^ hj)) 0 (1 * 2 ^ vj * 2 ^ hj) 0
  both hn hf hk hj hh lh =
      let px : 2 ^ hj ≤ 8 = le_trans (pow_mono (le_of_suc-le-suc lh)) (lit≤ tt) in
      let pw : 2 ^ vj * 2 ^ hj ≤ 8 * 8 = mul-le-mul power px in
      let ex : 1 * 2 ^ vj * 2 ^ hj * 2 ^ (149 - (vj + hj)) ≡ 2 ^ 149 =
      ap (λ (x : ℕ). x * 2 ^ (149 - (vj + hj))) (ap (λ (x : ℕ). x * 2 ^ hj) (one-mul (2 ^ vj)) ∙ sym (pow-add 2 vj hj)) ∙ rest_of (vj + hj) (omega arith) in
      let my : 1 * 2 ^ vj ≤ 64 = (let w = power in omega arith) in
      let mx : 1 * 2 ^ vj * 2 ^ hj ≤ 64 = omega arith in
      lerp_exact _ _ (fraction_of hk (2 ^ hj)) (mix (c vn hn) (c vf hn) vk (2 ^ vj)) (mix (c vn hf) (c vf hf) vk (2 ^ vj)) (1 * 2 ^ vj) hk (2 ^ hj) (149 - vj) (149 - (vj + hj))
      (mul-pos (lit≤ tt) (pow_pos vj)) (le_of_lt hh) scale (omega arith) my ex (omega arith) mx
      (mix_le (c vn hn) (c vf hn) vk (2 ^ vj) 1 (le_of_lt hv) (b vn hn) (b vf hn)) (mix_le (c vn hf) (c vf hf) vk (2 ^ vj) 1 (le_of_lt hv) (b vn hf) (b vf hf)) (part_exact hk hj lh hh) (column hn) (column hf)

-- four cells by any two taps of halves, quarters and eighths
pub bilinear_exact : (c : ℕ → ℕ → ℕ) → ((j i : ℕ) → c j i ≤ 65535) → (v h : Spot) → Binary v → Binary h → NearFraction (across_by (tap_on h) (down_by (tap_on v) c)) (spot_num c v h) 0 (spot_den v h) 0
bilinear_exact c b v h p q =
    let S : ℕ → ℕ → ℕ → Type 0 = λ (dv dh e : ℕ). NearFraction (lerp_of (lerp_of (f32 (c v.near h.near)) (f32 (c v.far h.near)) (fraction_of v.k dv)) (lerp_of (f32 (c v.near h.far)) (f32 (c v.far h.far)) (fraction_of v.k dv)) (fraction_of h.k dh))
    (mix (mix (c v.near h.near) (c v.far h.near) v.k dv) (mix (c v.near h.far) (c v.far h.far) v.k dv) h.k dh) 0 e 0 in
    subst (λ (d : ℕ). S d h.d (d * h.d)) (sym p.is) (subst (λ (d : ℕ). S (2 ^ p.j) d (2 ^ p.j * d)) (sym q.is)
    (subst (λ (e : ℕ). S (2 ^ p.j) (2 ^ q.j) (e * 2 ^ q.j)) (one-mul (2 ^ p.j))
    (both c b v.near v.far v.k p.j (subst (λ (d : ℕ). v.k < d) p.is p.part) p.few h.near h.far h.k q.j (subst (λ (d : ℕ). h.k < d) q.is q.part) q.few)))

-- ---- a float that is a fraction: it equals it, and rounds as it does

pub near_equals : (x : Float) (num den : ℕ) → NearFraction x num 0 den 0 → Equals x num den
near_equals nan num den h = h
near_equals (inf s) num den h = h
near_equals (fin s m e) num den h = omega arith

cross : (M D p c : ℕ) → M * c + 0 * D ≡ 0 * c + p * D → (2 * M + D) * (2 * c) ≡ (2 * p + c) * (2 * D)
cross M D p c e = omega arith

nought : (M D p c : ℕ) → 0 < D → 0 * c + 0 * D ≡ M * c + p * D → p ≡ 0
nought M D p c z e = elim (eq-zero-or-pos p) [ inl h ↦ h | inr h ↦ absurd (no (p * D) (mul-pos h z) e) ]
  where
    no : (x : ℕ) → 0 < x → 0 * c + 0 * D ≡ M * c + x → ⊥
    no x h e = omega arith

twice : (d : ℕ) → 0 < d → 0 < 2 * d
twice d h = omega arith

pub rounded_exact : (x : Float) (p c top : ℕ) → 0 < c → IsFraction x p 0 c → round_clamped top x ≡ min top (half_up p c)
unfolding round_clamped
rounded_exact nan p c top z h = absurd h
rounded_exact (inf s) p c top z h = absurd h
rounded_exact (fin false m e) p c top z h = ap (λ (q : ℕ). min top q) (div_same (2 * (m * up e) + down e) (2 * down e) (2 * p + c) (2 * c) (twice (down e) (down_pos e)) (twice c z) (cross (m * up e) (down e) p c h.eq))
rounded_exact (fin true m e) p c top z h =
    sym (ap (λ (q : ℕ). min top ((2 * q + c) / (2 * c))) (nought (m * up e) (down e) p c (down_pos e) h.eq) ∙ ap (λ (q : ℕ). min top q) (div-eq_of_lt (small c z)) ∙ least top)
  where
    small : (c : ℕ) → 0 < c → 2 * 0 + c < 2 * c
    small c h = omega arith

    least : (t : ℕ) → min t 0 ≡ 0
    least t = omega arith

-- ---- at denominators 1, 2 and 4

module _ (num den len o i : ℕ) (l : i < 3) (e : den ≡ 2 ^ i) where
  some : 0 < den
  some = subst (λ (d : ℕ). 0 < d) (sym e) (pow_pos i)

  cell : (i : ℕ) → Binary (on_cell i)
  cell i = record { j = 0; few = lit≤ tt; is = refl; part = lit≤ tt }

  -- centred, the part is in parts of twice the ratio; co-sited, of the ratio
  pub spot_binary : (siting : Siting) → Binary (spot_of siting num den len o)
  spot_binary Centred =
      let z = some in
      by_centred Binary num den len o (λ _. cell o) (λ _. cell 0)
      (λ _. by_place Binary ((2 * o + 1) * num - den) (2 * den) len (λ _. cell (len - 1))
      (λ _. record { j = 1 + i; few = omega arith; is = ap (λ (x : ℕ). 2 * x) e ∙ sym (pow-add 2 1 i); part = mod-lt ((2 * o + 1) * num - den) (omega arith) }))
  spot_binary CoSited =
      by_co_sited Binary num den len o (λ _. cell o)
      (by_place Binary (o * num) den len (λ _. cell (len - 1)) (λ _. record { j = i; few = omega arith; is = e; part = mod-lt (o * num) some }))

-- an output of denominator 1, 2 or 4
pub ratio_binary : (siting : Siting) (num den len o : ℕ) → OneTwoFour den → Binary (spot_of siting num den len o)
ratio_binary siting num den len o (inl e) = spot_binary num den len o 0 (lit≤ tt) e siting
ratio_binary siting num den len o (inr (inl e)) = spot_binary num den len o 1 (lit≤ tt) e siting
ratio_binary siting num den len o (inr (inr e)) = spot_binary num den len o 2 (lit≤ tt) e siting
