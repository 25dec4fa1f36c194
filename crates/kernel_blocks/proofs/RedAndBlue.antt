-- Chroma as a float times a multiplier is near enough to the exact offset, but for a few chromas close to a half, each of which is computed.
-- Off those edges the float's slack of 3 / 256 can't reach the next step (`steady`). At an edge lies at most one chroma for each step (`edge_at`),
-- so that 360 steps of red and 455 of blue, computed in `checked`, are all of them.
use Rattle.std.proofs.Common.{◌≡◌, refl, sym, ap, ◌∙◌, subst, Bool, true, false, ◌&&◌, ◌⊎◌, inl, inr, ℕ, zero, suc, ◌+◌, ◌-◌, ◌*◌, ◌/◌, ◌%◌, ◌≤◌, ◌<◌, mul-le-mul_left, eq-or-lt_of_le, le_of_suc-le-suc, div-lt_iff_lt-mul, arith, T, ltb, eqb, ltb→lt, eqb→eq, lit<, Float, ltb-false}
use lib.Arith.{digits_div}
use lib.Ieee.{binary32, add, sub, mul, of_int, to_bits}
use lib.Ieee.Exact.{HasValue}
use lib.Ieee.Fits.{and_l, and_r}
use Rattle.laws.specs.Floats.{f32, ◌⊕◌, ◌⊖◌, ◌⊗◌}
use Rattle.laws.specs.Inner.Floats.{Close, NearFraction}
use Rattle.laws.proofs.Nearness.{mild_step, near_chain, value_near, add_near}
use Rattle.kernels.specs.Kernels.{centred}
use Rattle.kernels.specs.Inner.Forms.{chroma_offset, Suits, raised}
use Rattle.kernels.proofs.Channels.{red_suits, blue_suits, chroma_biased}
use Rattle.kernel_blocks.specs.Inner.Floating.{Centred, OnGrid, red1402, blue1772, no_tie, blue_tie, middle}
use Rattle.kernel_blocks.proofs.GridBits.{Counts, Bits, plus_bits}
use Rattle.kernel_blocks.proofs.Chromas.{scaled}
use Rattle.kernel_blocks.proofs.Lumas.{on_grid_from}

-- ---- every q below n passes a test
every : ℕ → (ℕ → Bool) → Bool
every zero f = true
every (suc n) f = f n && every n f

every_at : (n : ℕ) (f : ℕ → Bool) → T (every n f) → (q : ℕ) → q < n → T (f q)
unfolding every
every_at zero f t q h = absurd (omega arith)
every_at (suc n) f t q h = go (every_at n f (and_r (f n) (every n f) t) q) (eq-or-lt_of_le (le_of_suc-le-suc h))
  where
    go : (q < n → T (f q)) → (q ≡ n) ⊎ (q < n) → T (f q)
    go g (inl e) = subst (λ (x : ℕ). T (f x)) (sym e) (and_l (f n) (every n f) t)
    go g (inr l) = g l

-- ---- red and blue: the offset with its bias is (m * c + s) / 256000. A chroma is at an edge where the float can't tell the next step

module _ (m s : ℕ) where
  edge : ℕ → Bool
  edge c = ltb ((m * c + s + 14) % 256000) 26

  -- the only chroma that can be at the edge of step q
  at : ℕ → ℕ
  at q = (256000 * q + 11 - s) / m

  edge_at : (c : ℕ) → 26 ≤ m → T (edge c) → c ≡ at ((m * c + s + 14) / 256000)
  unfolding edge at
  edge_at c h t =
      let n = m * c + s + 14 in
      let l : n % 256000 < 26 = ltb→lt (n % 256000) 26 t in
      let e : 256000 * (n / 256000) + 11 - s ≡ c * m + (25 - n % 256000) = omega arith in
      sym (ap (λ (x : ℕ). x / m) e ∙ digits_div c {m = m} {r = 25 - n % 256000} (omega arith))

-- at an edge the bits are as wanted
judge : Bool → ℕ → ℕ → Bool
judge false b w = true
judge true b w = eqb b w

-- the bits of the offset at c
bits : Float → Float → ℕ → ℕ
bits k tie c = to_bits binary32 (middle ⊕ (k ⊗ (f32 c ⊖ f32 32768) ⊕ tie))

wanted : ℕ → ℕ → ℕ → ℕ → ℕ
wanted m s bias c = 1329594368 - bias + (m * c + s) / 256000

right : Float → Float → ℕ → ℕ → ℕ → ℕ → Bool
right k tie m s bias c = judge (edge m s c) (bits k tie c) (wanted m s bias c)

-- k is F / G, for m thousandths; tie is t / 128000
pub record Numbers (k tie : Float) (F G m t s bias steps : ℕ) : Type 0 where
  value : HasValue k false F G
  some : 0 < G
  thrice : F ≤ 3 * G
  tie_near : NearFraction tie t 0 128000 0
  close : (c : ℕ) → c ≤ 65536 → Close (F * c) (F * 32768) G (128 * (m * c)) (128 * (m * 32768)) 128000 1
  low : t ≤ 375
  least : 26 ≤ m
  sum : 256000 * bias + 128000 ≡ 32768 * m + s
  all : m * 65536 + s + 14 < 256000 * steps
  checked : T (every steps (λ q. right k tie m s bias (at m s q)))
  suits : Suits m bias

module _ {k tie : Float} {F G m t s bias steps : ℕ} (n : Numbers k tie F G m t s bias steps) {x : Float} {c : ℕ} (h : Centred x c) where
  most : m * c ≤ m * 65536
  most = mul-le-mul_left m h.most

  nearly : NearFraction (k ⊗ x ⊕ tie) (128 * (m * c) + t) (128 * (m * 32768) + 0) 128000 3
  nearly =
      let l = n.suits.multiplier in
      let w = n.low in
      let o = most in
      add_near (k ⊗ x) tie (128 * (m * c)) (128 * (m * 32768)) t 0 128000 2 0 3
      (mild_step (128 * (m * c) + t) (128 * (m * 32768) + 0) 128000 2 (record { some = lit< tt; top = omega arith; bottom = omega arith; few = omega arith }))
      (near_chain (k ⊗ x) (F * c) (F * 32768) G (128 * (m * c)) (128 * (m * 32768)) 128000 1 1 n.some (scaled k x F G c n.value n.some n.thrice h) (n.close c h.most))
      n.tie_near

  pub chroma_offset_bits : Bits (middle ⊕ (k ⊗ x ⊕ tie)) (128 * (m * c) + t) (128 * (m * 32768) + 0) 128000 3
  chroma_offset_bits =
      let l = n.suits.multiplier in
      let w = n.low in
      let o = most in
      plus_bits (128 * (m * c) + t) (128 * (m * 32768) + 0) 128000 3 (record { some = lit< tt; top = omega arith; bottom = omega arith }) (k ⊗ x ⊕ tie) nearly

  -- off the edges the float tells the step
  steady : (r p : ℕ) → p ≡ m * c → Counts r (128 * p + t) (128 * (m * 32768) + 0) 128000 3 → 26 ≤ (p + s + 14) % 256000 → r ≡ 1329594368 - bias + (p + s) / 256000
  steady r p e z g = let w = n.low in let q = n.sum in let b = n.suits.bias_most in omega arith

  off : edge m s c ≡ false → 26 ≤ (m * c + s + 14) % 256000
  unfolding edge
  off e = ltb-false ((m * c + s + 14) % 256000) 26 e

  -- at an edge it was computed
  seen : edge m s c ≡ true → T (right k tie m s bias c)
  seen e =
      let o = most in
      let a = n.all in
      let q = (m * c + s + 14) / 256000 in
      let l : q < steps = (div-lt_iff_lt-mul (lit< tt)).1 (omega arith) in
      subst (λ (y : ℕ). T (right k tie m s bias y)) (sym (edge_at m s c n.least (subst T (sym e) tt))) (every_at steps (λ (y : ℕ). right k tie m s bias (at m s y)) n.checked q l)

  settled : to_bits binary32 (middle ⊕ (k ⊗ x ⊕ tie)) ≡ wanted m s bias c
  unfolding wanted right bits judge
  settled = go (edge m s c) refl
    where
      go : (b : Bool) → edge m s c ≡ b → to_bits binary32 (middle ⊕ (k ⊗ x ⊕ tie)) ≡ wanted m s bias c
      go false e = steady (to_bits binary32 (middle ⊕ (k ⊗ x ⊕ tie))) (m * c) refl chroma_offset_bits.counts (off e)
      go true e =
          ap (λ (y : Float). to_bits binary32 (middle ⊕ (k ⊗ y ⊕ tie))) h.is
          ∙ eqb→eq (bits k tie c) (wanted m s bias c) (subst (λ (b : Bool). T (judge b (bits k tie c) (wanted m s bias c))) e (seen e))

  pub chroma_offset_on_grid : OnGrid (chroma_offset m (centred c)) (to_bits binary32 (middle ⊕ (k ⊗ x ⊕ tie)))
  unfolding wanted
  chroma_offset_on_grid =
      let e : m * c + s ≡ raised m bias c = let z = n.sum in omega arith in
      on_grid_from bias _ _ (chroma_biased n.suits c ((m * c + s) / 256000) h.most (ap (λ (y : ℕ). y / 256000) e)) n.suits.bias_most (let z = settled in let b = n.suits.bias_most in omega arith)

-- ---- the two
pub red_numbers : Numbers red1402 no_tie 2940207 2097152 1402 0 267264 180 360
unfolding every right judge edge at bits wanted of_int add sub mul to_bits
red_numbers =
    record {
      value = (refl, refl);
      some = lit< tt;
      thrice = omega arith;
      tie_near = value_near no_tie true 0 128000 (refl, refl);
      close = λ c l. omega arith;
      low = omega arith;
      least = omega arith;
      sum = omega arith;
      all = omega arith;
      checked = tt;
      suits = red_suits;
    }

pub blue_numbers : Numbers blue1772 blue_tie 14864613 8388608 1772 375 175104 227 455
unfolding every right judge edge at bits wanted of_int add sub mul to_bits
blue_numbers =
    record {
      value = (refl, refl);
      some = lit< tt;
      thrice = omega arith;
      tie_near = value_near blue_tie false 375 128000 (refl, refl);
      close = λ c l. omega arith;
      low = omega arith;
      least = omega arith;
      sum = omega arith;
      all = omega arith;
      checked = tt;
      suits = blue_suits;
    }
