-- Each channel of the exact kernel over natural numbers, as the code computes it; red and blue once, over their multiplier.
-- A formula below zero too is built as a difference of natural numbers by the laws of Differences, in the formula's own order. The hard step
-- is `rounded`: the bias goes into the numerator as a multiple of the divisor, so that the floor is a plain quotient.
use Rattle.std.proofs.Common.{◌≡◌, refl, ◌∙◌, ℕ, ◌+◌, ◌*◌, ◌-◌, ◌/◌, ◌<◌, ◌≤◌, min, mul-le-mul_left, arith, lit<}
use lib.IntN.{ℤ, pos, ◌+ℤ◌}
use Rattle.laws.specs.Differences.{limit}
use Rattle.laws.specs.Inner.Differences.{Diff}
use Rattle.laws.proofs.Differences.{of_pos, move, plus, neg, minus, times, floored, limited, limited_floor, within_limits, unique, as_sum, from_sum}
use Rattle.kernels.specs.HalvesUp.{rnd}
use Rattle.kernels.specs.Kernels.{centred, red_offset, green_offset, blue_offset, exact255, off_centre, exact_at}
use Rattle.kernels.specs.Inner.Forms.{chroma_offset, plus_chroma, Biased, Suits, raised, chroma_at}

-- ---- chroma in 256ths, above its centre

pub centred_is : (c : ℕ) → Diff (centred c) (min c 65536) 32768
unfolding centred
centred_is c = within_limits 32768 (lit< tt) (move c 32768 (minus (of_pos c) (of_pos 32768)) (omega arith))

pub centred_in : (c : ℕ) → c ≤ 65536 → Diff (centred c) c 32768
centred_in c h = move c 32768 (centred_is c) (omega arith)

-- limiting the 256ths limits the offset from the centre
pub centred_limited : (c m : ℕ) → m ≡ min c 65536 → centred m ≡ centred c
centred_limited c m e = unique (move (min c 65536) 32768 (centred_is m) (omega arith)) (centred_is c)

-- the rounded quotient of a difference by k times the divisor
rounded : {z : ℤ} {a b : ℕ} (d k : ℕ) → 0 < 2 * d → Diff z a b → (n : ℕ) → 2 * a + d + k * (2 * d) ≡ n + 2 * b → Diff (rnd z d) (n / (2 * d)) k
unfolding rnd
rounded {a = a} {b = b} d k p h n e = floored (2 * d) p k refl (move n (k * (2 * d)) (plus (times 2 h) (of_pos d)) (omega arith))

-- a biased offset, from its difference
biased : {z : ℤ} (bias r : ℕ) → Diff z r bias → r ≤ 2 * bias → Biased z bias r
biased bias r h l = record { is = as_sum r bias h; fits = l }

-- a biased offset added to the luma, and limited
pub add_limited : {z : ℤ} {bias r : ℕ} (y : ℕ) → Biased z bias r → limit 255 (pos y +ℤ z) ≡ min (y + r - bias) 255
add_limited {z = z} {bias = bias} {r = r} y h = limited 255 (plus (of_pos y) (from_sum z r bias h.is)) ∙ omega arith

-- ---- red and blue at maxval 255

pub red_suits : Suits 1402 180
red_suits = record { red = λ e. refl; blue = λ n. absurd (n refl); multiplier = omega arith; bias_most = omega arith; enough = omega arith }

pub blue_suits : Suits 1772 227
blue_suits = record { red = λ e. absurd (omega arith); blue = λ n. (refl, refl); multiplier = omega arith; bias_most = omega arith; enough = omega arith }

-- at these two multipliers the offset is red's and blue's
pub red_offset_is : (c : ℤ) → chroma_offset 1402 c ≡ red_offset c
unfolding chroma_offset red_offset
red_offset_is c = refl

pub blue_offset_is : (c : ℤ) → chroma_offset 1772 c ≡ blue_offset c
unfolding chroma_offset blue_offset
blue_offset_is c = refl

module _ {k bias : ℕ} (s : Suits k bias) where
  -- the numerator, raised by the bias and by a half
  pub raised_most : (c : ℕ) → c ≤ 65536 → raised k bias c ≤ 116304896
  raised_most c h = let m : k * c ≤ k * 65536 = mul-le-mul_left k h in omega arith

  offset_is : {z : ℤ} {c : ℕ} → Diff z c 32768 → Diff (chroma_offset k z) (raised k bias c / 256000) bias
  unfolding chroma_offset
  offset_is {c = c} h = move _ _ (rounded 256000 bias (lit< tt) (times k h) (2 * raised k bias c) (omega arith)) (omega arith)

  -- the raised quotient is the offset with its bias
  pub chroma_biased : (c r : ℕ) → c ≤ 65536 → r ≡ raised k bias c / 256000 → Biased (chroma_offset k (centred c)) bias r
  chroma_biased c r h e =
      let m : k * c ≤ k * 65536 = mul-le-mul_left k h in
      biased bias r (move r bias (offset_is (centred_in c h)) (omega arith)) (omega arith)

  pub plus_chroma_is : (y c : ℕ) → c ≤ 65536 → plus_chroma k y c ≡ min (y + raised k bias c / 256000 - bias) 255
  unfolding plus_chroma
  plus_chroma_is y c h = add_limited y (chroma_biased c _ h refl)

-- ---- green at maxval 255

pub green_biased : (b r q : ℕ) → b ≤ 65536 → r ≤ 65536 → q ≡ (20509039104 - 101004 * b - 209599 * r) / 75136000 → Biased (green_offset (centred b) (centred r)) 137 q
unfolding green_offset
green_biased b r q hb hr e =
    biased 137 q
    (move q 137
    (rounded 150272000 137 (lit< tt) (minus (neg (times 202008 (centred_in b hb))) (times 419198 (centred_in r hr))) (4 * (20509039104 - 101004 * b - 209599 * r)) (omega arith))
    (omega arith))
    (omega arith)

pub green_255 : (y b r : ℕ) → b ≤ 65536 → r ≤ 65536 → (exact255 y b r).green ≡ min (y + (20509039104 - 101004 * b - 209599 * r) / 75136000 - 137) 255
unfolding exact255
green_255 y b r hb hr = add_limited y (green_biased b r _ hb hr refl)

-- ---- any maxval d: no bias, since a sum below 0 is limited to 0

pub off_centre_is : (d c : ℕ) {h : ℕ} → h ≡ 256 * ((d + 1) / 2) → Diff (off_centre d c) c h
unfolding off_centre
off_centre_is d c e = move _ _ (minus (of_pos c) (of_pos (256 * ((d + 1) / 2)))) (omega arith)

pub limited_rnd : {z : ℤ} {a b : ℕ} (d n m q : ℕ) → q ≡ 2 * d → Diff z a b → 2 * a + d + m ≡ n + 2 * b → limit 255 (rnd z d) ≡ min ((n - m) / q) 255
unfolding rnd
limited_rnd {a = a} {b = b} d n m q s h e = rw s (limited_floor 255 (2 * d) (move n m (plus (times 2 h) (of_pos d)) (omega arith)))

-- h is the centre in 256ths
pub chroma_at_is : (k d y c : ℕ) {h : ℕ} → h ≡ 256 * ((d + 1) / 2) → chroma_at k d y c ≡ min ((510 * (256000 * y + k * c) + 256000 * d - 510 * (k * h)) / (512000 * d)) 255
unfolding chroma_at
chroma_at_is k d y c {h} e =
    limited_rnd (256000 * d) (510 * (256000 * y + k * c) + 256000 * d) (510 * (k * h)) (512000 * d) (omega arith)
    (times 255 (plus (of_pos (256000 * y)) (times k (off_centre_is d c e)))) (omega arith)

pub green_at : (d y b r : ℕ) {h : ℕ} → h ≡ 256 * ((d + 1) / 2) → (exact_at d y b r).green ≡ min ((510 * (150272000 * y + 621206 * h) + 150272000 * d - 510 * (202008 * b + 419198 * r)) / (300544000 * d)) 255
unfolding exact_at
green_at d y b r {h} e =
    limited_rnd (150272000 * d) (510 * (150272000 * y + 621206 * h) + 150272000 * d) (510 * (202008 * b + 419198 * r)) (300544000 * d) (omega arith)
    (times 255 (minus (minus (of_pos (150272000 * y)) (times 202008 (off_centre_is d b e))) (times 419198 (off_centre_is d r e)))) (omega arith)
