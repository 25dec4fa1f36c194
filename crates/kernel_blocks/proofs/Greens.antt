-- Green: where the offsets with a margin added and taken away round alike, that is the exact offset.
-- The float sum with its margin is within 6 / 256 of the exact one, and the margin is 8 / 256. So the two bounds of GridBits, one from each side,
-- leave one whole number, the exact quotient: that is `settled`, the one hard step, and linear.
use Rattle.std.proofs.Common.{◌≡◌, refl, sym, subst, true, false, not, ℕ, ◌+◌, ◌-◌, ◌*◌, ◌/◌, ◌≤◌, arith, T, lit<, Float}
use lib.IntN.{negsuc}
use lib.Ieee.{fin, is_nan}
use Rattle.laws.specs.Floats.{◌⊕◌, ◌⊖◌, ◌⊗◌}
use Rattle.laws.specs.Inner.Floats.{NearFraction}
use Rattle.laws.proofs.Nearness.{mild_step, near_chain, value_near, add_near}
use Rattle.kernels.specs.Kernels.{centred, green_offset}
use Rattle.kernels.proofs.Channels.{green_biased}
use Rattle.kernel_blocks.specs.Inner.Floating.{Centred, OnGrid, middle, green_taken, margin, less_margin, Margin, added, taken, green_bits, Sure}
use Rattle.kernel_blocks.proofs.GridBits.{Counts, Bits, minus_bits}
use Rattle.kernel_blocks.proofs.Chromas.{scaled}
use Rattle.kernel_blocks.proofs.Lumas.{on_grid_from}

-- what green takes from luma, 202008 / 587000 of Cb and 419198 / 587000 of Cr, in 32nds of a 587,000th
abbrev unit : ℕ
unit = 18784000

abbrev parts : ℕ → ℕ → ℕ
parts b r = 6464256 * b + 13414336 * r

-- and the margin
abbrev slack : ℕ
slack = 587000

module _ {x y : Float} {b r : ℕ} (h : Centred x b) (k : Centred y r) where
  green_taken_near : NearFraction (green_taken x y) (parts b r) (parts 32768 32768) unit 5
  green_taken_near =
      let l = h.most in
      let m = k.most in
      let u = fin false 5773649 (negsuc 23) in
      let v = fin false 11981219 (negsuc 23) in
      add_near (u ⊗ x) (v ⊗ y) (6464256 * b) (6464256 * 32768) (13414336 * r) (13414336 * 32768) unit 2 2 5
      (mild_step (parts b r) (parts 32768 32768) unit 4 (record { some = lit< tt; top = omega arith; bottom = omega arith; few = omega arith }))
      (near_chain (u ⊗ x) (5773649 * b) (5773649 * 32768) 16777216 (6464256 * b) (6464256 * 32768) unit 1 1 (lit< tt) (scaled u x 5773649 16777216 b (refl, refl) (lit< tt) (omega arith) h) (omega arith))
      (near_chain (v ⊗ y) (11981219 * r) (11981219 * 32768) 16777216 (13414336 * r) (13414336 * 32768) unit 1 1 (lit< tt) (scaled v y 11981219 16777216 r (refl, refl) (lit< tt) (omega arith) k) (omega arith))

  -- with (p - n) / unit added
  green_bits_is : (t : Float) (p n : ℕ) → NearFraction t p n unit 0 → p ≤ slack → n ≤ slack → Bits (middle ⊖ (green_taken x y ⊕ t)) (parts 32768 32768 + n) (parts b r + p) unit 6
  green_bits_is t p n w f g =
      let l = h.most in
      let m = k.most in
      minus_bits (parts 32768 32768 + n) (parts b r + p) unit 6 (record { some = lit< tt; top = omega arith; bottom = omega arith }) (green_taken x y ⊕ t)
      (add_near (green_taken x y) t (parts b r) (parts 32768 32768) p n unit 5 0 6
      (mild_step (parts b r + p) (parts 32768 32768 + n) unit 5 (record { some = lit< tt; top = omega arith; bottom = omega arith; few = omega arith })) green_taken_near w)

  above : Bits (middle ⊖ (green_taken x y ⊕ margin)) (parts 32768 32768 + 0) (parts b r + slack) unit 6
  above = green_bits_is margin slack 0 (value_near margin false slack unit (refl, refl)) (omega arith) (omega arith)

  below : Bits (middle ⊖ (green_taken x y ⊕ less_margin)) (parts 32768 32768 + slack) (parts b r + 0) unit 6
  below = green_bits_is less_margin 0 slack (value_near less_margin true slack unit (refl, refl)) (omega arith) (omega arith)

  pub green_sure : Sure x y → OnGrid (green_offset (centred b) (centred r)) (green_bits x y margin)
  unfolding green_bits
  green_sure e =
      let l = h.most in
      let m = k.most in
      on_grid_from 137 _ _ (green_biased b r _ l m refl) (omega arith) (settled b r (green_bits x y margin) l m above.counts (subst (λ (z : ℕ). Counts z (parts 32768 32768 + slack) (parts b r + 0) unit 6) (sym e) below.counts))
    where
      settled : (b r q : ℕ) → b ≤ 65536 → r ≤ 65536 → Counts q (parts 32768 32768 + 0) (parts b r + slack) unit 6 → Counts q (parts 32768 32768 + slack) (parts b r + 0) unit 6 → q + 137 ≡ 1329594368 + (20509039104 - 101004 * b - 209599 * r) / 75136000
      settled b r q l m u v = omega arith

-- what the code asks of the sum: that it is a number, and that its bits are an i32's
module _ {x y : Float} {b r : ℕ} (h : Centred x b) (k : Centred y r) where
  pub green_number : {t : Float} → Margin t → T (not (is_nan (middle ⊖ (green_taken x y ⊕ t))))
  green_number added = (above h k).number
  green_number taken = (below h k).number

  pub green_most : {t : Float} → Margin t → green_bits x y t ≤ 2147483647
  unfolding green_bits
  green_most added = let u = (above h k).counts.hi in omega arith
  green_most taken = let u = (below h k).counts.hi in omega arith
