-- Where both shifts give the same bits, luma with them is the exact byte of studio range.
use Rattle.std.proofs.Common.{◌≡◌, sym, subst, ◌∙◌, not, ℕ, ◌+◌, ◌-◌, ◌*◌, ◌/◌, ◌≤◌, min, arith, T, Float}
use lib.IntN.{ℤ, pos, ◌+ℤ◌}
use lib.Ieee.{is_nan}
use Rattle.laws.specs.Floats.{◌⊕◌, ◌⊖◌, ◌⊗◌}
use Rattle.laws.specs.Differences.{limit}
use Rattle.laws.proofs.Differences.{of_pos, plus, limited}
use Rattle.kernels.specs.T871.{studio255}
use Rattle.kernels.specs.Inner.Forms.{studio_chroma}
use Rattle.kernels.proofs.Studios.{studio_chroma_is, studio_green}
use Rattle.kernel_blocks.specs.Inner.Floating.{Centred, Lowered, middle}
use Rattle.kernel_blocks.specs.Inner.Studio.{Shift, by_less, by_more, less_shift, more_shift, luma_part, Part, Parted, Tone, of_red, of_blue, tone_bits, fall, fall_bits, ToneSure, FallSure}
use Rattle.kernel_blocks.proofs.GridBits.{Counts}
use Rattle.kernel_blocks.proofs.Lumas.{lowered_diff}
use Rattle.kernel_blocks.proofs.Levels.{unit, unit_green, tone_bits_is, fall_bits_is}

-- luma and bits, limited
summed : {z : ℤ} {l : ℕ} (q : ℕ) → Lowered z l → limit 255 (z +ℤ pos q) ≡ min (l + q - 1329594368) 255
summed q h = limited 255 (plus (lowered_diff h) (of_pos q)) ∙ omega arith

red_settled : (l c q : ℕ) → l ≤ 511 → c ≤ 65536 → Counts q (2064384000 * l + 0 + 78294690 * c) (0 + 233961669375 + 2565560401920) unit 6 → Counts q (2064384000 * l + 0 + 78294690 * c) (0 + 233965501875 + 2565560401920) unit 6
    → min (l + q - 1329594368) 255 ≡ min ((510 * (57344000 * l + 307038 * c) + 12558336000 - 510 * (917504000 + 10061021184)) / 25116672000) 255
red_settled l c q h k u v = omega arith

blue_settled : (l c q : ℕ) → l ≤ 511 → c ≤ 65536 → Counts q (2064384000 * l + 0 + 98957340 * c) (0 + 233961669375 + 3242634117120) unit 6 → Counts q (2064384000 * l + 0 + 98957340 * c) (0 + 233965501875 + 3242634117120) unit 6
    → min (l + q - 1329594368) 255 ≡ min ((510 * (57344000 * l + 388068 * c) + 12558336000 - 510 * (917504000 + 12716212224)) / 25116672000) 255
blue_settled l c q h k u v = omega arith

green_settled : (l b r q : ℕ) → l ≤ 511 → b ≤ 65536 → r ≤ 65536
    → Counts q ((2064384000 * l + 0) * 587 + (11281136760 * 32768 + 23410112310 * 32768)) ((0 + 191625 * 1220935) * 587 + (11281136760 * b + 23410112310 * r)) unit_green 9
    → Counts q ((2064384000 * l + 0) * 587 + (11281136760 * 32768 + 23410112310 * 32768)) ((0 + 191625 * 1220955) * 587 + (11281136760 * b + 23410112310 * r)) unit_green 9
    → min (l + q - 1329594368) 255 ≡ min ((510 * (33660928000 * l + 4457893527552) + 7371743232000 - 510 * (538574848000 + 44239752 * b + 91804362 * r)) / 14743486464000) 255
green_settled l b r q h i j u v = omega arith

pub tone_is : {k x : Float} {m c l : ℕ} {z : ℤ} → l ≤ 511 → Tone k m → Centred x c → Lowered z l → ToneSure k x l → limit 255 (z +ℤ pos (tone_bits k (luma_part less_shift l) x)) ≡ studio_chroma m l c
unfolding tone_bits
tone_is {k} {x} {c = c} {l = l} b of_red h w e =
    summed _ w
    ∙ red_settled l c (tone_bits k (luma_part less_shift l) x) b h.most (tone_bits_is l b of_red by_less h).counts (subst (λ (q : ℕ). Counts q (2064384000 * l + 0 + 78294690 * c) (0 + 233965501875 + 2565560401920) unit 6) (sym e) (tone_bits_is l b of_red by_more h).counts)
    ∙ sym (studio_chroma_is 1402 l c h.most)
tone_is {k} {x} {c = c} {l = l} b of_blue h w e =
    summed _ w
    ∙ blue_settled l c (tone_bits k (luma_part less_shift l) x) b h.most (tone_bits_is l b of_blue by_less h).counts (subst (λ (q : ℕ). Counts q (2064384000 * l + 0 + 98957340 * c) (0 + 233965501875 + 3242634117120) unit 6) (sym e) (tone_bits_is l b of_blue by_more h).counts)
    ∙ sym (studio_chroma_is 1772 l c h.most)

pub fall_is : {x y : Float} {b r l : ℕ} {z : ℤ} → l ≤ 511 → Centred x b → Centred y r → Lowered z l → FallSure x y l → limit 255 (z +ℤ pos (fall_bits (luma_part less_shift l) x y)) ≡ (studio255 l b r).green
unfolding fall_bits
fall_is {x} {y} {b} {r} {l} i h k w e =
    summed _ w
    ∙ green_settled l b r (fall_bits (luma_part less_shift l) x y) i h.most k.most (fall_bits_is l i by_less h k).counts
    (subst (λ (q : ℕ). Counts q ((2064384000 * l + 0) * 587 + (11281136760 * 32768 + 23410112310 * 32768)) ((0 + 191625 * 1220955) * 587 + (11281136760 * b + 23410112310 * r)) unit_green 9) (sym e) (fall_bits_is l i by_more h k).counts)
    ∙ sym (studio_green l b r h.most k.most)

-- the same of a part that is luma's
pub tone_byte : {k x u : Float} {m c l : ℕ} {z : ℤ} → Part less_shift u l → Tone k m → Centred x c → Lowered z l → ToneSure k x l → limit 255 (z +ℤ pos (tone_bits k u x)) ≡ studio_chroma m l c
tone_byte {k} {x} {m = m} {c = c} {l = l} {z = z} p w h o e = subst (λ (v : Float). limit 255 (z +ℤ pos (tone_bits k v x)) ≡ studio_chroma m l c) (sym p.is) (tone_is p.most w h o e)

pub fall_byte : {x y u : Float} {b r l : ℕ} {z : ℤ} → Part less_shift u l → Centred x b → Centred y r → Lowered z l → FallSure x y l → limit 255 (z +ℤ pos (fall_bits u x y)) ≡ (studio255 l b r).green
fall_byte {x} {y} {b = b} {r = r} {l = l} {z = z} p h k o e = subst (λ (v : Float). limit 255 (z +ℤ pos (fall_bits v x y)) ≡ (studio255 l b r).green) (sym p.is) (fall_is p.most h k o e)

-- what the code asks of the sums: that they are numbers, and that their bits are an i32's
pub tone_number : {k x u : Float} {m c : ℕ} → Tone k m → Parted u → Centred x c → T (not (is_nan (middle ⊕ (u ⊕ k ⊗ x))))
tone_number {k} {x} w q h = subst (λ (v : Float). T (not (is_nan (middle ⊕ (v ⊕ k ⊗ x))))) (sym q.4.is) (tone_bits_is q.2 q.4.most w q.3 h).number

tone_below : {k x t : Float} {m c n : ℕ} (l : ℕ) → l ≤ 511 → Tone k m → Shift t n → Centred x c → tone_bits k (luma_part t l) x ≤ 2147483647
unfolding tone_bits
tone_below {c = c} l b of_red s h = let z = h.most in let u = (tone_bits_is l b of_red s h).counts.hi in omega arith
tone_below {c = c} l b of_blue s h = let z = h.most in let u = (tone_bits_is l b of_blue s h).counts.hi in omega arith

pub tone_most : {k x u : Float} {m c : ℕ} → Tone k m → Parted u → Centred x c → tone_bits k u x ≤ 2147483647
tone_most {k} {x} w q h = subst (λ (v : Float). tone_bits k v x ≤ 2147483647) (sym q.4.is) (tone_below q.2 q.4.most w q.3 h)

pub fall_number : {x y u : Float} {b r : ℕ} → Parted u → Centred x b → Centred y r → T (not (is_nan (middle ⊕ (u ⊖ fall x y))))
fall_number {x} {y} q h k = subst (λ (v : Float). T (not (is_nan (middle ⊕ (v ⊖ fall x y))))) (sym q.4.is) (fall_bits_is q.2 q.4.most q.3 h k).number

fall_below : {x y t : Float} {b r n : ℕ} (l : ℕ) → l ≤ 511 → Shift t n → Centred x b → Centred y r → fall_bits (luma_part t l) x y ≤ 2147483647
unfolding fall_bits
fall_below l i s h k = let z = h.most in let w = k.most in let u = (fall_bits_is l i s h k).counts.hi in omega arith

pub fall_most : {x y u : Float} {b r : ℕ} → Parted u → Centred x b → Centred y r → fall_bits u x y ≤ 2147483647
fall_most {x} {y} q h k = subst (λ (v : Float). fall_bits v x y ≤ 2147483647) (sym q.4.is) (fall_below q.2 q.4.most q.3 h k)

pub tone_small : {k : Float} {m : ℕ} → Tone k m → m ≤ 1772
tone_small of_red = omega arith
tone_small of_blue = omega arith

-- a part by either shift is one
pub parted_less : {u : Float} {l : ℕ} → Part less_shift u l → Parted u
parted_less {l = l} p = (less_shift, 1220935, l, by_less, p)

pub parted_more : {u : Float} {l : ℕ} → Part more_shift u l → Parted u
parted_more {l = l} p = (more_shift, 1220955, l, by_more, p)

-- ---- from 511 on every colour is 255

red_top : (y c : ℕ) → c ≤ 65536 → min ((510 * (57344000 * y + 307038 * c) + 12558336000 - 510 * (917504000 + 10061021184)) / 25116672000) 255 ≡ min ((510 * (57344000 * min y 511 + 307038 * c) + 12558336000 - 510 * (917504000 + 10061021184)) / 25116672000) 255
red_top y c h = omega arith

blue_top : (y c : ℕ) → c ≤ 65536 → min ((510 * (57344000 * y + 388068 * c) + 12558336000 - 510 * (917504000 + 12716212224)) / 25116672000) 255 ≡ min ((510 * (57344000 * min y 511 + 388068 * c) + 12558336000 - 510 * (917504000 + 12716212224)) / 25116672000) 255
blue_top y c h = omega arith

pub tone_top : {k : Float} {m : ℕ} (y c : ℕ) → Tone k m → c ≤ 65536 → studio_chroma m (min y 511) c ≡ studio_chroma m y c
tone_top y c of_red h = studio_chroma_is 1402 (min y 511) c h ∙ sym (red_top y c h) ∙ sym (studio_chroma_is 1402 y c h)
tone_top y c of_blue h = studio_chroma_is 1772 (min y 511) c h ∙ sym (blue_top y c h) ∙ sym (studio_chroma_is 1772 y c h)

green_top : (y b r : ℕ) → b ≤ 65536 → r ≤ 65536
    → min ((510 * (33660928000 * y + 4457893527552) + 7371743232000 - 510 * (538574848000 + 44239752 * b + 91804362 * r)) / 14743486464000) 255
    ≡ min ((510 * (33660928000 * min y 511 + 4457893527552) + 7371743232000 - 510 * (538574848000 + 44239752 * b + 91804362 * r)) / 14743486464000) 255
green_top y b r h k = omega arith

pub fall_top : (y b r : ℕ) → b ≤ 65536 → r ≤ 65536 → (studio255 (min y 511) b r).green ≡ (studio255 y b r).green
fall_top y b r h k = studio_green (min y 511) b r h k ∙ sym (green_top y b r h k) ∙ sym (studio_green y b r h k)
