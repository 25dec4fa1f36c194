-- Studio range over natural numbers, as the code computes it.
use Rattle.std.proofs.Common.{◌≡◌, refl, ℕ, ◌+◌, ◌*◌, ◌-◌, ◌/◌, ◌≤◌, min, arith}
use Rattle.laws.specs.Inner.Differences.{Diff}
use Rattle.laws.proofs.Differences.{of_pos, move, plus, minus, times}
use Rattle.kernels.specs.Inner.Kernels.{rgb}
use Rattle.kernels.specs.T871.{less16, t871_spans, studio255}
use Rattle.kernels.specs.Inner.Forms.{studio_chroma}
use Rattle.kernels.proofs.Channels.{centred_in, centred_limited, limited_rnd}

less_16 : (y : ℕ) → Diff (less16 y) y 16
less_16 y = move y 16 (minus (of_pos y) (of_pos 16)) (omega arith)

pub studio_chroma_is : (k y c : ℕ) → c ≤ 65536 → studio_chroma k y c ≡ min ((510 * (57344000 * y + 219 * k * c) + 12558336000 - 510 * (917504000 + 7176192 * k)) / 25116672000) 255
unfolding studio_chroma
studio_chroma_is k y c h =
    limited_rnd 12558336000 (510 * (57344000 * y + 219 * k * c) + 12558336000) (510 * (917504000 + 7176192 * k)) 25116672000 refl
    (times 255 (plus (times 57344000 (less_16 y)) (times (219 * k) (centred_in c h)))) (omega arith)

pub studio_green : (y b r : ℕ) → b ≤ 65536 → r ≤ 65536 → (studio255 y b r).green
    ≡ min ((510 * (33660928000 * y + 4457893527552) + 7371743232000 - 510 * (538574848000 + 44239752 * b + 91804362 * r)) / 14743486464000) 255
unfolding studio255 t871_spans
studio_green y b r hb hr =
    limited_rnd 7371743232000 (510 * (33660928000 * y + 4457893527552) + 7371743232000) (510 * (538574848000 + 44239752 * b + 91804362 * r)) 14743486464000 refl
    (times 255 (minus (minus (times 33660928000 (less_16 y)) (times 44239752 (centred_in b hb))) (times 91804362 (centred_in r hr)))) (omega arith)

-- a colour from its three channels, by chroma limited before
pub colour_studio : (y cb cr : ℕ) {r g b : ℕ} (lb lr : ℕ) → lb ≡ min cb 65536 → lr ≡ min cr 65536 → r ≡ studio_chroma 1402 y lr → g ≡ (studio255 y lb lr).green → b ≡ studio_chroma 1772 y lb → rgb r g b ≡ studio255 y cb cr
unfolding studio255 t871_spans studio_chroma
colour_studio y cb cr lb lr p q er eg eb = rw (er, eg, eb, centred_limited cb lb p, centred_limited cr lr q) refl
