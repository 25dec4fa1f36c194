-- The exact kernel is ITU-T T.871's equations with Y inside the rounding, at every maxval.
use Rattle.std.proofs.Common.{◌≡◌, refl, sym, ap, ◌∙◌, Bool, true, false, cond, ℕ, suc, ◌+◌, ◌*◌, ◌-◌, ◌/◌, ◌<◌, ◌≤◌, min, arith, eqb, eqb→eq}
use native.Mathlib.Nat.{mul-sub, mul-div-mul_left}
use lib.IntN.{ℤ, pos, negsuc, ◌+ℤ◌, ◌-ℤ◌, ◌*ℤ◌}
use Rattle.laws.specs.Differences.{limit}
use Rattle.laws.specs.Inner.Differences.{Diff}
use Rattle.laws.proofs.Differences.{of_pos, plus, minus, times, unique}
use Rattle.kernels.specs.Kernels.{centred, off_centre, exact255, exact_at}
use Rattle.kernels.specs.HalvesUp.{rnd}
use Rattle.kernels.specs.T871.{t871_colour, chroma_less, t871_spans}
use Rattle.kernels.specs.Pixels.{exact_colour, pick_colour}
use Rattle.kernels.proofs.Channels.{centred_is, centred_limited, off_centre_is, limited_rnd}
use Rattle.kernels.proofs.Colours.{same_255}

-- with no limit on the chroma: by computation
pub at_is : (d y cb cr : ℕ) → exact_at d y cb cr ≡ t871_colour d (pos y) (off_centre d cb) (off_centre d cr)
unfolding exact_at t871_colour
at_is d y cb cr = refl

-- limiting the 256ths at 255 limits the offset from the centre
off_limited : (c : ℕ) → off_centre 255 (min c 65536) ≡ centred c
off_limited c = unique (off_centre_is 255 (min c 65536) refl) (centred_is c)

-- maxval 255 rounds the offset before Y is added, which is the same
pub is_255 : (y cb cr : ℕ) → exact255 y cb cr ≡ t871_colour 255 (pos y) (centred cb) (centred cr)
unfolding exact255
is_255 y cb cr =
    let b = min cb 65536 in
    let r = min cr 65536 in
    let e : exact255 y b r ≡ exact255 y cb cr = rw (centred_limited cb b refl, centred_limited cr r refl) refl in
    sym e ∙ sym (same_255 y b r (omega arith) (omega arith)) ∙ at_is 255 y b r ∙ rw (off_limited cb, off_limited cr) refl

-- every maxval
pub colour_is : (d y cb cr : ℕ) → exact_colour d y cb cr ≡ t871_colour d (pos y) (chroma_less d cb) (chroma_less d cr)
unfolding exact_colour chroma_less
colour_is d y cb cr = go (eqb d 255) refl
  where
    go : (t : Bool) → eqb d 255 ≡ t → pick_colour t (exact255 y cb cr) (exact_at d y cb cr) ≡ t871_colour d (pos y) (cond t (centred cb) (off_centre d cb)) (cond t (centred cr) (off_centre d cr))
    go true e = rw (eqb→eq d 255 (rw e tt)) (is_255 y cb cr)
    go false e = at_is d y cb cr

-- for chroma within the limits at 255, every maxval, the offset from the centre stands
pub colour_in_is : (d y cb cr : ℕ) → (d ≡ 255 → (cb ≤ 65536) × (cr ≤ 65536)) → exact_colour d y cb cr ≡ t871_colour d (pos y) (off_centre d cb) (off_centre d cr)
unfolding exact_colour
colour_in_is d y cb cr h = go (eqb d 255) refl
  where
    go : (t : Bool) → eqb d 255 ≡ t → pick_colour t (exact255 y cb cr) (exact_at d y cb cr) ≡ t871_colour d (pos y) (off_centre d cb) (off_centre d cr)
    go true e =
        let q : d ≡ 255 = eqb→eq d 255 (rw e tt) in
        let l = h q in
        rw q (sym (same_255 y cb cr l.0 l.1) ∙ at_is 255 y cb cr)
    go false e = at_is d y cb cr

-- ---- the equations for two spans are these where both are d, so that full and studio range are one set of equations

record Parts (z : ℤ) : Type 0 where
  a : ℕ
  b : ℕ
  is : Diff z a b

parts : (z : ℤ) → Parts z
parts (pos n) = record { a = n; b = 0; is = of_pos n }
parts (negsuc n) = record { a = 0; b = suc n; is = record { is = omega arith } }

-- a fraction by d over d times its divisor
cancelled : {v w : ℤ} {a b e f : ℕ} (d c g : ℕ) → 0 < d → Diff v a b → Diff w e f → a + d * f ≡ d * e + b → g ≡ d * c → limit 255 (rnd v g) ≡ limit 255 (rnd w c)
cancelled {v} {w} {a} {b} {e} {f} d c g z h k s t =
    limited_rnd g (d * (2 * e + c)) (d * (2 * f)) (d * (2 * c)) (omega (arith, t)) h (omega (arith, t, s))
    ∙ ap (λ (x : ℕ). min x 255) (ap (λ (x : ℕ). x / (d * (2 * c))) (sym (mul-sub d (2 * e + c) (2 * f))) ∙ mul-div-mul_left (2 * e + c - 2 * f) (2 * c) z)
    ∙ sym (limited_rnd c (2 * e + c) (2 * f) (2 * c) refl k refl)

module _ (d : ℕ) (z : 0 < d) (y cb cr : ℤ) where
  spans_chroma : (k : ℕ) (c : ℤ) → limit 255 (rnd (pos 255 *ℤ (pos (d * 256000) *ℤ y +ℤ pos (d * k) *ℤ c)) (d * d * 256000)) ≡ limit 255 (rnd (pos 255 *ℤ (pos 256000 *ℤ y +ℤ pos k *ℤ c)) (256000 * d))
  spans_chroma k c =
      let l = (parts y).is in
      let m = (parts c).is in
      cancelled d (256000 * d) (d * d * 256000) z (times 255 (plus (times (d * 256000) l) (times (d * k) m))) (times 255 (plus (times 256000 l) (times k m))) (omega arith) (omega arith)

  spans_green : limit 255 (rnd (pos 255 *ℤ (pos (d * 150272000) *ℤ y -ℤ pos (d * 202008) *ℤ cb -ℤ pos (d * 419198) *ℤ cr)) (d * d * 150272000)) ≡ limit 255 (rnd (pos 255 *ℤ (pos 150272000 *ℤ y -ℤ pos 202008 *ℤ cb -ℤ pos 419198 *ℤ cr)) (150272000 * d))
  spans_green =
      let l = (parts y).is in
      let m = (parts cb).is in
      let n = (parts cr).is in
      cancelled d (150272000 * d) (d * d * 150272000) z (times 255 (minus (minus (times (d * 150272000) l) (times (d * 202008) m)) (times (d * 419198) n)))
      (times 255 (minus (minus (times 150272000 l) (times 202008 m)) (times 419198 n))) (omega arith) (omega arith)

  pub spans_same : t871_spans d d y cb cr ≡ t871_colour d y cb cr
  unfolding t871_spans t871_colour
  spans_same = rw (spans_chroma 1402 cr, spans_green, spans_chroma 1772 cb) refl
