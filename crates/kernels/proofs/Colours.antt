-- A colour from its three channels, and what the tests of the single-pixel calls leave.
-- Equal channels make equal colours, and chroma may be limited first since `centred` limits it anyway (`centred_limited`). That both forms
-- agree at maxval 255 (`same_255`) is by their quotients of natural numbers, in which 255 cancels.
use Rattle.std.proofs.Common.{◌≡◌, refl, ◌||◌, ℕ, ◌≤◌, min, arith, ltb, ltb-false, Ok}
use Rattle.laws.specs.Refusals.{first}
use Rattle.laws.proofs.Refusals.{accepted_failed}
use Rattle.image.specs.declared.layout.Range.{Range}
use Rattle.laws.specs.Numbers.{outside_of}
use Rattle.image.proofs.Layouts.{neither, within}
use Rattle.kernels.specs.Kernels.{red_offset, blue_offset, exact255, exact_at, fixed_red, fixed_blue, fixed255}
use Rattle.kernels.specs.Inner.Kernels.{rgb}
use Rattle.kernels.specs.Pixels.{bad_exact, exact_tests, fixed_tests}
use Rattle.kernels.specs.Inner.Forms.{Suits, chroma_offset, plus_chroma, chroma_at, fixed_offset, plus_fixed}
use Rattle.kernels.proofs.Channels.{centred_limited, red_suits, blue_suits, plus_chroma_is, green_255, chroma_at_is, green_at}

module _ (y cb cr : ℕ) {r g b : ℕ} where
  -- maxval 255, by chroma limited before
  pub colour_255 : (lb lr : ℕ) → lb ≡ min cb 65536 → lr ≡ min cr 65536 → r ≡ plus_chroma 1402 y lr → g ≡ (exact255 y lb lr).green → b ≡ plus_chroma 1772 y lb → rgb r g b ≡ exact255 y cb cr
  unfolding exact255 red_offset blue_offset plus_chroma chroma_offset
  colour_255 lb lr p q er eg eb = rw (er, eg, eb, centred_limited cb lb p, centred_limited cr lr q) refl

  -- another maxval
  pub colour_at : (d : ℕ) → r ≡ chroma_at 1402 d y cr → g ≡ (exact_at d y cb cr).green → b ≡ chroma_at 1772 d y cb → rgb r g b ≡ exact_at d y cb cr
  unfolding exact_at chroma_at
  colour_at d er eg eb = rw (er, eg, eb) refl

  -- the fixed kernel
  pub colour_fixed : r ≡ plus_fixed 91881 y cr → g ≡ (fixed255 y cb cr).green → b ≡ plus_fixed 116130 y cb → rgb r g b ≡ fixed255 y cb cr
  unfolding fixed255 fixed_red fixed_blue plus_fixed fixed_offset
  colour_fixed er eg eb = rw (er, eg, eb) refl

-- ---- refusal 13

pub exact_passed : (range : Range) (d y cb cr : ℕ) → first (exact_tests range d y cb cr) ≡ Ok tt → (y ≤ 65535) × (cb ≤ 16776960) × (cr ≤ 16776960) × (1 ≤ d) × (d ≤ 65535)
unfolding exact_tests bad_exact
exact_passed range d y cb cr e =
    let n = (accepted_failed (exact_tests range d y cb cr) e).1.0 in
    let p = neither (ltb 65535 y) (ltb 16776960 cb || (ltb 16776960 cr || outside_of 1 65535 d)) n in
    let q = neither (ltb 16776960 cb) (ltb 16776960 cr || outside_of 1 65535 d) p.1 in
    let r = neither (ltb 16776960 cr) (outside_of 1 65535 d) q.1 in
    let s = within 1 65535 d r.1 in
    (ltb-false _ _ p.0, ltb-false _ _ q.0, ltb-false _ _ r.0, s.0, s.1)

pub fixed_passed : (y cb cr : ℕ) → first (fixed_tests y cb cr) ≡ Ok tt → (y ≤ 65535) × (cb ≤ 65535) × (cr ≤ 65535)
unfolding fixed_tests
fixed_passed y cb cr e =
    let n = (accepted_failed (fixed_tests y cb cr) e).0 in
    let p = neither (ltb 65535 y) (ltb 65535 cb || ltb 65535 cr) n in
    let q = neither (ltb 65535 cb) (ltb 65535 cr) p.1 in
    (ltb-false _ _ p.0, ltb-false _ _ q.0, ltb-false _ _ q.1)

-- ---- at maxval 255 the form for another maxval gives the same colour, for chroma in the limits

same_chroma : {k bias : ℕ} → Suits k bias → (y c : ℕ) → c ≤ 65536 → chroma_at k 255 y c ≡ plus_chroma k y c
same_chroma {k = k} s y c h = let e = plus_chroma_is s y c h in let f = chroma_at_is k 255 y c {h = 32768} refl in omega arith

same_green : (y cb cr : ℕ) → cb ≤ 65536 → cr ≤ 65536 → (exact_at 255 y cb cr).green ≡ (exact255 y cb cr).green
same_green y cb cr hb hr = let e = green_255 y cb cr hb hr in let f = green_at 255 y cb cr {h = 32768} refl in omega arith

pub same_255 : (y cb cr : ℕ) → cb ≤ 65536 → cr ≤ 65536 → exact_at 255 y cb cr ≡ exact255 y cb cr
unfolding exact_at chroma_at
same_255 y cb cr hb hr =
    colour_255 y cb cr cb cr (omega arith) (omega arith) (same_chroma red_suits y cr hr) (same_green y cb cr hb hr) (same_chroma blue_suits y cb hb)
