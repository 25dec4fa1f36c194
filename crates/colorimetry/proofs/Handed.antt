-- What an accepted `patch_mean` was handed, and its three answers: refused, no pixel shared, a mean.
-- The loops sum bytes by their places, the promise pixels by row and column: `area_is` says that these are the same bytes.
use Rattle.std.proofs.Common.{◌≡◌, refl, sym, ap, subst, true, false, ◌&&◌, inl, inr, List, [], ◌∷◌, ℕ, ◌+◌, ◌*◌, ◌≤◌, ◌<◌, mul-le-mul, eq-zero-or-pos, add-mul, arith, ltb, length, get_or, ltb-false, lt-ltb, Ok, Err}
use Rattle.laws.specs.Refusals.{first, accepted}
use Rattle.laws.proofs.Limits.{neither, within}
use Rattle.laws.proofs.Refusals.{accepted_failed}
use Rattle.laws.proofs.Rows.{row_fits}
use Rattle.laws.proofs.Sums.{sum_same}
use Rattle.colorimetry.specs.declared.patch.Patch.{Patch}
use Rattle.colorimetry.specs.declared.patch.Patch.TheVariants.{Mean, Nothing}
use Rattle.laws.specs.declared.refusal.Refusal.{Refusal}
use Rattle.colorimetry.specs.Patches.{patch_reply, PatchCall, channel_at, shared_of, across_of, down_of, count_of, channel_sum, channel_mean, whole_mean, bad_sides, passes, passes_end, patch_tests, has_mean, PatchGiven}
use Rattle.colorimetry.specs.Inner.Sums.{row_sum, area_sum, Inside}

-- ---- what was handed

pub record PatchHanded (c : PatchCall) : Type 0 where
  pub w_most : c.w ≤ 8192
  pub h_most : c.h ≤ 8192
  pub across_end : c.rectangle.left + c.rectangle.width ≤ 65535
  pub down_end : c.rectangle.top + c.rectangle.height ≤ 65535
  pub room : c.w * c.h * 3 ≤ length c.rgb
  pub passed : first (patch_tests c) ≡ Ok tt

pub patch_handed : (c : PatchCall) → first (patch_tests c) ≡ Ok tt → PatchHanded c
unfolding patch_tests bad_sides passes passes_end
patch_handed c e =
    let f = accepted_failed (patch_tests c) e in
    let s = neither _ _ f.0 in
    let p = neither _ _ f.1.0 in
    record {
      w_most = (within 1 8192 c.w s.0).1;
      h_most = (within 1 8192 c.h s.1).1;
      across_end = ltb-false 65535 _ p.0;
      down_end = ltb-false 65535 _ p.1;
      room = ltb-false (length c.rgb) (c.w * c.h * 3) f.1.1.0;
      passed = e;
    }

-- the shared sides lie inside the picture's
pub across_most : (c : PatchCall) → PatchHanded c → across_of c ≤ 8192
unfolding shared_of
across_most c h = let a = h.w_most in omega arith

pub down_most : (c : PatchCall) → PatchHanded c → down_of c ≤ 8192
unfolding shared_of
down_most c h = let a = h.h_most in omega arith

pub count_most : (c : PatchCall) → PatchHanded c → count_of c ≤ 67108864
count_most c h = mul-le-mul (across_most c h) (down_most c h)

-- where the shared rows begin
pub start_most : (c : PatchCall) → PatchHanded c → c.rectangle.top * c.w ≤ 536862720
start_most c h = let a : c.rectangle.top ≤ 65535 = omega (arith, h.down_end) in mul-le-mul a h.w_most

-- ---- the three answers

-- refused
pub refused_given : (c : PatchCall) (why : Refusal) → Err why ≡ first (patch_tests c) → PatchGiven c (patch_reply (Err why))
unfolding has_mean
refused_given c why e = let g : accepted (first (patch_tests c)) ≡ false = ap accepted (sym e) in record { answers = e; mean = rw g refl; wholes = rw g refl; count = rw g refl }

-- accepted, with no pixel
pub nothing_given : (c : PatchCall) → PatchHanded c → count_of c ≡ 0 → PatchGiven c (patch_reply (Ok (record { patch = Nothing; whole = 0 ∷ 0 ∷ 0 ∷ []; pixels = 0 })))
unfolding has_mean
nothing_given c h z =
    let g : accepted (first (patch_tests c)) && ltb 0 (count_of c) ≡ false = rw h.passed (rw z refl) in
    record { answers = sym h.passed; mean = rw g refl; wholes = rw g refl; count = rw g refl }

-- accepted, with some
pub mean_given : (c : PatchCall) (p : Patch) (ws : List ℕ) (n : ℕ) → PatchHanded c → n ≡ count_of c → 0 < n
    → p ≡ Mean (channel_mean c 0) (channel_mean c 1) (channel_mean c 2) → ws ≡ whole_mean c 0 ∷ whole_mean c 1 ∷ whole_mean c 2 ∷ []
    → PatchGiven c (patch_reply (Ok (record { patch = p; whole = ws; pixels = n })))
unfolding has_mean
mean_given c p ws n h q z ep ew =
    let g : accepted (first (patch_tests c)) && ltb 0 (count_of c) ≡ true = rw h.passed (lt-ltb 0 (count_of c) (subst (λ (k : ℕ). 0 < k) q z)) in
    record { answers = sym h.passed; mean = rw g ep; wholes = rw g ew; count = rw g q }

-- ---- the shared rows, as bytes

-- where they begin
abbrev pub start_of : PatchCall → ℕ
start_of c = 3 * (c.rectangle.top * c.w + c.rectangle.left)

-- each of them lies inside the picture
pub area_inside : (c : PatchCall) → PatchHanded c → 0 < across_of c → Inside (length c.rgb) (start_of c) (3 * c.w) (across_of c) (down_of c)
unfolding Inside shared_of
area_inside c h z j J =
    let r = row_fits (c.rectangle.top + j) c.h c.w (omega arith) in
    let s = add-mul c.rectangle.top j c.w in
    let q = h.room in
    let a : c.rectangle.left + across_of c ≤ c.w = omega arith in
    omega (arith, r, s, q, a)

-- and their bytes are those of the shared pixels
pub area_is : (c : PatchCall) (k : ℕ) → area_sum c.rgb (start_of c) (3 * c.w) (across_of c) (down_of c) k ≡ channel_sum c k
unfolding area_sum row_sum channel_sum channel_at
area_is c k = sum_same (down_of c) _ _ (λ j J. sum_same (across_of c) _ _ (λ i I. ap (λ (z : ℕ). get_or c.rgb z 0) (place c.rectangle.top c.rectangle.left c.w j i k)))
  where
    place : (t l w j i k : ℕ) → 3 * (t * w + l) + j * (3 * w) + 3 * i + k ≡ 3 * ((t + j) * w + (l + i)) + k
    place t l w j i k = omega (arith, add-mul t j w)

-- ---- products

pub factor_some : (n m : ℕ) → 0 < n * m → 0 < n
factor_some n m h = elim (eq-zero-or-pos n) [ inl e ↦ let z : 0 < 0 * m = subst (λ (k : ℕ). 0 < k * m) e h in absurd (omega arith) | inr l ↦ l ]
