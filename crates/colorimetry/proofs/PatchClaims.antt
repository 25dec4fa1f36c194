-- The claims of specs/PatchClaims. A sum goes over exactly the shared pixels (`counted`, `all_counted`), so that what is known of each of
-- these is known of the sum: its bounds by `sum_within`, its value by `sum_same`. The floats are laws of Means.
use Rattle.std.proofs.Common.{◌≡◌, refl, sym, ap, ◌∙◌, subst, Bool, true, ◌&&◌, inl, inr, List, [], ◌∷◌, ℕ, zero, suc, ◌+◌, ◌-◌, ◌*◌, ◌≤◌, ◌<◌, mul_assoc, mul-pos, eq-zero-or-pos, arith, T, ltb, Float, lt-ltb}
use lib.Ieee.{binary64}
use lib.Ieee.Bits.{is_true}
use Rattle.laws.specs.Refusals.{Answer, first, accepted}
use Rattle.laws.proofs.Refusals.{accepted_is}
use Rattle.laws.proofs.Sums.{sum_same, sum_within}
use Rattle.laws.proofs.Values.{cast_value}
use Rattle.colorimetry.specs.declared.patch.Patch.TheVariants.{Mean, Nothing}
use Rattle.colorimetry.specs.Patches.{PatchReply, PatchCall, channel_at, shared_of, across_of, down_of, count_of, channel_sum, channel_mean, passes_end, bad_sides, patch_tests, has_mean, pick_patch, PatchGiven}
use Rattle.colorimetry.specs.PatchClaims.{Shared, Bytes, with_rgb, too_short, PatchClaims}
use Rattle.colorimetry.proofs.Handed.{PatchHanded, patch_handed, count_most, factor_some}
use Rattle.colorimetry.proofs.Means.{whole_within, mean_once, mean_within}
use Rattle.laws.specs.declared.refusal.Refusal.TheVariants.{BadSize, ShortOutput, BadRectangle}

-- ---- the shared pixels

counted : (c : PatchCall) (j i : ℕ) → j < down_of c → i < across_of c → Shared c (c.rectangle.top + j) (c.rectangle.left + i)
unfolding shared_of
counted c j i J I = record { from_left_is = omega arith; before_right = omega arith; from_top = omega arith; before_bottom = omega arith; in_row = omega arith; in_column = omega arith }

all_counted : (c : PatchCall) (y x : ℕ) → Shared c y x → (j : ℕ) × (i : ℕ) × (j < down_of c) × (i < across_of c) × (y ≡ c.rectangle.top + j) × (x ≡ c.rectangle.left + i)
unfolding shared_of
all_counted c y x s =
    let a = s.from_left_is in
    let b = s.before_right in
    let d = s.from_top in
    let e = s.before_bottom in
    let f = s.in_row in
    let g = s.in_column in
    (y - c.rectangle.top, x - c.rectangle.left, omega arith, omega arith, omega arith, omega arith)

-- some pixel is shared exactly if the count is above 0
some_shared : (c : PatchCall) (y x : ℕ) → Shared c y x → 0 < count_of c
some_shared c y x s = let p = all_counted c y x s in mul-pos (some p.1 (across_of c) p.3) (some p.0 (down_of c) p.2)
  where
    some : (i n : ℕ) → i < n → 0 < n
    some i n h = omega arith

none_shared : (c : PatchCall) → ((y x : ℕ) → Shared c y x → ⊥) → count_of c ≡ 0
none_shared c h = elim (eq-zero-or-pos (count_of c)) [ inl e ↦ e | inr l ↦ absurd (h (c.rectangle.top + 0) (c.rectangle.left + 0) (counted c 0 0 (other (across_of c) (down_of c) l) (factor_some (across_of c) (down_of c) l))) ]
  where
    other : (n m : ℕ) → 0 < n * m → 0 < m
    other n zero l = absurd (omega arith)
    other n (suc m) l = omega arith

-- ---- sums and means

sum_between : (c : PatchCall) (k lo hi : ℕ) → ((y x : ℕ) → Shared c y x → (lo ≤ channel_at c k y x) × (channel_at c k y x ≤ hi)) → (lo * count_of c ≤ channel_sum c k) × (channel_sum c k ≤ hi * count_of c)
unfolding channel_sum
sum_between c k lo hi h =
    let p = sum_within (down_of c) _ (lo * across_of c) (hi * across_of c) (λ j J. sum_within (across_of c) _ lo hi (λ i I. h (c.rectangle.top + j) (c.rectangle.left + i) (counted c j i J I))) in
    rw (mul_assoc lo (across_of c) (down_of c), mul_assoc hi (across_of c) (down_of c)) at p

handed : (c : PatchCall) → T (accepted (first (patch_tests c))) → PatchHanded c
handed c a = patch_handed c (accepted_is (first (patch_tests c)) (is_true (accepted (first (patch_tests c))) a))

sum_small : (c : PatchCall) (k : ℕ) → Bytes c.rgb → T (accepted (first (patch_tests c))) → channel_sum c k ≤ 9007199254740992
unfolding channel_at
sum_small c k b a =
    let p = (sum_between c k 0 255 (λ y x s. (omega arith, b (3 * (y * c.w + x) + k)))).1 in
    let q = count_most c (handed c a) in
    bounded (channel_sum c k) (count_of c) p q
  where
    bounded : (s n : ℕ) → s ≤ 255 * n → n ≤ 67108864 → s ≤ 9007199254740992
    bounded s n p q = omega arith

count_small : (c : PatchCall) → T (accepted (first (patch_tests c))) → count_of c ≤ 9007199254740992
count_small c a = below (count_of c) (count_most c (handed c a))
  where
    below : (n : ℕ) → n ≤ 67108864 → n ≤ 9007199254740992
    below n h = omega arith

-- ---- alike pictures

-- the same sums, and so the same means
module _ (c : PatchCall) (rgb : List ℕ) (h : (k y x : ℕ) → k < 3 → Shared c y x → channel_at c k y x ≡ channel_at (with_rgb c rgb) k y x) where
  sums_alike : (k : ℕ) → k < 3 → channel_sum c k ≡ channel_sum (with_rgb c rgb) k
  unfolding channel_sum
  sums_alike k K = sum_same (down_of c) _ _ (λ j J. sum_same (across_of c) _ _ (λ i I. h k (c.rectangle.top + j) (c.rectangle.left + i) K (counted c j i J I)))

  tests_alike : too_short c ≡ too_short (with_rgb c rgb) → first (patch_tests c) ≡ first (patch_tests (with_rgb c rgb))
  unfolding patch_tests
  tests_alike e = ap (λ (b : Bool). first ((bad_sides c.w c.h, BadSize) ∷ (passes_end c.rectangle, BadRectangle) ∷ (b, ShortOutput) ∷ [])) e

  given_alike : (r s : PatchReply) → PatchGiven c r → PatchGiven (with_rgb c rgb) s → too_short c ≡ too_short (with_rgb c rgb) → r ≡ s
  unfolding has_mean
  given_alike r s g q e =
      let t = tests_alike e in
      let x = sums_alike 0 (omega arith) in
      let y = sums_alike 1 (omega arith) in
      let z = sums_alike 2 (omega arith) in
      let a : r.answer ≡ s.answer = g.answers ∙ t ∙ sym q.answers in
      let p : r.patch ≡ s.patch = g.mean ∙ rw (t, x, y, z) refl ∙ sym q.mean in
      let w : r.whole ≡ s.whole = g.wholes ∙ rw (t, x, y, z) refl ∙ sym q.wholes in
      let n : r.pixels ≡ s.pixels = g.count ∙ rw t refl ∙ sym q.count in
      λ i. record { answer = a i; patch = p i; whole = w i; pixels = n i }

-- ---- nothing

differ : (a b d : Float) → Mean a b d ≡ Nothing → ⊥
differ a b d e = let z : ◌≡◌ {A = ℕ} 0 1 = cc in omega arith

something : (c : PatchCall) (r : PatchReply) → PatchGiven c r → T (accepted r.answer) → r.patch ≡ Nothing → (y x : ℕ) → Shared c y x → ⊥
unfolding has_mean
something c r g a e y x s =
    let b = is_true (accepted (first (patch_tests c))) (subst (λ (z : Answer). T (accepted z)) g.answers a) in
    let m : accepted (first (patch_tests c)) && ltb 0 (count_of c) ≡ true = rw b (lt-ltb 0 (count_of c) (some_shared c y x s)) in
    let M = Mean (channel_mean c 0) (channel_mean c 1) (channel_mean c 2) in
    differ (channel_mean c 0) (channel_mean c 1) (channel_mean c 2) (ap (λ (t : Bool). pick_patch t M Nothing) (sym m) ∙ sym g.mean ∙ e)

nothing : (c : PatchCall) (r : PatchReply) → PatchGiven c r → T (accepted r.answer) → ((y x : ℕ) → Shared c y x → ⊥) → r.patch ≡ Nothing
unfolding has_mean
nothing c r g a h =
    let b = is_true (accepted (first (patch_tests c))) (subst (λ (z : Answer). T (accepted z)) g.answers a) in
    g.mean ∙ rw (b, none_shared c h) refl

-- ---- the claims

pub patch_claims : PatchClaims
patch_claims =
    record {
      counted = counted;
      all_counted = all_counted;
      exact = λ c k b a. (cast_value binary64 (channel_sum c k) (sum_small c k b a), cast_value binary64 (count_of c) (count_small c a));
      once = λ c k b a p. mean_once (channel_sum c k) (count_of c) (sum_small c k b a) (count_small c a) p;
      within = λ c k lo hi b a p h. let s = sum_between c k lo hi h in (mean_within (channel_sum c k) (count_of c) lo hi (sum_small c k b a) (count_small c a) s.0 s.1 p, whole_within (channel_sum c k) (count_of c) lo hi s.0 s.1 p);
      alike = λ c rgb r s g q e h. given_alike c rgb h r s g q e;
      nothing = nothing;
      something = something;
    }
