-- The pixels of a cell by its phases, and rows cell by cell.
-- `pixel_is` is the heart: pixel k of cell i has quotient i and rest k by the ratio.
use Rattle.std.proofs.Common.{◌≡◌, refl, ap, ◌∙◌, Bool, true, false, cond, List, [], ◌∷◌, ℕ, zero, suc, ◌+◌, ◌-◌, ◌*◌, ◌/◌, ◌%◌, ◌≤◌, ◌<◌, min, arith, get_or, Float}
use borrow.Author.Tests.{lt-leb}
use lib.Arith.{digits_div, digits_mod}
use lib.Ieee.{nan, div, of_int}
use Rattle.laws.specs.Floats.{f32}
use Rattle.laws.proofs.Rows.{next_row}
use Rattle.image.specs.declared.layout.Layout.{Layout}
use Rattle.image.specs.Inner.Tests.{Sound}
use Rattle.taps.specs.declared.phases.Phase.{Phase}
use Rattle.taps.specs.Taps.{lerp_of, phase_of, phase_at, phases_of}
use Rattle.guided.specs.Guided.{across_to}
use Rattle.image.proofs.Layouts.{begins}
use Rattle.guided_pixels.specs.Inner.Across.{phased}

-- ---- a cell that has both neighbours

-- by the cell that its phase begins at
pub phase_between : (g : ℕ → Float) (i n a : ℕ) (p : Phase) → a ≡ cond p.left (i - 1) i → 0 < i → i + 1 < n → lerp_of (g a) (g (a + 1)) p.f ≡ phased g n p i
unfolding phased
phase_between g i n a p e o h = go p.left e
  where
    go : (b : Bool) → a ≡ cond b (i - 1) i → lerp_of (g a) (g (a + 1)) p.f ≡ cond b (lerp_of (g (i - 1)) (g i) p.f) (lerp_of (g i) (g (min (i + 1) (n - 1))) p.f)
    go true e = let q : i - 1 + 1 ≡ i = omega arith in rw (e, q) refl
    go false e = let q : min (i + 1) (n - 1) ≡ i + 1 = omega arith in rw (e, q) refl

-- pixel k of cell i has that cell and the ratio's phase k
pixel_is : (l : Layout) (g : ℕ → Float) (i k : ℕ) → k < l.rh → phased g l.cw (phase_at l.rh k) i ≡ across_to l g (i * l.rh + k)
unfolding phased across_to phase_at
pixel_is l g i k h = rw (lt-leb l.rh k h, digits_div i h, digits_mod i h) refl

-- all of them, four at most
pub pixels_are : (l : Layout) (g : ℕ → Float) (i : ℕ) (ps : List Phase) (p : Phase) (a b c d : Float) → l.rh ≤ 4 → ps ≡ phases_of l.rh
    → a ≡ phased g l.cw (get_or ps 0 p) i → b ≡ phased g l.cw (get_or ps 1 p) i → c ≡ phased g l.cw (get_or ps 2 p) i → d ≡ phased g l.cw (get_or ps 3 p) i
    → (k : ℕ) → k < l.rh → get_or (a ∷ b ∷ c ∷ d ∷ []) k nan ≡ across_to l g (i * l.rh + k)
unfolding phases_of
pixels_are l g i ps p a b c d m e ea eb ec ed k h = go k h
  where
    at : (v : Float) (k : ℕ) → v ≡ phased g l.cw (get_or ps k p) i → v ≡ phased g l.cw (get_or (phases_of l.rh) k p) i
    at v k q = q ∙ ap (λ (xs : List Phase). phased g l.cw (get_or xs k p) i) e

    go : (k : ℕ) → k < l.rh → get_or (a ∷ b ∷ c ∷ d ∷ []) k nan ≡ across_to l g (i * l.rh + k)
    go zero h = at a 0 ea ∙ pixel_is l g i 0 h
    go (suc zero) h = at b 1 eb ∙ pixel_is l g i 1 h
    go (suc (suc zero)) h = at c 2 ec ∙ pixel_is l g i 2 h
    go (suc (suc (suc zero))) h = at d 3 ed ∙ pixel_is l g i 3 h
    go (suc (suc (suc (suc k)))) h = absurd (omega arith)

-- ratio 1: the one phase begins at the cell itself, fraction 0
pub one_is : (l : Layout) (g : ℕ → Float) (x : ℕ) → l.rh ≡ 1 → x + 1 < l.cw → lerp_of (g x) (g (x + 1)) (f32 0) ≡ across_to l g x
unfolding across_to phase_of div of_int
one_is l g x e h =
    let q : x / 1 ≡ x = omega arith in
    let r : x % 1 ≡ 0 = omega arith in
    let m : min (x + 1) (l.cw - 1) ≡ x + 1 = omega arith in
    rw (e, q, r, m) refl

-- the cells but the last have all their pixels inside the picture
pub cells_inside : (l : Layout) → Sound l → 2 ≤ l.cw → l.rh + (l.cw - 2) * l.rh ≤ l.w
cells_inside l o h =
    let n : ℕ = l.cw - 2 in
    let b : (n + 1) * l.rh < l.w = (begins l o 0 (n + 1) (omega arith) (omega arith)).across in
    let e : (n + 1) * l.rh ≡ n * l.rh + l.rh = next_row n l.rh in
    omega arith
