-- The fixed kernel's tables are document 01's formulas: one computed test for a whole table, which `entry_is` carries to each entry.
-- The test compares the code's table with the rule's own list (`listed`), so that the numbers are written once, in the code. Raised by its
-- bias an entry is a natural number (`Lifts`), which is what the kernel adds.
use Rattle.std.proofs.Common.{◌≡◌, refl, ap, sym, ◌∙◌, Bool, false, true, ◌&&◌, List, [], ◌∷◌, ℕ, zero, suc, ◌+◌, ◌-◌, ◌*◌, ◌<◌, add-zero, zero-add, add-suc, suc-add, le_of_suc-le-suc, not-suc-le-zero, arith, T, eqb, eqb→eq, lit<, length, get_or}
use lib.IntN.{ℤ, pos, negsuc, nat_abs, ◌+ℤ◌}
use lib.Signed.{non_neg}
use lib.Ieee.Fits.{and_l, and_r}
use mir.Val.{to_z, of_z, SFits}
use mir.Facts.{to_z-of_z}
use mir.Syntax.{w32}
use Rattle.laws.specs.Differences.{floor_div}
use Rattle.laws.specs.Inner.Differences.{Diff}
use Rattle.laws.proofs.Differences.{of_pos, move, plus}
use Rattle.kernels.specs.Kernels.{fixed_red, fixed_blue, fixed_green_cb, fixed_green_cr}
use Rattle.kernels.specs.Inner.Forms.{fixed_offset, raised_fixed}
use Rattle.kernels.proofs.FixedPoint.{offset_diff, green_cb_diff, green_cr_diff}

-- ---- a table's rule

abbrev same : ℤ → ℤ → Bool
same (pos m) (pos n) = eqb m n
same (pos m) (negsuc n) = false
same (negsuc m) (pos n) = false
same (negsuc m) (negsuc n) = eqb m n

same_is : (x y : ℤ) → T (same x y) → x ≡ y
same_is (pos m) (pos n) t = ap pos (eqb→eq m n t)
same_is (pos m) (negsuc n) t = absurd t
same_is (negsuc m) (pos n) t = absurd t
same_is (negsuc m) (negsuc n) t = ap negsuc (eqb→eq m n t)

-- every entry, from place i on, is the rule's, as a number of 32 bits with its sign
abbrev ruled : (ℕ → ℤ) → ℕ → List ℤ → Bool
ruled f i [] = true
ruled f i (x ∷ xs) = same (to_z w32 (of_z w32 x)) (f i) && ruled f (suc i) xs

from : (f : ℕ → ℤ) (xs : List ℤ) (d : ℤ) (i : ℕ) → T (ruled f i xs) → (k : ℕ) → k < length xs → to_z w32 (of_z w32 (get_or xs k d)) ≡ f (i + k)
from f [] d i t k h = absurd (not-suc-le-zero h)
from f (x ∷ xs) d i t zero h = same_is _ _ (and_l (same (to_z w32 (of_z w32 x)) (f i)) (ruled f (suc i) xs) t) ∙ ap f (sym (add-zero i))
from f (x ∷ xs) d i t (suc k) h =
    from f xs d (suc i) (and_r (same (to_z w32 (of_z w32 x)) (f i)) (ruled f (suc i) xs) t) k (le_of_suc-le-suc h) ∙ ap f (suc-add i k ∙ sym (add-suc i k))

entry_is : (f : ℕ → ℤ) (xs : List ℤ) (d : ℤ) → T (ruled f 0 xs) → (k : ℕ) → k < length xs → to_z w32 (of_z w32 (get_or xs k d)) ≡ f k
entry_is f xs d t k h = from f xs d 0 t k h ∙ ap f (zero-add k)

-- the rule's own table: f i, f (i + 1), ..
abbrev pub listed : (ℕ → ℤ) → ℕ → ℕ → List ℤ
listed f zero i = []
listed f (suc n) i = f i ∷ listed f n (suc i)

-- entry c of the rule's table of 256
abbrev pub entry_of : (ℕ → ℤ) → ℕ → ℤ
entry_of f c = get_or (listed f 256 0) c (pos 0)

at_listed : (f : ℕ → ℤ) (n i k : ℕ) → k < n → get_or (listed f n i) k (pos 0) ≡ f (i + k)
at_listed f zero i k h = absurd (not-suc-le-zero h)
at_listed f (suc n) i zero h = ap f (sym (add-zero i))
at_listed f (suc n) i (suc k) h = at_listed f n (suc i) k (le_of_suc-le-suc h) ∙ ap f (suc-add i k ∙ sym (add-suc i k))

-- a table that is lent whole: it is the rule's own table, which is compared by computation where the table is made
pub entry_listed : (f : ℕ → ℤ) (c : ℕ) → c < 256 → entry_of f c ≡ f c
entry_listed f c h = at_listed f 256 0 c h ∙ ap f (zero-add c)

-- the four tables, as an entry is read
pub red_rule : (c : ℕ) → c < 256 → to_z w32 (of_z w32 (entry_of fixed_red c)) ≡ fixed_red c
unfolding fixed_red floor_div
red_rule c h = entry_is fixed_red (listed fixed_red 256 0) (pos 0) tt c h

pub blue_rule : (c : ℕ) → c < 256 → to_z w32 (of_z w32 (entry_of fixed_blue c)) ≡ fixed_blue c
unfolding fixed_blue floor_div
blue_rule c h = entry_is fixed_blue (listed fixed_blue 256 0) (pos 0) tt c h

pub green_cb_rule : (c : ℕ) → c < 256 → to_z w32 (of_z w32 (entry_of fixed_green_cb c)) ≡ fixed_green_cb c
unfolding fixed_green_cb
green_cb_rule c h = entry_is fixed_green_cb (listed fixed_green_cb 256 0) (pos 0) tt c h

pub green_cr_rule : (c : ℕ) → c < 256 → to_z w32 (of_z w32 (entry_of fixed_green_cr c)) ≡ fixed_green_cr c
unfolding fixed_green_cr
green_cr_rule c h = entry_is fixed_green_cr (listed fixed_green_cr 256 0) (pos 0) tt c h

-- ---- an entry raised by k

-- an entry x, raised by k in 32 bits, is the natural number a: what the sum, the cast and the caller ask
pub record Lifts (x : ℤ) (k a : ℕ) : Type 0 where
  pub fits : SFits w32 (to_z w32 (of_z w32 x) +ℤ pos k)
  pub over : T (non_neg (to_z w32 (of_z w32 (to_z w32 (of_z w32 x) +ℤ pos k))))
  pub is : nat_abs (to_z w32 (of_z w32 (to_z w32 (of_z w32 x) +ℤ pos k))) ≡ a
  pub small : a < 1000000000

fits_diff : {z : ℤ} {a k : ℕ} → Diff z a k → a < 1000000000 → k < 1000000000 → SFits w32 z
fits_diff {z = pos n} h p q = record { sfits = omega arith }
fits_diff {z = negsuc n} h p q = record { sfits = omega arith }

abs_diff : {z : ℤ} {a : ℕ} → Diff z a 0 → nat_abs z ≡ a
abs_diff {z = pos n} h = omega arith
abs_diff {z = negsuc n} h = omega arith

non_neg_is : {z : ℤ} {a : ℕ} → Diff z a 0 → T (non_neg z)
non_neg_is {z = pos n} h = tt
non_neg_is {z = negsuc n} h = let f : ⊥ = omega arith in absurd f

lifts : {x z : ℤ} → x ≡ z → (k a : ℕ) → Diff z a k → a < 1000000000 → k < 1000000000 → Lifts x k a
lifts {x} {z} e k a d l h = record { fits = fits; over = non_neg_is back; is = abs_diff back; small = l }
  where
    held : to_z w32 (of_z w32 x) ≡ z
    held = rw e (to_z-of_z (fits_diff d l h))

    sum : Diff (z +ℤ pos k) a 0
    sum = move a 0 (plus d (of_pos k)) (omega arith)

    fits : SFits w32 (to_z w32 (of_z w32 x) +ℤ pos k)
    fits = rw held (fits_diff sum l (lit< tt))

    back : Diff (to_z w32 (of_z w32 (to_z w32 (of_z w32 x) +ℤ pos k))) a 0
    back = rw (to_z-of_z fits, held) sum

pub red_diff : (c : ℕ) → Diff (fixed_red c) (raised_fixed 91881 180 c) 180
unfolding fixed_red fixed_offset
red_diff c = offset_diff 91881 180 c (lit< tt)

pub blue_diff : (c : ℕ) → Diff (fixed_blue c) (raised_fixed 116130 227 c) 227
unfolding fixed_blue fixed_offset
blue_diff c = offset_diff 116130 227 c (lit< tt)

pub green_cb_part : (c : ℕ) → c < 256 → Diff (fixed_green_cb c) (5770496 - 22554 * c) 2883584
green_cb_part c h = green_cb_diff 5770496 2883584 c (5770496 - 22554 * c) (omega arith) (omega arith) refl

pub green_cr_part : (c : ℕ) → c < 256 → Diff (fixed_green_cr c) (11987200 - 46802 * c) 5963776
green_cr_part c h = green_cr_diff 11987200 5963776 c (11987200 - 46802 * c) (omega arith) (omega arith) refl

pub red_lifts : {x : ℤ} (c : ℕ) → c < 256 → x ≡ fixed_red c → Lifts x 180 (raised_fixed 91881 180 c)
red_lifts c h e = lifts e 180 (raised_fixed 91881 180 c) (red_diff c) (omega arith) (lit< tt)

pub blue_lifts : {x : ℤ} (c : ℕ) → c < 256 → x ≡ fixed_blue c → Lifts x 227 (raised_fixed 116130 227 c)
blue_lifts c h e = lifts e 227 (raised_fixed 116130 227 c) (blue_diff c) (omega arith) (lit< tt)

pub green_cb_lifts : {x : ℤ} (c : ℕ) → c < 256 → x ≡ fixed_green_cb c → Lifts x 2883584 (5770496 - 22554 * c)
green_cb_lifts c h e = lifts e 2883584 (5770496 - 22554 * c) (green_cb_part c h) (omega arith) (lit< tt)

pub green_cr_lifts : {x : ℤ} (c : ℕ) → c < 256 → x ≡ fixed_green_cr c → Lifts x 5963776 (11987200 - 46802 * c)
green_cr_lifts c h e = lifts e 5963776 (11987200 - 46802 * c) (green_cr_part c h) (omega arith) (lit< tt)
