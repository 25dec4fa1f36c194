-- What `select` picks after a comparison of floats, lane by lane: the comparison gives all ones or none, and `select` looks at the top bit.
use Rattle.std.proofs.Common.{◌≡◌, refl, Bool, true, false, cond, List, [], ◌∷◌, map, Float}
use lib.Ieee.{lt}
use lib.Lanes.{zip2, sel_l, top}
use Rattle.fround.specs.Rounding.{fmin, fmax}

top_is : (t : Bool) → top 31 (cond t 4294967295 0) ≡ t
top_is true = refl
top_is false = refl

pub smaller : (a b : List Float) → sel_l (map (top 31) (zip2 (λ x y. cond (lt x y) 4294967295 0) a b)) a b ≡ zip2 fmin a b
smaller [] [] = refl
smaller [] (y ∷ b) = refl
smaller (x ∷ a) [] = refl
smaller (x ∷ a) (y ∷ b) = rw (top_is (lt x y), smaller a b) refl

pub larger : (a b : List Float) → sel_l (map (top 31) (zip2 (λ x y. cond (lt x y) 4294967295 0) b a)) a b ≡ zip2 fmax a b
larger [] [] = refl
larger [] (y ∷ b) = refl
larger (x ∷ a) [] = refl
larger (x ∷ a) (y ∷ b) = rw (top_is (lt y x), larger a b) refl
