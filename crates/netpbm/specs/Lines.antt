-- What the program writes before the pixels, and what it writes on refusal. Definitions only.
use Rattle.std.specs.Prelude.{cond, List, [], ◌∷◌, ◌++◌, ℕ, zero, suc, ◌+◌, ◌/◌, ◌%◌, ltb}

-- the digits of a number below 10 to the k, with no zeros in front
unfoldable pub digits : ℕ → ℕ → List ℕ
digits zero n = []
digits (suc k) n = cond (ltb n 10) ((48 + n) ∷ []) (digits k (n / 10) ++ ((48 + n % 10) ∷ []))

-- the digits of a number below 10,000
unfoldable pub digits_of : ℕ → List ℕ
digits_of n = digits 4 n

-- "`P6`, newline, width, space, height, newline, `255`, newline"
unfoldable pub ppm_header : ℕ → ℕ → List ℕ
ppm_header w h = (80 ∷ 54 ∷ 10 ∷ []) ++ digits_of w ++ (32 ∷ []) ++ digits_of h ++ (10 ∷ 50 ∷ 53 ∷ 53 ∷ 10 ∷ [])

-- "only `refused `, the number and a newline"
unfoldable pub refusal_line : ℕ → List ℕ
refusal_line n = (114 ∷ 101 ∷ 102 ∷ 117 ∷ 115 ∷ 101 ∷ 100 ∷ 32 ∷ []) ++ digits_of n ++ (10 ∷ [])
