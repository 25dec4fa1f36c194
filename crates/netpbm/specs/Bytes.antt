-- What stands at a place of the input, whitespace with its comments or digits as Ascii defines them, the number that digits are, and the
-- sample that bytes are. Definitions only.
-- Past the end of a list `get_or` gives 0, which is neither whitespace nor a mark nor a digit.
use Rattle.std.specs.Prelude.{Bool, false, ◌||◌, not, cond, List, [], ◌∷◌, ℕ, zero, suc, ◌+◌, ◌-◌, ◌*◌, get_or, take, drop}
use Rattle.netpbm.specs.Ascii.{is_blank, is_mark, ends_comment, is_digit}

-- how many entries at the front of a list pass a test
unfoldable pub leading : (ℕ → Bool) → List ℕ → ℕ
leading p [] = 0
leading p (b ∷ bs) = cond (p b) (suc (leading p bs)) 0

-- whether the byte behind b lies in a comment, where b lies in one (c) or doesn't
abbrev pub in_comment : Bool → ℕ → Bool
in_comment c b = cond c (not (ends_comment b)) (is_mark b)

-- b is whitespace, begins a comment or lies in one (c): a comment "counts as whitespace"
abbrev pub is_space : Bool → ℕ → Bool
is_space c b = c || (is_blank b || is_mark b)

-- how many bytes at the front are whitespace, comments counted; c: the front lies in a comment
unfoldable pub spaces : Bool → List ℕ → ℕ
spaces c [] = 0
spaces c (b ∷ bs) = cond (is_space c b) (suc (spaces (in_comment c b) bs)) 0

-- the number n with the digits behind it; decimal_of 0 (49 ∷ 50 ∷ 56 ∷ []) is 128
unfoldable pub decimal_of : ℕ → List ℕ → ℕ
decimal_of n [] = n
decimal_of n (d ∷ ds) = decimal_of (n * 10 + (d - 48)) ds

-- ---- at a place of the input

-- a whitespace byte stands at `at`
unfoldable pub has_blank : List ℕ → ℕ → Bool
has_blank s at = is_blank (get_or s at 0)

-- whitespace or a comment begins at `at`
unfoldable pub has_space : List ℕ → ℕ → Bool
has_space s at = is_space false (get_or s at 0)

-- a digit stands at `at`
unfoldable pub has_digit : List ℕ → ℕ → Bool
has_digit s at = is_digit (get_or s at 0)

-- how many digits stand one after another from `at` on
unfoldable pub digits_at : List ℕ → ℕ → ℕ
digits_at s at = leading is_digit (drop at s)

-- where the whitespace that begins at `at` ends, comments counted
unfoldable pub past_spaces : List ℕ → ℕ → ℕ
past_spaces s at = at + spaces false (drop at s)

-- where the digits that begin at `at` end
unfoldable pub past_digits : List ℕ → ℕ → ℕ
past_digits s at = at + digits_at s at

-- the number that the digits from `at` on are, however many
unfoldable pub number_at : List ℕ → ℕ → ℕ
number_at s at = decimal_of 0 (take (digits_at s at) (drop at s))

-- the sample of b bytes that begins at `at`, "the high byte first"; two bytes 8 and 0 are 8 * 256 + 0, which is 2,048
unfoldable pub big_of : ℕ → List ℕ → ℕ → ℕ
big_of zero s at = 0
big_of (suc b) s at = big_of b s at * 256 + get_or s (at + b) 0
