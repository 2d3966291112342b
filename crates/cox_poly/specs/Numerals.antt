-- Whole numbers in decimal, of any size, as ASCII codes. (std's `decimal` is meant for numbers of at most 64 digits.)
use Rattle.std.specs.Prelude.{ℕ, zero, suc, ◌+◌, ◌/◌, ◌%◌, if◌then◌else◌, nat_lt, ℤ, pos, negsuc, List, [], ◌∷◌, ◌++◌}

-- the decimal digits of n, for an n below the first argument; 48 is the code of 0
abbrev pub digits_below : ℕ → ℕ → List ℕ
digits_below zero n = []
digits_below (suc bound) n = if nat_lt n 10 then (48 + n) ∷ [] else digits_below bound (n / 10) ++ (48 + n % 10) ∷ []

-- a natural number in decimal
unfoldable pub number_text : ℕ → List ℕ
number_text n = digits_below (suc n) n

-- a whole number in decimal, with `-` before a negative one
abbrev pub integer_text : ℤ → List ℕ
integer_text (pos n) = number_text n
integer_text (negsuc n) = 45 ∷ number_text (suc n)
