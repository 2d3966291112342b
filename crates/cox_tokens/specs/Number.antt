-- Numbers as they are written: decimal digits, as many as are allowed, leading zeros too.
use Rattle.std.specs.Prelude.{ℕ, ◌+◌, ◌-◌, ◌*◌, Bool, ◌&&◌, nat_le, List, length, fold}
use Rattle.std.specs.List.{list_all}
use Rattle.std.specs.Char.{is_ascii_digit}
use Rattle.cox_tokens.specs.declared.number.TheConstants.{MAX_DIGITS}

-- whether a token is a number
abbrev pub is_number : List ℕ → Bool
is_number token = nat_le 1 (length token) && nat_le (length token) MAX_DIGITS && list_all is_ascii_digit token

-- its value, digit by digit (48 is the code of 0)
abbrev pub value_of : List ℕ → ℕ
value_of token = fold (λ value byte. 10 * value + (byte - 48)) 0 token

-- whether a token is a number of a range
abbrev pub is_number_in : ℕ → ℕ → List ℕ → Bool
is_number_in least most token = is_number token && nat_le least (value_of token) && nat_le (value_of token) most
