-- Whole numbers in decimal, as they are read: digits and what they name.
use Rattle.std.specs.Prelude.{ℕ, ◌+◌, ◌-◌, ◌*◌, ◌==◌, Bool, true, false, not, ◌&&◌, List, [], ◌∷◌}
use Rattle.std.specs.List.{fold, list_all}
use Rattle.std.specs.Char.{is_ascii_digit}

-- the number that digits name behind those of v, and by themselves
abbrev pub value_behind : ℕ → List ℕ → ℕ
value_behind v digits = fold (λ value digit. 10 * value + (digit - 48)) v digits

abbrev pub value_of : List ℕ → ℕ
value_of digits = value_behind 0 digits

-- whether a text is that of a number above 0: digits, of which the first is not `0`
abbrev pub is_numeral : List ℕ → Bool
is_numeral [] = false
is_numeral (d ∷ ds) = not (d == 48) && list_all is_ascii_digit (d ∷ ds)

-- whether it is, or is empty, which stands for 0 here
abbrev pub is_short_numeral : List ℕ → Bool
is_short_numeral [] = true
is_short_numeral (d ∷ ds) = is_numeral (d ∷ ds)
