-- Whole numbers in decimal: std's `decimal` writes the same, as far as it goes.
use Rattle.std.proofs.Common.{◌≡◌, ℕ, suc, ◌+◌, ◌/◌, ◌%◌, ◌^◌, ◌<◌, ◌≤◌, [], ◌∷◌, ◌++◌, refl, ap, arith}
use Rattle.std.proofs.Common.{ℤ, pos, negsuc, FitsSigned, w64}
use Rattle.std.specs.Prelude.{decimal}
use Rattle.std.specs.Fmt.{signed_decimal}
use Rattle.std.proofs.lemmas.Bool.{lt-ltb, le-ltb}
use Rattle.std.proofs.lemmas.Int.{ints}
use Rattle.std.proofs.lemmas.Fmt.{decimal_from_appends, length-decimal-le_succ}
use Rattle.cox_poly.specs.Numerals.{digits_below, number_text, integer_text}

pub number_text-decimal : (n : ℕ) → n < 2 ^ 64 → number_text n ≡ decimal n
unfolding number_text
number_text-decimal n small =
    decimal_from_appends digits_below (record { one = one; more = more }) (suc n) n small (omega (arith, length-decimal-le_succ n small))
  where
    one : (k n : ℕ) → n < 10 → digits_below (suc k) n ≡ (48 + n) ∷ []
    one k n low = rw (lt-ltb n 10 low) refl

    more : (k n : ℕ) → 10 ≤ n → digits_below (suc k) n ≡ digits_below k (n / 10) ++ (48 + n % 10) ∷ []
    more k n high = rw (le-ltb n 10 high) refl

pub integer_text-signed : (z : ℤ) → FitsSigned w64 z → integer_text z ≡ signed_decimal z
integer_text-signed (pos n) fits = number_text-decimal n (omega (arith, ints))
integer_text-signed (negsuc n) fits = ap (λ ds. 45 ∷ ds) (number_text-decimal (suc n) (omega (arith, ints)))
