-- Numerals of one and two digits.
use Rattle.std.proofs.Common.{◌≡◌, ◌≢◌, ℕ, ◌+◌, ◌*◌, ◌/◌, ◌%◌, ◌<◌, ◌≤◌, ◌⊎◌, ⊎_elim, [], ◌∷◌, ◌++◌, length, decimal}
use Rattle.std.proofs.Common.{Option, Some, None, MatchOption, sym, ◌∙◌, ap, arith}
use Rattle.std.proofs.lemmas.Bool.{cases_lt}
use Rattle.std.proofs.lemmas.Fmt.{decimal_digit, decimal_step}

-- a number of two digits
pub decimal-two : (n : ℕ) → 10 ≤ n → n < 100 → decimal n ≡ (48 + n / 10) ∷ (48 + n % 10) ∷ []
decimal-two n low high =
    decimal_step n low (omega arith) ∙ ap (λ front. front ++ (48 + n % 10) ∷ []) (decimal_digit (n / 10) (omega arith))

-- how many digits a small number has
pub length-decimal-small : (n : ℕ) → n < 100 → (1 ≤ length (decimal n)) × (length (decimal n) ≤ 2)
length-decimal-small n small =
    ⊎_elim (λ (one : n < 10). rw (decimal_digit n one) (omega arith, omega arith))
    (λ (two : 10 ≤ n). rw (decimal-two n two small) (omega arith, omega arith)) (cases_lt n 10)

-- one digit
pub no_digit : (byte n : ℕ) → (byte < 48 ⊎ 57 < byte) → n < 100 → decimal n ≢ byte ∷ []
no_digit byte n foreign small is =
    ⊎_elim
    (λ (one : n < 10). let same : 48 + n ≡ byte = cc (is, decimal_digit n one) in
    ⊎_elim (λ (low : byte < 48). absurd (omega arith)) (λ (high : 57 < byte). absurd (omega arith)) foreign)
    (λ (two : 10 ≤ n). absurd (cc (is, decimal-two n two small)))
    (cases_lt n 10)

-- two digits
pub two_numeral : (tens ones high low : ℕ) → 1 ≤ high → high < 10 → low < 10 → tens ≡ 48 + high → ones ≡ 48 + low
    → decimal (10 * high + low) ≡ tens ∷ ones ∷ []
two_numeral tens ones high low some h l is_tens is_ones =
    let n = 10 * high + low in
    let front : n / 10 ≡ high = omega arith in
    let last : n % 10 ≡ low = omega arith in
    decimal-two n (omega arith) (omega arith) ∙ rw (front, last, is_tens, is_ones)

pub no_two_digits : (tens ones n : ℕ) → (tens < 48 ⊎ 57 < tens) ⊎ (ones < 48 ⊎ 57 < ones) ⊎ (tens ≡ 48) → n < 100
    → decimal n ≢ tens ∷ ones ∷ []
no_two_digits tens ones n foreign small is =
    ⊎_elim
    (λ (one : n < 10). absurd (cc (is, decimal_digit n one)))
    (λ (two : 10 ≤ n).
    let high : 48 + n / 10 ≡ tens = cc (is, decimal-two n two small) in
    let low : 48 + n % 10 ≡ ones = cc (is, decimal-two n two small) in
    ⊎_elim (outside tens (n / 10) high (omega arith))
    (⊎_elim (outside ones (n % 10) low (omega arith)) (λ (zero : tens ≡ 48). absurd (omega arith))) foreign)
    (cases_lt n 10)
  where
    outside : (byte digit : ℕ) → 48 + digit ≡ byte → digit < 10 → (byte < 48 ⊎ 57 < byte) → ⊥
    outside byte digit e small h = ⊎_elim (λ (below : byte < 48). omega arith) (λ (above : 57 < byte). omega arith) h

-- what a digit says of the numeral that it is
pub one_numeral : (byte : ℕ) (digit : Option ℕ) → MatchOption digit (byte < 48 ⊎ 57 < byte) (λ value. (value < 10) × (byte ≡ 48 + value))
    → MatchOption digit ((n : ℕ) → n < 100 → decimal n ≢ byte ∷ []) (λ n. (n < 100) × (decimal n ≡ byte ∷ []))
one_numeral byte None foreign = λ n small. no_digit byte n foreign small
one_numeral byte (Some value) is = (omega (arith, is.0), decimal_digit value is.0 ∙ ap (λ b. b ∷ []) (sym is.1))
