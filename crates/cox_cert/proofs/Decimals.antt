-- Numbers above 0, as they are read.
use Rattle.std.proofs.Common.{◌≡◌, ◌≢◌, ℕ, ◌^◌, ◌<◌, ◌≤◌, Bool, true, false, cond, Option, Some, None, MatchOption, IfSome, List, length}
use Rattle.std.proofs.Common.{decimal, get_or, refl, sym, subst, ◌∙◌, arith}
use Rattle.std.specs.List.{list_all}
use Rattle.std.specs.Char.{is_ascii_digit}
use Rattle.std.proofs.lemmas.Bool.{and_parts, and_from, le-leb, both_ways}
use Rattle.std.proofs.lemmas.Fmt.{length-decimal-le, first_decimal, decimal_nonempty}
use Rattle.cox_tokens.specs.Number.{is_number, value_of}
use Rattle.cox_tokens.specs.declared.number.TheConstants.{MAX_DIGITS}
use Rattle.cox_poly.proofs.Numerals.{number_text-decimal}
use Rattle.cox_polyread.proofs.ReadNumerals.{number_text-value_of, value_of-above, is_numeral-number_text, is_numeral-digits}
use Rattle.cox_polyread.proofs.ReadNumerals.{is_numeral-all}
use Rattle.cox_poly.specs.Numerals.{number_text}

-- a numeral of a number above 0 is not empty, and no zero leads it
pub decimal-led : (n : ℕ) (text : List ℕ) → 1 ≤ n → n < 10 ^ MAX_DIGITS → decimal n ≡ text → (0 < length text) × (48 < get_or text 0 0)
decimal-led n text some small is = (
  subst (λ t. 0 < length t) is (decimal_nonempty n (omega arith)),
  subst (λ t. 48 < get_or t 0 0) is (first_decimal n some (omega arith)),
)

-- it is a number
decimal-number : (n : ℕ) (text : List ℕ) → 1 ≤ n → n < 10 ^ MAX_DIGITS → decimal n ≡ text → is_number text ≡ true
decimal-number n text some small is =
    let written = number_text-decimal n (omega arith) ∙ is in
    let digits : list_all is_ascii_digit text ≡ true =
    subst (λ t. list_all is_ascii_digit t ≡ true) written (is_numeral-digits (number_text n) (is_numeral-number_text n some)) in
    let short : length text ≤ MAX_DIGITS =
    subst (λ t. length t ≤ MAX_DIGITS) is (length-decimal-le MAX_DIGITS n (omega arith) small (omega arith)) in
    let led = decimal-led n text some small is in
    and_from _ _ (and_from _ _ (le-leb 1 (length text) (omega (arith, led.0))) (le-leb (length text) MAX_DIGITS short)) digits

-- a number that no zero leads is written so
number-decimal : (text : List ℕ) → 0 < length text → (get_or text 0 0 ≡ 48 → ⊥) → is_number text ≡ true → value_of text < 10 ^ MAX_DIGITS
    → (1 ≤ value_of text) × (value_of text < 10 ^ MAX_DIGITS) × (decimal (value_of text) ≡ text)
number-decimal text some led number small =
    let numeral = is_numeral-all text some led (and_parts _ _ number).1 in
    let above = value_of-above text numeral in
    (omega (arith, above), small, sym (number_text-decimal (value_of text) (omega arith)) ∙ number_text-value_of text numeral)

-- for code: what reading a number above 0 answers
abbrev ReadsDecimal : Option ℕ → List ℕ → Type 0
ReadsDecimal read text =
    MatchOption read
    ((n : ℕ) → 1 ≤ n → n < 10 ^ MAX_DIGITS → decimal n ≢ text)
    (λ n. (1 ≤ n) × (n < 10 ^ MAX_DIGITS) × (decimal n ≡ text))

pub decimal-read : (text : List ℕ) (read : Option ℕ) → 0 < length text → (get_or text 0 0 ≡ 48 → ⊥)
    → read ≡ cond (is_number text) (Some (value_of text)) None → IfSome read (λ n. n < 10 ^ MAX_DIGITS)
    → ReadsDecimal read text
decimal-read text read some led is small = tested (is_number text) refl read is small
  where
    tested : (b : Bool) → is_number text ≡ b → (read : Option ℕ) → read ≡ cond b (Some (value_of text)) None
        → IfSome read (λ n. n < 10 ^ MAX_DIGITS) → ReadsDecimal read text
    tested true number None is small = absurd (cc)
    tested true number (Some v) is small =
        let value : v ≡ value_of text = cc in
        rw value (number-decimal text some led number (rw value at small))
    tested false number None is small = λ n above low same. both_ways (is_number text) number (decimal-number n text above low same)
    tested false number (Some v) is small = absurd (cc)
