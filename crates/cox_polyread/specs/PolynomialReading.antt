-- How the text of a polynomial is read.
use Rattle.std.specs.Prelude.{◌≡◌, ◌≢◌, ℕ, ◌+◌, ◌<◌, ◌==◌, Bool, true, false, not, ◌&&◌, ◌||◌}
use Rattle.std.specs.Prelude.{if◌then◌else◌, List, [], ◌∷◌, ◌++◌, codes, ℤ, pos, neg_ℤ, FitsSigned}
use Rattle.std.specs.Int.{w64}
use Rattle.cox_poly.specs.Polynomial.{coefficient, IsPolynomial, HasDegreeBelow}
use Rattle.cox_poly.specs.PolynomialText.{power_text, polynomial_text}
use Rattle.cox_poly.specs.ListedText.{listed_term_text}
use Rattle.cox_poly.specs.Numerals.{number_text}
use Rattle.cox_polyread.specs.ReadNumerals.{value_of, is_numeral, is_short_numeral}

-- the text is that of some polynomial, with coefficients and degrees of any size
abbrev pub IsPolynomialText : List ℕ → Type 0
IsPolynomialText text = (p : List ℤ) × (polynomial_text p ≡ text)

-- the text is that of the polynomial
pub record IsTextOf (p : List ℤ) (text : List ℕ) : Type 0 where
  pub normal : IsPolynomial p
  pub written : polynomial_text p ≡ text

-- no term has a degree above the greatest that is allowed, and each coefficient has 64 bits
pub record Fits (most : ℕ) (p : List ℤ) : Type 0 where
  pub degree : HasDegreeBelow p (most + 1)
  pub coefficients : (k : ℕ) → FitsSigned w64 (coefficient p k)

-- the text is that of a polynomial that does not fit
abbrev pub IsTextOfLarge : ℕ → List ℕ → Type 0
IsTextOfLarge most text = (p : List ℤ) × IsTextOf p text × ¬ Fits most p

-- 43 and 45 are the codes of `+` and `-`, and 113 that of `q`
abbrev pub is_sign : ℕ → Bool
is_sign byte = (byte == 43) || (byte == 45)

abbrev pub is_q : ℕ → Bool
is_q byte = byte == 113

-- a coefficient by its sign and its size
abbrev pub signed : Bool → ℕ → ℤ
signed negative size = if negative then neg_ℤ (pos size) else pos size

-- what stands before the size of a coefficient, of the first term or of one after it
abbrev pub sign_text : Bool → Bool → List ℕ
sign_text first negative = if negative then codes "-" else (if first then [] else codes "+")

-- the size of a coefficient, before a power or alone
abbrev pub size_text : Bool → ℕ → List ℕ
size_text has_power size = if has_power && (size == 1) then [] else number_text size

-- a term without its sign
abbrev pub unsigned_text : ℕ → ℕ → List ℕ
unsigned_text degree size = size_text (not (degree == 0)) size ++ power_text degree

-- whether a text begins with a sign
abbrev pub begins_with_sign : List ℕ → Bool
begins_with_sign [] = false
begins_with_sign (byte ∷ rest) = is_sign byte

-- the text of a term has this sign and this rest, which begins with no sign if any does
pub record IsSigned (first negative : Bool) (rest text : List ℕ) : Type 0 where
  pub split : text ≡ sign_text first negative ++ rest
  pub only : (other : Bool) (behind : List ℕ) → text ≡ sign_text first other ++ behind → begins_with_sign behind ≡ false → behind ≡ rest

-- it has no sign, and needs one
abbrev pub IsNoSigned : Bool → List ℕ → Type 0
IsNoSigned first text = (negative : Bool) (rest : List ℕ) → text ≢ sign_text first negative ++ rest

-- the text is that of the power of q whose degree has these digits, none for 0
pub record IsPower (degree text : List ℕ) : Type 0 where
  pub digits : is_short_numeral degree ≡ true
  pub written : power_text (value_of degree) ≡ text

-- it is that of the size with these digits
pub record IsSize (has_power : Bool) (size text : List ℕ) : Type 0 where
  pub digits : is_numeral size ≡ true
  pub written : size_text has_power (value_of size) ≡ text

-- it is that of the term with these digits
pub record IsUnsigned (size degree text : List ℕ) : Type 0 where
  pub size_digits : is_numeral size ≡ true
  pub degree_digits : is_short_numeral degree ≡ true
  pub written : unsigned_text (value_of degree) (value_of size) ≡ text

pub record IsTerm (first negative : Bool) (size degree text : List ℕ) : Type 0 where
  pub size_digits : is_numeral size ≡ true
  pub degree_digits : is_short_numeral degree ≡ true
  pub written : listed_term_text first (value_of degree, signed negative (value_of size)) ≡ text

-- it is that of no power, size or term
abbrev pub IsNoPower : List ℕ → Type 0
IsNoPower text = (degree : ℕ) → power_text degree ≢ text

abbrev pub IsNoSize : Bool → List ℕ → Type 0
IsNoSize has_power text = (size : ℕ) → 0 < size → size_text has_power size ≢ text

abbrev pub IsNoUnsigned : List ℕ → Type 0
IsNoUnsigned text = (degree size : ℕ) → 0 < size → unsigned_text degree size ≢ text

abbrev pub IsNoTerm : Bool → List ℕ → Type 0
IsNoTerm first text = (t : ℕ × ℤ) → t.1 ≢ pos 0 → listed_term_text first t ≢ text
