-- For code: the parts of the text of a term, as they are read.
use Rattle.std.proofs.Common.{◌≡◌, ◌≢◌, ℕ, zero, suc, ◌<◌, ◌≤◌, ◌==◌, Bool, true, false, not, List, [], ◌∷◌, ◌++◌, length, get_or}
use Rattle.std.proofs.Common.{take, drop, ℤ, pos, refl, sym, ap, ◌∙◌, arith}
use Rattle.std.specs.List.{position_or_len}
use Rattle.std.proofs.lemmas.Bool.{ne_eqb, true≢false}
use Rattle.std.proofs.lemmas.List.{take-append-drop}
use Rattle.cox_poly.specs.PolynomialText.{power_text}
use Rattle.cox_poly.specs.ListedText.{listed_term_text}
use Rattle.cox_poly.specs.Numerals.{number_text}
use Rattle.cox_polyread.specs.ReadNumerals.{value_of, is_numeral}
use Rattle.cox_polyread.specs.PolynomialReading.{is_sign, is_q, sign_text, begins_with_sign, IsSigned, IsNoSigned, size_text, unsigned_text}
use Rattle.cox_polyread.specs.PolynomialReading.{IsPower, IsNoPower, IsSize, IsNoSize, IsUnsigned, IsNoUnsigned, IsTerm, IsNoTerm}
use Rattle.cox_polyread.proofs.ReadNumerals.{value_of-number_text, is_numeral-number_text, number_text-value_of}
use Rattle.cox_polyread.proofs.ReadNumerals.{value_of-above, is_short_numeral-from}
use Rattle.cox_polyread.proofs.Splits.{AreNot, AreSame, split-one, before-not, behind-begins}
use Rattle.cox_polyread.proofs.TermTexts.{has_sign, listed_term_text-parts, size_text-long, power_text-long, size_text-no_q}
use Rattle.cox_polyread.proofs.TermTexts.{power_text-begins}
use Rattle.cox_polyread.proofs.TermTexts.{unsigned_text-no_sign}

-- a power above q
pub IsPower-long : (power digits : List ℕ) → digits ≡ drop 2 power → 2 ≤ length power → get_or power 0 0 ≡ 113 → get_or power 1 0 ≡ 94
    → is_numeral digits ≡ true → (value_of digits ≡ 1 → ⊥) → IsPower digits power
IsPower-long [] digits e long first second numeral other = absurd (omega arith)
IsPower-long (x ∷ []) digits e long first second numeral other = absurd (omega arith)
IsPower-long (x ∷ y ∷ ds) digits e long first second numeral other =
    let some = value_of-above digits numeral in
    let two : 2 ≤ value_of digits = omega (arith, other) in
    let text = number_text-value_of digits numeral in
    record { digits = is_short_numeral-from digits numeral; written = power_text-long (value_of digits) two ∙ cc }

pub IsNoPower-long : (power digits : List ℕ) → digits ≡ drop 2 power → 2 ≤ length power
    → (get_or power 0 0 ≡ 113 → get_or power 1 0 ≡ 94 → is_numeral digits ≡ true → (value_of digits ≡ 1 → ⊥) → ⊥) → IsNoPower power
IsNoPower-long power digits e long none zero same = absurd (omega (arith, ap (length {A = ℕ}) same))
IsNoPower-long power digits e long none (suc zero) same = absurd (omega (arith, ap (length {A = ℕ}) same))
IsNoPower-long power digits e long none (suc (suc k)) same =
    let text : power ≡ 113 ∷ 94 ∷ number_text (suc (suc k)) = sym same ∙ power_text-long (suc (suc k)) (omega arith) in
    let behind : digits ≡ number_text (suc (suc k)) = e ∙ ap (drop 2) text in
    let value : value_of digits ≡ suc (suc k) = ap value_of behind ∙ value_of-number_text (suc (suc k)) (omega arith) in
    none (ap (λ l. get_or l 0 0) text) (ap (λ l. get_or l 1 0) text)
    (ap is_numeral behind ∙ is_numeral-number_text (suc (suc k)) (omega arith))
    (λ one. omega (arith, value, one))

-- a size of digits
pub IsSize-digits : (has_power : Bool) (text : List ℕ) → is_numeral text ≡ true → (has_power ≡ true → value_of text ≡ 1 → ⊥)
    → IsSize has_power text text
IsSize-digits false text numeral other = record { digits = numeral; written = number_text-value_of text numeral }
IsSize-digits true text numeral other =
    let some = value_of-above text numeral in
    let two : 2 ≤ value_of text = omega (arith, other refl) in
    record { digits = numeral; written = size_text-long true (value_of text) two ∙ number_text-value_of text numeral }

pub IsNoSize-digits : (has_power : Bool) (text : List ℕ) → 0 < length text
    → (is_numeral text ≡ true → (has_power ≡ true → value_of text ≡ 1 → ⊥) → ⊥) → IsNoSize has_power text
IsNoSize-digits has_power text some none zero above same = absurd (omega arith)
IsNoSize-digits true text some none (suc zero) above same = absurd (omega (arith, ap (length {A = ℕ}) same))
IsNoSize-digits true text some none (suc (suc m)) above same =
    let written : number_text (suc (suc m)) ≡ text = sym (size_text-long true (suc (suc m)) (omega arith)) ∙ same in
    let value : value_of text ≡ suc (suc m) = sym (ap value_of written) ∙ value_of-number_text (suc (suc m)) (omega arith) in
    none (sym (ap is_numeral written) ∙ is_numeral-number_text (suc (suc m)) (omega arith)) (λ _ one. omega (arith, value, one))
IsNoSize-digits false text some none (suc m) above same =
    none (sym (ap is_numeral same) ∙ is_numeral-number_text (suc m) (omega arith)) (λ e. absurd (true≢false (sym e)))

pub IsNoSize-empty : (has_power : Bool) (text : List ℕ) → has_power ≡ false → length text ≤ 0 → IsNoSize has_power text
IsNoSize-empty true text alone none m above same = true≢false alone
IsNoSize-empty false text alone none zero above same = omega arith
IsNoSize-empty false text alone none (suc m) above same =
    nothing text none (sym (ap is_numeral same) ∙ is_numeral-number_text (suc m) (omega arith))
  where
    nothing : (text : List ℕ) → length text ≤ 0 → is_numeral text ≡ true → ⊥
    nothing [] none h = true≢false (sym h)
    nothing (x ∷ xs) none h = omega arith

-- a text without sign is divided before the letter
unsigned-parts : (text : List ℕ) (n k m : ℕ) → n ≡ position_or_len is_q text → 0 < m → unsigned_text k m ≡ text
    → AreSame (size_text (not (k == 0)) m) (take n text) (power_text k) (drop n text)
unsigned-parts text n k m place some same =
    rw place (split-one is_q (size_text (not (k == 0)) m) (take (position_or_len is_q text) text) (power_text k)
    (drop (position_or_len is_q text) text) (size_text-no_q (not (k == 0)) m some) (before-not is_q text) (power_text-begins k)
    (behind-begins is_q text) (same ∙ sym (take-append-drop (position_or_len is_q text) text)))

-- there is a power exactly where the degree is not 0
has_power : (k : ℕ) (power : List ℕ) → power_text k ≡ power → not (k == 0) ≡ not (length power == 0)
has_power zero power same = let none : length power ≡ 0 = sym (ap (length {A = ℕ}) same) in rw none refl
has_power (suc zero) power same = let one : length power ≡ 1 = sym (ap (length {A = ℕ}) same) in rw one refl
has_power (suc (suc k)) power same =
    let text : power ≡ 113 ∷ 94 ∷ number_text (suc (suc k)) = sym same ∙ power_text-long (suc (suc k)) (omega arith) in
    let long : length power ≡ suc (suc (length (number_text (suc (suc k))))) = ap (length {A = ℕ}) text in
    rw (ne_eqb (suc (suc k)) 0 (λ (e : suc (suc k) ≡ 0). omega arith), ne_eqb (length power) 0 (λ (e : length power ≡ 0). omega arith)) refl

pub IsNoUnsigned-power : (text : List ℕ) (n : ℕ) (power : List ℕ) → n ≡ position_or_len is_q text → power ≡ drop n text → IsNoPower power
    → IsNoUnsigned text
IsNoUnsigned-power text n power place back none k m some same =
    none k ((unsigned-parts text n k m place some same).back ∙ sym back)

pub IsNoUnsigned-size : (text : List ℕ) (n : ℕ) (size power : List ℕ) (has : Bool) → n ≡ position_or_len is_q text → size ≡ take n text
    → power ≡ drop n text → has ≡ not (length power == 0) → IsNoSize has size → IsNoUnsigned text
IsNoUnsigned-size text n size power has place front back has_is none k m some same =
    let parts = unsigned-parts text n k m place some same in
    let flag : not (k == 0) ≡ has = has_power k power (parts.back ∙ sym back) ∙ sym has_is in
    none m some (sym (ap (λ h. size_text h m) flag) ∙ parts.front ∙ sym front)

-- a term by its sign and what stands behind it
pub IsTerm-signed : (first negative : Bool) (text rest size degree : List ℕ) → IsSigned first negative rest text
    → IsUnsigned size degree rest → IsTerm first negative size degree text
IsTerm-signed first negative text rest size degree sign is = record {
  size_digits = is.size_digits;
  degree_digits = is.degree_digits;
  written = listed_term_text-parts first negative (value_of degree) (value_of size) (value_of-above size is.size_digits)
      ∙ ap (λ l. sign_text first negative ++ l) is.written ∙ sym sign.split;
}

-- what a term with this text has
record HasParts (first : Bool) (text : List ℕ) : Type 0 where
  negative : Bool
  degree : ℕ
  size : ℕ
  some : 0 < size
  split : text ≡ sign_text first negative ++ unsigned_text degree size

has_parts : (first : Bool) (text : List ℕ) (t : ℕ × ℤ) → t.1 ≢ pos 0 → listed_term_text first t ≡ text → HasParts first text
has_parts first text t some same =
    let c = has_sign t.1 some in
    record {
      negative = c.negative;
      degree = t.0;
      size = c.size;
      some = c.some;
      split = sym same ∙ ap (λ (v : ℤ). listed_term_text first (pair t.0 v)) c.is
          ∙ listed_term_text-parts first c.negative t.0 c.size c.some;
    }
  where
    pair : ℕ → ℤ → ℕ × ℤ
    pair k c = (k, c)

pub IsNoTerm-sign : (first : Bool) (text : List ℕ) → IsNoSigned first text → IsNoTerm first text
IsNoTerm-sign first text none t some same =
    let parts = has_parts first text t some same in none parts.negative (unsigned_text parts.degree parts.size) parts.split

pub IsNoTerm-unsigned : (first negative : Bool) (text rest : List ℕ) → IsSigned first negative rest text → IsNoUnsigned rest
    → IsNoTerm first text
IsNoTerm-unsigned first negative text rest sign none t some same =
    let parts = has_parts first text t some same in
    let u = unsigned_text parts.degree parts.size in
    none parts.degree parts.size parts.some
    (sign.only parts.negative u parts.split (first_byte u (unsigned_text-no_sign parts.degree parts.size parts.some)))
  where
    first_byte : (u : List ℕ) → AreNot is_sign u → begins_with_sign u ≡ false
    first_byte [] not = refl
    first_byte (x ∷ u) not = not.0
