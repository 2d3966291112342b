-- The text of a small polynomial: its bytes, and how long it is at most.
use Rattle.std.proofs.Common.{◌≡◌, ℕ, suc, ◌+◌, ◌-◌, ◌*◌, ◌^◌, ◌<◌, ◌≤◌, ◌==◌, true, false, List, [], ◌∷◌, ◌++◌, length, flat_map}
use Rattle.std.proofs.Common.{ℤ, pos, negsuc, unsigned_abs, refl, arith, inl, inr, ⊎_elim, append_assoc, length-append}
use Rattle.std.specs.Prelude.{int_lt}
use Rattle.std.specs.Ordering.{int_eq}
use Rattle.std.proofs.lemmas.Bool.{cases_Bool, cases_lt}
use Rattle.std.proofs.lemmas.Int.{ints}
use Rattle.cox_poly.specs.Polynomial.{coefficient, IsPolynomial}
use Rattle.cox_poly.specs.Numerals.{number_text, integer_text}
use Rattle.cox_poly.specs.PolynomialText.{power_text, factor_text, plus_text, term_text, next_term_text, terms_text, polynomial_text}
use Rattle.cox_poly.proofs.Numerals.{number_text-decimal}
use Rattle.cox_poly.proofs.Terms.{terms_from}
use Rattle.cox_certtext.specs.declared.limits.TheConstants.{MAX_DEGREE}
use Rattle.cox_rowcheck.specs.CheckablePolynomials.{IsCheckable}
use Rattle.cox_cert.proofs.PlainTexts.{IsPlainText, plain-append, plain-more, plain-cond, decimal-plain, AreNot-behind}
use Rattle.cox_tokens.specs.Line.{is_foreign}

-- coefficients of few digits
abbrev IsShort : ℤ → Type 0
IsShort c = unsigned_abs c < 10 ^ 10

number-plain : (n : ℕ) → n < 10 ^ 10 → IsPlainText 10 (number_text n)
number-plain n small = rw (number_text-decimal n (omega arith)) (decimal-plain 10 n (omega arith) small (omega arith))

one-plain : (byte : ℕ) → is_foreign byte ≡ false → IsPlainText 1 (byte ∷ [])
one-plain byte plain = record { size = omega arith; plain = (plain, tt) }

none-plain : (most : ℕ) → IsPlainText most []
none-plain most = record { size = omega arith; plain = tt }

integer-plain : (c : ℤ) → IsShort c → IsPlainText 11 (integer_text c)
integer-plain (pos n) small = plain-more 10 11 (number_text n) (omega arith) (number-plain n small)
integer-plain (negsuc n) small = plain-append 1 10 (45 ∷ []) (number_text (suc n)) (one-plain 45 refl) (number-plain (suc n) small)

-- the parts of a term
power-plain : (k : ℕ) → k < 10 ^ 10 → IsPlainText 12 (power_text k)
power-plain k small =
    plain-cond 12 (k == 0) [] _ (none-plain 12)
    (plain-cond 12 (k == 1) (113 ∷ []) (113 ∷ 94 ∷ number_text k) (plain-more 1 12 (113 ∷ []) (omega arith) (one-plain 113 refl))
    (plain-append 2 10 (113 ∷ 94 ∷ []) (number_text k) (record { size = omega arith; plain = (refl, (refl, tt)) }) (number-plain k small)))

factor-plain : (k : ℕ) (c : ℤ) → IsShort c → IsPlainText 11 (factor_text k c)
factor-plain k c small =
    plain-cond 11 (k == 0) (integer_text c) _ (integer-plain c small)
    (plain-cond 11 (int_eq c (pos 1)) [] _ (none-plain 11)
    (plain-cond 11 (int_eq c (negsuc 0)) (45 ∷ []) (integer_text c) (plain-more 1 11 (45 ∷ []) (omega arith) (one-plain 45 refl))
    (integer-plain c small)))

plus-plain : (c : ℤ) → IsPlainText 1 (plus_text c)
plus-plain c = plain-cond 1 (int_lt (pos 0) c) (43 ∷ []) [] (one-plain 43 refl) (none-plain 1)

term-plain : (k : ℕ) (c : ℤ) → k < 10 ^ 10 → IsShort c → IsPlainText 24 (next_term_text (k, c))
term-plain k c low small =
    plain-append 1 23 (plus_text c) (term_text (k, c)) (plus-plain c)
    (plain-append 11 12 (factor_text k c) (power_text k) (factor-plain k c small) (power-plain k low))

-- the terms behind the first, and all
terms-plain : (k : ℕ) (p : List ℤ) → k + length p < 10 ^ 10 → ((i : ℕ) → IsShort (coefficient p i))
    → IsPlainText (24 * length p) (flat_map next_term_text (terms_from k p))
terms-plain k [] low small = none-plain 0
terms-plain k (c ∷ p) low small =
    let rest = terms-plain (k + 1) p (omega arith) (λ i. small (suc i)) in
    ⊎_elim
    (λ (none : int_eq c (pos 0) ≡ true).
    rw none (plain-more (24 * length p) (24 * suc (length p)) (flat_map next_term_text (terms_from (k + 1) p)) (omega arith) rest))
    (λ (some : int_eq c (pos 0) ≡ false).
    rw some (plain-more (24 + 24 * length p) (24 * suc (length p)) (next_term_text (k, c) ++ flat_map next_term_text (terms_from (k + 1) p))
    (omega arith)
    (plain-append 24 (24 * length p) (next_term_text (k, c)) (flat_map next_term_text (terms_from (k + 1) p))
    (term-plain k c (omega arith) (small 0)) rest)))
    (cases_Bool (int_eq c (pos 0)))

terms_text-plain : (most : ℕ) (ts : List (ℕ × ℤ)) → IsPlainText most (flat_map next_term_text ts) → IsPlainText (most + 1) (terms_text ts)
terms_text-plain most [] is = plain-more 1 (most + 1) (48 ∷ []) (omega arith) (one-plain 48 refl)
terms_text-plain most (t ∷ ts) is =
    let behind = flat_map next_term_text ts in
    let whole = rw (append_assoc (plus_text t.1) (term_text t) behind) at is in
    record {
      size = omega (arith, whole.size, length-append (plus_text t.1) (term_text t ++ behind));
      plain = AreNot-behind is_foreign (plus_text t.1) (term_text t ++ behind) whole.plain;
    }

-- it has few terms
small-length : (p : List ℤ) → IsPolynomial p → IsCheckable p → length p ≤ MAX_DEGREE + 1
small-length p normal small = elim (cases_lt (MAX_DEGREE + 1) (length p)) [
  | inl long ↦ absurd (normal (omega arith) (small.degree (length p - 1) (omega arith)))
  | inr short ↦ short
]

pub polynomial_text-plain : (p : List ℤ) → IsPolynomial p → IsCheckable p → IsPlainText 961 (polynomial_text p)
polynomial_text-plain p normal small =
    let short = small-length p normal small in
    terms_text-plain 960 (terms_from 0 p)
    (plain-more (24 * length p) 960 (flat_map next_term_text (terms_from 0 p)) (omega arith)
    (terms-plain 0 p (omega arith) (λ i. let within = small.coefficients i in omega (arith, ints))))
