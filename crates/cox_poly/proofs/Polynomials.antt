-- Lists of coefficients: what a coefficient of a part is, and when two lists are the same polynomial.
use Rattle.std.proofs.Common.{◌≡◌, ℕ, ◌-◌, ◌≤◌, List, length, take, replicate, sym, ◌∙◌, inl, inr, le_antisymm, arith}
use Rattle.std.proofs.Common.{ℤ, pos, ◌≤ℤ◌, FitsSigned, w64, ◌^◌}
use Rattle.std.proofs.lemmas.Bool.{cases_lt}
use Rattle.std.proofs.lemmas.Int.{ints}
use Rattle.std.proofs.lemmas.List.{get_or_past, get_or-take, ext_get_or, length-take}
use Rattle.std.proofs.lemmas.Grind.{common_steps}
use Rattle.cox_poly.specs.Polynomial.{coefficient, IsPolynomial, SameCoefficients, HasDegreeBelow, IsTrimmedLength, IsStorable}
use Rattle.cox_poly.specs.Limit.{AllWithin, IsFirstAbove}

-- past the end of the list
pub coefficient_past : (p : List ℤ) (k : ℕ) → length p ≤ k → coefficient p k ≡ pos 0
coefficient_past p k h = get_or_past p k (pos 0) h

-- a list of zeros is the zero polynomial
pub coefficient-zeros : (n k : ℕ) → coefficient (replicate n (pos 0)) k ≡ pos 0
coefficient-zeros n k = grind (arith, common_steps)

-- a prefix that leaves out no term is the same polynomial
pub coefficient-take : (p : List ℤ) (n : ℕ) → HasDegreeBelow p n → SameCoefficients (take n p) p
coefficient-take p n below k = elim (cases_lt k n) [
  | inl within ↦ grind (arith, common_steps)
  | inr past ↦ coefficient_past (take n p) k (omega (arith, length-take n p)) ∙ sym (below k past)
]

-- the same holds of a prefix of a prefix
pub coefficient-take_twice : (p : List ℤ) (used n : ℕ) → HasDegreeBelow p used → IsTrimmedLength (take used p) n
    → SameCoefficients (take n (take used p)) p
coefficient-take_twice p used n below trimmed k = coefficient-take (take used p) n trimmed.zeros k ∙ coefficient-take p used below k

-- the prefix without trailing zeros is a polynomial
pub IsPolynomial-take : (p : List ℤ) (n : ℕ) → IsTrimmedLength p n → IsPolynomial (take n p)
IsPolynomial-take p n trimmed some = grind (arith, common_steps, trimmed.within, trimmed.last)

-- a bound on each coefficient, and the first above a limit, are those of the polynomial
pub AllWithin-same : (limit : ℤ) (p r : List ℤ) → SameCoefficients p r → AllWithin limit p → AllWithin limit r
AllWithin-same limit p r same within k = rw (same k) at (within k)

-- a bound on each holds of a prefix, whose coefficients past it are 0
pub AllWithin-take : (limit : ℤ) (p : List ℤ) (n : ℕ) → AllWithin limit p → pos 0 ≤ℤ limit → AllWithin limit (take n p)
AllWithin-take limit p n within up k = elim (cases_lt k n) [
  | inl low ↦ rw (get_or-take n p k (pos 0) low) (within k)
  | inr past ↦ rw (coefficient_past (take n p) k (omega (arith, length-take n p))) up
]

-- a prefix of 64 bits without trailing zeros can be held
pub IsStorable-take : (limit : ℤ) (p : List ℤ) (n : ℕ) → AllWithin limit p → pos 0 ≤ℤ limit → FitsSigned w64 limit → IsTrimmedLength p n
    → length p ≤ 2 ^ 32 → IsStorable (take n p)
IsStorable-take limit p n within up fits trimmed short = record {
  trimmed = IsPolynomial-take p n trimmed;
  short = omega (arith, length-take n p);
  small = λ k. omega (arith, ints, AllWithin-take limit p n within up k);
}

pub IsFirstAbove-same : (limit : ℤ) (p r : List ℤ) (d : ℕ) (v : ℤ) → SameCoefficients p r → IsFirstAbove limit p d v
    → IsFirstAbove limit r d v
IsFirstAbove-same limit p r d v same first = record {
  value = first.value ∙ same d;
  above = first.above;
  least = λ k h. rw (same k) at (first.least k h);
}

-- a polynomial is known by its coefficients
pub same_polynomial : (p r : List ℤ) → IsPolynomial p → IsPolynomial r → SameCoefficients p r → p ≡ r
same_polynomial p r p_ends r_ends same = ext_get_or (pos 0) p r
    (le_antisymm (no_longer p r p_ends same) (no_longer r p r_ends (λ k. sym (same k)))) (λ i h. same i)
  where
    no_longer : (p r : List ℤ) → IsPolynomial p → SameCoefficients p r → length p ≤ length r
    no_longer p r ends same = elim (cases_lt (length r) (length p)) [
      | inl longer ↦ absurd (ends (omega arith) (same (length p - 1) ∙ coefficient_past r (length p - 1) (omega arith)))
      | inr within ↦ within
    ]
