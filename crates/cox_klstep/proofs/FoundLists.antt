-- Lists of found polynomials: one more is put behind the others, and those of two threads are put together.
use Rattle.std.proofs.Common.{◌≡◌, ℕ, List, ℤ, Bool, true, false, [], ◌∷◌, ◌++◌, if◌then◌else◌, ◌∙◌}
use Rattle.std.proofs.lemmas.List.Elements.{All-nil, All-cons, All-append}
use Rattle.cox_base.specs.IntegerMatrix.{integer_matrix}
use Rattle.cox_base.specs.Bruhat.{IsBelow}
use Rattle.cox_poly.specs.Polynomial.{coefficient, SameCoefficients}
use Rattle.cox_hecke.specs.Row.{IsKazhdanLusztig}
use Rattle.cox_context.specs.Closed.{Elements}
use Rattle.cox_context.specs.Numbers.{word_at}
use Rattle.cox_klstep.specs.declared.parallel.FoundPolynomial.{FoundPolynomial}
use Rattle.cox_klstep.specs.FoundTogether.{IsFoundFor, AreFound}

-- the polynomial with the sums of P(x,w)
pub found-by_sums : (e : Elements) (i x : ℕ) (polynomial sums : List ℤ) → SameCoefficients polynomial sums
    → IsBelow (integer_matrix e.matrix) (word_at e.members x) (word_at e.members i)
    → IsKazhdanLusztig (integer_matrix e.matrix) (word_at e.members x) (word_at e.members i) (coefficient sums)
    → IsFoundFor e i x polynomial
found-by_sums e i x polynomial sums same below is = record {
  below = below;
  value = record { row = is.row; is = is.is; at = λ k. same k ∙ is.at k };
}

-- it is put behind the others, if there is memory
pub found-more : (e : Elements) (i : ℕ) (old new : List FoundPolynomial) (one : FoundPolynomial) (pushed : Bool)
    → new ≡ (if pushed then old ++ one ∷ [] else old) → AreFound e i old → IsFoundFor e i one.member one.polynomial
    → AreFound e i new
found-more e i old new one true is each found =
    rw is (All-append (λ (f : FoundPolynomial). IsFoundFor e i f.member f.polynomial) old (one ∷ []) each
    (All-cons (λ (f : FoundPolynomial). IsFoundFor e i f.member f.polynomial) one [] found
    (All-nil (λ (f : FoundPolynomial). IsFoundFor e i f.member f.polynomial))))
found-more e i old new one false is each found = rw is each

-- those of two threads
pub found-both : (e : Elements) (i : ℕ) (front back both : List FoundPolynomial) → both ≡ front ++ back → AreFound e i front
    → AreFound e i back → AreFound e i both
found-both e i front back both is first second =
    rw is (All-append (λ (f : FoundPolynomial). IsFoundFor e i f.member f.polynomial) front back first second)
