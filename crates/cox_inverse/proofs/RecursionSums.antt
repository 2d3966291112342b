-- The sums of the recursion: what is taken off for the members behind x, one after the other, and what is left is Q(x,w).
use Rattle.std.proofs.Common.{◌≡◌, ℕ, zero, suc, ◌-◌, ◌*◌, ◌<◌, ◌≤◌, List, length, ℤ, pos, neg_ℤ, refl, ap, sym, ◌∙◌}
use Rattle.std.proofs.Common.{⊎_elim, arith}
use Rattle.std.specs.Prelude.{unsigned_abs}
use Rattle.std.proofs.lemmas.Int.{ints, by_lt_z}
use Rattle.std.proofs.lemmas.Bool.{cases_lt}
use Rattle.cox_base.specs.IntegerMatrix.{IntegerMatrix, integer_matrix}
use Rattle.cox_base.specs.Admissible.{IsAdmissible}
use Rattle.cox_base.specs.Element.{SameElement}
use Rattle.cox_base.specs.Length.{word_length}
use Rattle.cox_base.specs.Bruhat.{IsBelow}
use Rattle.cox_reflect.proofs.Elements.{same-refl}
use Rattle.cox_reflect.proofs.Bruhat.{below-equal_length, below-length}
use Rattle.cox_poly.specs.Coefficients.{Coefficients, one_polynomial}
use Rattle.cox_poly.specs.Products.{product}
use Rattle.cox_poly.specs.Multiples.{minus}
use Rattle.cox_poly.specs.Polynomial.{coefficient, HasDegreeBelow}
use Rattle.cox_poly.specs.Limit.{AllWithin}
use Rattle.cox_rpoly.specs.Sign.{times_sign}
use Rattle.cox_hecke.specs.Sums.{sum_over}
use Rattle.cox_hecke.specs.Row.{IsKazhdanLusztig}
use Rattle.cox_hecke.proofs.AllRows.{row_of, row_of-is, kazhdan_lusztig-value}
use Rattle.cox_hecke.proofs.PolynomialValues.{kl_polynomial-value, kl_polynomial-low}
use Rattle.cox_hecke.proofs.ElementLists.{below_or_not}
use Rattle.cox_context.specs.Closed.{Elements, IsClosed}
use Rattle.cox_context.specs.Numbers.{word_at}
use Rattle.cox_context.proofs.Shifting.{later-not_below}
use Rattle.cox_row_builder.specs.LargeMembers.{IsWithinLimit}
use Rattle.cox_inverse.specs.InverseRow.{IsInverse}
use Rattle.cox_inverse.specs.NumberedInverses.{number_before, AreBetween}
use Rattle.cox_inverse.proofs.InverseSums.{term, term-apart}
use Rattle.cox_inverse.proofs.InverseRowExists.{inverse_of, inverse_of-is, inverse_row-recursion}
use Rattle.cox_inverse.proofs.InversePolynomials.{inverse-value, inverse-same, inverse-own, inverse-outside}
use Rattle.cox_inverse.proofs.InverseDegree.{inverse-degree}
use Rattle.cox_inverse.proofs.LastMembers.{last_words, number-same, before-member, before-rises, before-below, named-once}

-- ---- degrees and sizes

module _ (A : IntegerMatrix) (g : IsAdmissible A) (x w : List ℕ) where
  -- no coefficient from half the length of w on
  inverse-low : (f : Coefficients) → IsInverse A x w f → (k : ℕ) → 0 < k → word_length A w ≤ 2 * k → f k ≡ pos 0
  inverse-low f is k some l = ⊎_elim
      (λ (less : word_length A x < word_length A w). inverse-degree A g x w f is k less (omega (arith, l)))
      (λ (more : word_length A w ≤ word_length A x). ⊎_elim
      (λ (b : IsBelow A x w).
      let same : SameElement A x w = below-equal_length A g b (omega (arith, more, below-length A g b))
      in inverse-own A g w f (inverse-same A g x w w w f same (same-refl A g w) is) k ∙ one-low k some)
      (λ (n : IsBelow A x w → ⊥). inverse-outside A g x w f n is k)
      (below_or_not A g x w))
      (cases_lt (word_length A x) (word_length A w))
    where
      one-low : (k : ℕ) → 0 < k → one_polynomial k ≡ pos 0
      one-low zero l = absurd (omega (arith, l))
      one-low (suc k) l = refl

  pub inverse-degree_below : (r : List ℤ) → word_length A w ≤ 255 → IsInverse A x w (coefficient r) → HasDegreeBelow r 128
  inverse-degree_below r short is k l = inverse-low (coefficient r) is k (omega (arith, l)) (omega (arith, l, short))

  pub polynomial-degree_below : (p : List ℤ) → word_length A w ≤ 255 → IsKazhdanLusztig A x w (coefficient p) → HasDegreeBelow p 128
  polynomial-degree_below p short is k l =
      ap (λ (f : Coefficients). f k) (kl_polynomial-value A g x w (coefficient p) is)
      ∙ kl_polynomial-low A g x w k (omega (arith, l)) (omega (arith, l, short))

  pub polynomial-within : (limit : ℤ) (p : List ℤ) → IsWithinLimit A limit x w → IsKazhdanLusztig A x w (coefficient p) → AllWithin limit p
  polynomial-within limit p small is k = by_lt_z limit (pos (unsigned_abs (coefficient p k)))
      (λ above. absurd (small k (coefficient p k) (record { polynomial = coefficient p; is = is; value = refl; above = above })))
      (λ within. within)

-- ---- the sums

-- the sum of (-1)^(l(z)-l(x)) P(x,z) Q(z,w) over the last n members z
abbrev pub last_sum : (A : IntegerMatrix) → IsAdmissible A → List (List ℕ) → List ℕ → List ℕ → List ℕ → ℕ → Coefficients
last_sum A g members numbers w x n = sum_over (last_words members numbers n) (term A g (inverse_of A g w) x)

-- the last n members are taken off
abbrev pub AreLastOff : Elements → List ℕ → List ℕ → List ℕ → ℕ → List ℤ → Type 0
AreLastOff e numbers w x n sums = (g : IsAdmissible (integer_matrix e.matrix)) (k : ℕ)
    → coefficient sums k ≡ neg_ℤ (last_sum (integer_matrix e.matrix) g e.members numbers w x n k)

module _ (e : Elements) (numbers : List ℕ) (w x : List ℕ) where
  abbrev A : IntegerMatrix
  A = integer_matrix e.matrix

  pub off-more : (n d : ℕ) (p r old new : List ℤ)
      → IsKazhdanLusztig A x (word_at e.members (number_before numbers n)) (coefficient p)
      → IsInverse A (word_at e.members (number_before numbers n)) w (coefficient r)
      → d ≡ word_length A (word_at e.members (number_before numbers n)) - word_length A x
      → ((k : ℕ) → coefficient new k ≡ minus (coefficient old) (times_sign d (product (coefficient p) (coefficient r))) k)
      → AreLastOff e numbers w x n old → AreLastOff e numbers w x (suc n) new
  off-more n d p r old new is_p is_r is_d off before g k =
      let z : List ℕ = word_at e.members (number_before numbers n)
      in let more : times_sign d (product (coefficient p) (coefficient r)) k ≡ term A g (inverse_of A g w) x z k
      = rw (kazhdan_lusztig-value A g x z (coefficient p) is_p, inverse-value A g z w (coefficient r) is_r, is_d) refl
      in omega (arith, ints, off k, before g k, more)

  pub off-skip : (n : ℕ) (old : List ℤ) → (IsBelow A x (word_at e.members (number_before numbers n)) → ⊥)
      → AreLastOff e numbers w x n old → AreLastOff e numbers w x (suc n) old
  off-skip n old none before g k =
      omega (arith, ints, before g k, term-apart A g (inverse_of A g w) x (word_at e.members (number_before numbers n)) none k)

-- all members behind x are taken off
pub off-all : (e : Elements) → IsAdmissible (integer_matrix e.matrix) → IsClosed (integer_matrix e.matrix) e.members → (y w : ℕ)
    → w < length e.members → (numbers : List ℕ) → AreBetween e y w numbers → (n : ℕ) → 0 < n → n < length numbers → (sums : List ℤ)
    → AreLastOff e numbers (word_at e.members w) (word_at e.members (number_before numbers n)) n sums
    → IsInverse (integer_matrix e.matrix) (word_at e.members (number_before numbers n)) (word_at e.members w) (coefficient sums)
off-all e g closed y w inside numbers are n some l sums off = record {
  row = inverse_of A g top;
  is = inverse_of-is A g top;
  at = λ k. off g k ∙ sym (inverse_row-recursion A g top (inverse_of A g top) (inverse_of-is A g top) (row_of A g) (row_of-is A g) x
      (last_words e.members numbers n) (before-below e g closed y w inside numbers are n l) apart
      (named-once e g closed y w inside numbers are n l) k);
}
  where
    A : IntegerMatrix
    A = integer_matrix e.matrix

    x : List ℕ
    x = word_at e.members (number_before numbers n)

    top : List ℕ
    top = word_at e.members w

    apart : SameElement A x top → ⊥
    apart same =
        let some_last : 0 < length numbers = omega (arith, l)
        in let here = number-same A g e.members closed (number_before numbers n) w (before-member e g closed y w inside numbers are n
        l) inside same
        in let rises = before-rises e g closed y w inside numbers are n 0 some l
        in later-not_below A g e.members closed (number_before numbers 0) w (before-member e g closed y w inside numbers are 0 some_last)
        inside (omega (arith, rises, here)) (before-below e g closed y w inside numbers are 0 some_last)
