-- The elements of an interval, as a list: each is named once; and polynomials at them are the row exactly where the family that they give
-- meets the conditions.
use Rattle.std.proofs.Common.{◌≡◌, ◌↔◌, ℕ, ◌<◌, ◌≤◌, List, [], length, ℤ, pos, subst, ap, sym, ◌∙◌, ⊎_elim, arith}
use Rattle.cox_base.specs.IntegerMatrix.{IntegerMatrix}
use Rattle.cox_base.specs.Admissible.{IsAdmissible}
use Rattle.cox_base.specs.ShortLex.{normal_form}
use Rattle.cox_base.specs.Length.{word_length}
use Rattle.cox_base.specs.Bruhat.{IsBelow}
use Rattle.cox_base.specs.Members.{IsInInterval}
use Rattle.cox_base.specs.Interval.{IsBetween}
use Rattle.cox_base.specs.SortedList.{IsListOf}
use Rattle.cox_reflect.proofs.Elements.{same-refl, same-sym}
use Rattle.cox_reflect.proofs.Search.{normal_form-same, normal_form-equal}
use Rattle.cox_reflect.proofs.NormalElements.{element-normal_form, element-length}
use Rattle.cox_reflect.proofs.Bruhat.{below-same, below-least, below-length, below-form}
use Rattle.cox_poly.specs.Coefficients.{Coefficients}
use Rattle.cox_poly.specs.Polynomial.{coefficient, SameCoefficients}
use Rattle.cox_rpoly.specs.Terms.{numbered}
use Rattle.cox_hecke.specs.Family.{Family}
use Rattle.cox_hecke.specs.ListedElements.{occurrences}
use Rattle.cox_hecke.specs.Row.{IsRow}
use Rattle.cox_hecke.proofs.OneRow.{row-unique}
use Rattle.cox_hecke.proofs.RowsExist.{row-exists}
use Rattle.cox_hecke.proofs.ElementLists.{below_or_not, sorted-once}
use Rattle.cox_context.specs.Numbers.{word_at}
use Rattle.cox_context.proofs.ClosedContexts.{list-along}
use Rattle.cox_context.proofs.PlacedWords.{IsPlaced, contains-at, contains-placed, rising-place}
use Rattle.cox_rowcheck.specs.ListedRows.{AreRow}
use Rattle.cox_rowcheck.specs.MemberFamily.{polynomial_of, family_of}
use Rattle.cox_rowcheck.specs.OneList.{IsBalanced}
use Rattle.cox_rowcheck.proofs.PlacedPolynomials.{AreApart, family-respects, polynomial-outside, family-at}
use Rattle.cox_rowcheck.proofs.Balances.{balanced-row, row-balanced}

module _ (A : IntegerMatrix) (g : IsAdmissible A) where
  -- two lists of polynomials that are the row agree
  pub row-once : (w : List ℕ) (words : List (List ℕ)) (polynomials others : List (List ℤ)) → AreRow A w words polynomials
      → AreRow A w words others → (i : ℕ) → i < length words → SameCoefficients (numbered polynomials i) (numbered others i)
  row-once w words polynomials others a b i l k =
      let one = a.each i l
      in let other = b.each i l
      in one.at k ∙ row-unique A g w one.row other.row one.is other.is (word_at words i) k ∙ sym (other.at k)

  -- the interval of an element is that of its normal form
  pub interval-named : (top w : List ℕ) (words : List (List ℕ)) → w ≡ normal_form A top → IsListOf (IsInInterval A top) words
      → IsListOf (IsInInterval A w) words
  interval-named top w words e list = list-along (IsInInterval A top) (IsInInterval A w)
      (λ y i. record { element = i.element; below = (below-form A g y top w e).1 i.below })
      (λ y i. record { element = i.element; below = (below-form A g y top w e).0 i.below }) words list

  module _ (w : List ℕ) (words : List (List ℕ)) (list : IsListOf (IsInInterval A w) words) where
    -- ---- the elements

    -- the i-th word is an element below w
    pub interval-at : (i : ℕ) → i < length words → IsInInterval A w (word_at words i)
    interval-at i l = list.sound (word_at words i) (contains-at words i l)

    -- it has as many letters as it is long
    pub interval-length : (i : ℕ) → i < length words → word_length A (word_at words i) ≡ length (word_at words i)
    interval-length i l = element-length A g (word_at words i) (interval-at i l).element

    -- which are no more than those of w
    pub interval-short : (i : ℕ) → i < length words → length (word_at words i) ≤ word_length A w
    interval-short i l = omega (arith, interval-length i l, below-length A g (interval-at i l).below)

    -- no word stands at two places
    pub interval-apart : AreApart words
    interval-apart i j l m e = rising-place words i j list.rising l m e

    -- each element below w has its place
    pub interval-place : (x : List ℕ) → IsBelow A x w → IsPlaced words (normal_form A x)
    interval-place x b = contains-placed words (normal_form A x) (list.whole (normal_form A x) (record {
      element = element-normal_form A g x;
      below = below-same A g (same-sym A g (normal_form-same A g x)) (same-refl A g w) b;
    }))

    -- and is named once
    pub interval-once : (x : List ℕ) → IsBelow A x w → occurrences A x words ≡ 1
    interval-once x b = sorted-once A g [] w words
        (list-along (IsInInterval A w) (IsBetween A [] w)
        (λ y i. record { element = i.element; above = below-least A g y; below = i.below })
        (λ y i. record { element = i.element; below = i.below }) words list)
        x (record { above = below-least A g x; below = b })

    -- ---- the polynomials

    module _ (polynomials : List (List ℤ)) (count : length polynomials ≡ length words) where
      abbrev p : Family
      p = family_of A words polynomials

      -- the family has the polynomial of each word there
      pub family-member : (i : ℕ) → i < length words → p (word_at words i) ≡ coefficient (numbered polynomials i)
      family-member i l = family-at A words polynomials i interval-apart (interval-at i l).element count l

      -- and it is 0 elsewhere
      pub family-outside : (x : List ℕ) → (IsBelow A x w → ⊥) → (k : ℕ) → p x k ≡ pos 0
      family-outside x n k = polynomial-outside words polynomials (normal_form A x)
          (λ i l e. n (below-same A g (normal_form-same A g x) (same-refl A g w) (rw e at (interval-at i l).below))) k

      -- ---- the family is the row exactly where each polynomial is P(x,w)

      row-members : IsRow A w p → AreRow A w words polynomials
      row-members row = record {
        count = count;
        each = λ i l. record { row = p; is = row; at = λ k. sym (ap (λ (f : Coefficients). f k) (family-member i l)) };
      }

      same-row : AreRow A w words polynomials → (r : Family) → IsRow A w r → (x : List ℕ) (k : ℕ) → r x k ≡ p x k
      same-row each r row x k = ⊎_elim
          (λ (b : IsBelow A x w). inside (interval-place x b))
          (λ (n : IsBelow A x w → ⊥). row.outside x n k ∙ sym (family-outside x n k))
          (below_or_not A g x w)
        where
          inside : IsPlaced words (normal_form A x) → r x k ≡ p x k
          inside place =
              let one = each.each place.i place.within
              in row.element x (normal_form A x) (same-sym A g (normal_form-same A g x)) k
              ∙ ap (λ (y : List ℕ). r y k) (sym place.is) ∙ row-unique A g w r one.row row one.is (word_at words place.i) k
              ∙ sym (one.at k) ∙ sym (ap (λ (f : Coefficients). f k) (family-member place.i place.within))
              ∙ ap (λ (y : List ℕ). polynomial_of words polynomials (normal_form A y) k) place.is
              ∙ ap (λ (y : List ℕ). polynomial_of words polynomials y k) (normal_form-equal A g (normal_form-same A g x))

      members-row : AreRow A w words polynomials → IsRow A w p
      members-row each = go (row-exists A g w)
        where
          go : (r : Family) × IsRow A w r → IsRow A w p
          go (r, row) = subst (λ (f : Family). IsRow A w f) (λ i x k. same-row each r row x k i) row

      -- the conditions decide
      pub row-decided : AreRow A w words polynomials ↔ IsBalanced A w p words
      row-decided = (
        λ each. row-balanced A g w p words interval-once (members-row each),
        λ b. row-members (balanced-row A g w p words interval-once (family-respects A g words polynomials) family-outside b),
      )
