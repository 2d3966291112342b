-- Totals as folds over one list of polynomials.
use Rattle.std.proofs.Common.{◌≡◌, ℕ, max, List, [], ◌∷◌, ◌++◌, length, map, refl, sym, ap, ap₂, ◌∙◌, arith, ℤ, pos, ◌+ℤ◌}
use Rattle.std.specs.List.{fold, flat_map}
use Rattle.std.proofs.Math.IntN.{+ℤ_idl, +ℤ_idr, +ℤ_assoc}
use Rattle.cox_base.specs.IntegerMatrix.{IntegerMatrix}
use Rattle.cox_base.specs.Length.{word_length}
use Rattle.cox_hecke.specs.Family.{Family}
use Rattle.cox_replies.specs.RowReply.{coefficients_to}
use Rattle.cox_replies.specs.WorkReply.{ArePolynomials, degree_from}
use Rattle.cox_replies.specs.Totals.{Totals, both_totals, sum_of, polynomial_totals, row_totals, AreTotals}
use Rattle.cox_replies.proofs.RowTotals.{same_totals, both-none_left, both-assoc}

-- the totals of a list of polynomials
abbrev pub totals_of : List (List ℤ) → Totals
totals_of list = record {
  entries = length list;
  degree = fold max 0 (map (degree_from 0) list);
  sum = fold (λ sum c. sum +ℤ c) (pos 0) (flat_map (λ p. p) list);
}

fold-max : (n : ℕ) (xs : List ℕ) → fold max n xs ≡ max n (fold max 0 xs)
fold-max n [] = omega arith
fold-max n (x ∷ xs) = omega (arith, fold-max (max n x) xs, fold-max (max 0 x) xs)

fold-sum : (a : ℤ) (xs : List ℤ) → fold (λ sum c. sum +ℤ c) a xs ≡ a +ℤ sum_of xs
fold-sum a [] = sym (+ℤ_idr a)
fold-sum a (x ∷ xs) = fold-sum (a +ℤ x) xs ∙ +ℤ_assoc a x (sum_of xs)

-- the sum from 0
sum-is : (xs : List ℤ) → fold (λ sum c. sum +ℤ c) (pos 0) xs ≡ sum_of xs
sum-is xs = fold-sum (pos 0) xs ∙ +ℤ_idl (sum_of xs)

sum_of-append : (xs ys : List ℤ) → sum_of (xs ++ ys) ≡ sum_of xs +ℤ sum_of ys
sum_of-append [] ys = sym (+ℤ_idl (sum_of ys))
sum_of-append (x ∷ xs) ys = ap (λ s. x +ℤ s) (sum_of-append xs ys) ∙ sym (+ℤ_assoc x (sum_of xs) (sum_of ys))

-- of one polynomial more
totals_of-cons : (p : List ℤ) (list : List (List ℤ)) → totals_of (p ∷ list) ≡ both_totals (polynomial_totals p) (totals_of list)
totals_of-cons p list =
    let rest : List ℤ = flat_map (λ p. p) list in
    same_totals (totals_of (p ∷ list)) (both_totals (polynomial_totals p) (totals_of list)) (omega arith)
    (omega (arith, fold-max (max 0 (degree_from 0 p)) (map (degree_from 0) list)))
    (sum-is (p ++ rest) ∙ sum_of-append p rest ∙ ap (λ s. sum_of p +ℤ s) (sym (sum-is rest)))

-- of two lists
totals_of-append : (a b : List (List ℤ)) → totals_of (a ++ b) ≡ both_totals (totals_of a) (totals_of b)
totals_of-append [] b = sym (both-none_left (totals_of b))
totals_of-append (p ∷ a) b =
    totals_of-cons p (a ++ b) ∙ ap (both_totals (polynomial_totals p)) (totals_of-append a b)
    ∙ sym (both-assoc (polynomial_totals p) (totals_of a) (totals_of b)) ∙ ap (λ t. both_totals t (totals_of b)) (sym (totals_of-cons p a))

-- the polynomials P(x,w) of elements x, each by its coefficients, where p is the row of w
abbrev row_polynomials : IntegerMatrix → List ℕ → Family → List (List ℕ) → List (List ℤ)
row_polynomials A w p words = map (λ x. coefficients_to (word_length A w) (p x)) words

-- of a row
row-list : (A : IntegerMatrix) (w : List ℕ) (p : Family) (members : List (List ℕ))
    → row_totals A w p members ≡ totals_of (row_polynomials A w p members)
row-list A w p [] = refl
row-list A w p (x ∷ members) =
    let q : List ℤ = coefficients_to (word_length A w) (p x) in
    ap (both_totals (polynomial_totals q)) (row-list A w p members)
    ∙ sym (totals_of-cons q (row_polynomials A w p members))

-- totals are those of a list of the polynomials
pub polynomials-of : (A : IntegerMatrix) (words : List (List ℕ)) (totals : Totals) → AreTotals A words totals
    → (list : List (List ℤ)) × ArePolynomials A words list × (totals ≡ totals_of list)
polynomials-of A [] totals none = ([], refl, none)
polynomials-of A (w ∷ words) totals (first, (p, row, members, is, sum), rest, are, both) =
    let here : List (List ℤ) = row_polynomials A w p members in
    let later = polynomials-of A words rest are in (
      here ++ later.0,
      (here, later.0, refl, later.1, (p, row, (members, is, refl))),
      both ∙ ap₂ both_totals (sum ∙ row-list A w p members) later.2 ∙ sym (totals_of-append here later.0),
    )

-- .. and the list gives the totals
pub totals_of-are : (A : IntegerMatrix) (words : List (List ℕ)) (list : List (List ℤ)) → ArePolynomials A words list
    → AreTotals A words (totals_of list)
totals_of-are A [] list none = ap totals_of none
totals_of-are A (w ∷ words) list (first, rest, both, are, (p, row, (members, is, here))) = (
  totals_of first,
  (p, row, members, is, ap totals_of here ∙ sym (row-list A w p members)),
  totals_of rest,
  totals_of-are A words rest are,
  ap totals_of both ∙ totals_of-append first rest,
)
