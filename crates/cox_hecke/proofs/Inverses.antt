-- P(x,w) = P(x^-1,w^-1): the row of w at inverses is the row of w^-1, since R is the same at inverses.
use Rattle.std.proofs.Common.{◌≡◌, ℕ, ◌-◌, List, [], ◌∷◌, reverse, map, ⊎_elim}
use Rattle.std.proofs.Common.{refl, ap, sym, ◌∙◌, arith}
use Rattle.std.proofs.lemmas.Int.{ints}
use Rattle.std.proofs.lemmas.List.{reverse-reverse}
use Rattle.cox_base.specs.IntegerMatrix.{IntegerMatrix}
use Rattle.cox_base.specs.Admissible.{IsAdmissible}
use Rattle.cox_base.specs.Element.{SameElement}
use Rattle.cox_base.specs.Length.{word_length}
use Rattle.cox_base.specs.Bruhat.{IsBelow}
use Rattle.cox_base.specs.SortedList.{IsListOf}
use Rattle.cox_base.specs.Interval.{IsBetween}
use Rattle.cox_reflect.proofs.Elements.{same-reverse}
use Rattle.cox_reflect.proofs.Lengths.{word_length-reverse}
use Rattle.cox_reflect.proofs.Bruhat.{below_reverse}
use Rattle.cox_poly.specs.Coefficients.{Coefficients}
use Rattle.cox_poly.specs.Products.{flip, product}
use Rattle.cox_hecke.specs.Family.{Family}
use Rattle.cox_hecke.specs.Sums.{bar_sum}
use Rattle.cox_hecke.specs.Row.{IsRow}
use Rattle.cox_hecke.specs.ListedElements.{is_same, occurrences, LiesBetween}
use Rattle.cox_hecke.proofs.Signed.{at_inverses, at_inverses-respects}
use Rattle.cox_hecke.proofs.ListSums.{same_or_not, same-is_same, not_same-is_same}
use Rattle.cox_hecke.proofs.ElementLists.{sorted-once}
use Rattle.cox_hecke.proofs.OneRow.{row-bar}
use Rattle.cox_hecke.proofs.RPolynomials.{r-inverse}

module _ (A : IntegerMatrix) (g : IsAdmissible A) where
  is_same-reverse : (x y : List ℕ) → is_same A x (reverse y) ≡ is_same A (reverse x) y
  is_same-reverse x y = ⊎_elim
      (λ (e : SameElement A x (reverse y)). same-is_same A g e ∙ sym (same-is_same A g (rw (reverse-reverse y) at (same-reverse A g e))))
      (λ (n : SameElement A x (reverse y) → ⊥). not_same-is_same A g x (reverse y) n
      ∙ sym (not_same-is_same A g (reverse x) y (λ e. n (rw (reverse-reverse x) at (same-reverse A g e)))))
      (same_or_not A g x (reverse y))

  pub occurrences-reverse : (x : List ℕ) (words : List (List ℕ)) → occurrences A x (map reverse words) ≡ occurrences A (reverse x) words
  occurrences-reverse x [] = refl
  occurrences-reverse x (y ∷ words) = rw (is_same-reverse x y, occurrences-reverse x words) refl

  below-unreverse : {x w : List ℕ} → IsBelow A (reverse x) w → IsBelow A x (reverse w)
  below-unreverse {x} {w} b = rw (reverse-reverse x) at ((below_reverse A g (reverse x) w).0 b)

  unreverse-below : {x w : List ℕ} → IsBelow A x (reverse w) → IsBelow A (reverse x) w
  unreverse-below {x} {w} b = rw (reverse-reverse w) at ((below_reverse A g x (reverse w)).0 b)

  -- ---- the row

  pub row-reverse : (w : List ℕ) (p : Family) → IsRow A w p → IsRow A (reverse w) (at_inverses p)
  row-reverse w p row = record {
    element = at_inverses-respects A g p row.element;
    outside = λ x n k. row.outside (reverse x) (λ b. n (below-unreverse b)) k;
    top = λ k. ap (λ (u : List ℕ). p u k) (reverse-reverse w) ∙ row.top k;
    degree = λ x k l m.
        let size_x = word_length-reverse A g x
        in let size_w = word_length-reverse A g w
        in row.degree (reverse x) k (omega (arith, l, size_x, size_w)) (omega (arith, m, size_x, size_w));
    bar = bar;
  }
    where
      sums : (x : List ℕ) (words : List (List ℕ)) (k : ℕ)
          → bar_sum A (map reverse words) p (reverse x) k ≡ bar_sum A words (at_inverses p) x k
      sums x [] k = refl
      sums x (y ∷ words) k =
          omega (arith, ints, sums x words k, ap (λ (f : Coefficients). product f (p (reverse y)) k) (r-inverse A g x y))

      once : (x : List ℕ) (between : List (List ℕ)) → IsListOf (IsBetween A x (reverse w)) between → (y : List ℕ)
          → LiesBetween A (reverse x) w y → occurrences A y (map reverse between) ≡ 1
      once x between are y b = occurrences-reverse y between ∙ sorted-once A g x (reverse w) between are (reverse y)
          (record { above = below-unreverse b.above; below = (below_reverse A g y w).0 b.below })

      bar : (x : List ℕ) (between : List (List ℕ)) → IsBelow A x (reverse w) → IsListOf (IsBetween A x (reverse w)) between → (k : ℕ)
          → flip (word_length A (reverse w) - word_length A x) (at_inverses p x) k ≡ bar_sum A between (at_inverses p) x k
      bar x between b are k =
          ap (λ (n : ℕ). flip n (p (reverse x)) k) difference
          ∙ row-bar A g w p row (reverse x) (map reverse between) (unreverse-below b) (once x between are) k ∙ sums x between k
        where
          difference : word_length A (reverse w) - word_length A x ≡ word_length A w - word_length A (reverse x)
          difference = rw (word_length-reverse A g w, word_length-reverse A g x) refl
