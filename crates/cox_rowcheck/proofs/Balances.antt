-- A family is the row of w exactly where the conditions hold with sums over one list that names each element below w once.
use Rattle.std.proofs.Common.{◌≡◌, ℕ, List, pos, ◌∙◌}
use Rattle.cox_base.specs.IntegerMatrix.{IntegerMatrix}
use Rattle.cox_base.specs.Admissible.{IsAdmissible}
use Rattle.cox_base.specs.Bruhat.{IsBelow}
use Rattle.cox_hecke.specs.Family.{Family, RespectsElements}
use Rattle.cox_hecke.specs.ListedElements.{occurrences}
use Rattle.cox_hecke.specs.Row.{IsRow}
use Rattle.cox_hecke.proofs.ElementLists.{sorted-once}
use Rattle.cox_hecke.proofs.OneRow.{row-bar, bar_sum-lists}
use Rattle.cox_rowcheck.specs.OneList.{IsBalanced}

module _ (A : IntegerMatrix) (g : IsAdmissible A) (w : List ℕ) (p : Family) (words : List (List ℕ))
    (once : (y : List ℕ) → IsBelow A y w → occurrences A y words ≡ 1) where
  -- the terms that are not between x and w are 0
  pub balanced-row : RespectsElements A p → ((x : List ℕ) → (IsBelow A x w → ⊥) → (k : ℕ) → p x k ≡ pos 0)
      → IsBalanced A w p words → IsRow A w p
  balanced-row respects outside b = record {
    element = respects;
    outside = outside;
    top = b.top;
    degree = b.degree;
    bar = λ x between below are k. b.turned x below k
        ∙ bar_sum-lists A g w p outside respects x words between (λ y c. once y c.below) (sorted-once A g x w between are) k;
  }

  -- and back
  pub row-balanced : IsRow A w p → IsBalanced A w p words
  row-balanced row = record {
    top = row.top;
    degree = row.degree;
    turned = λ x below k. row-bar A g w p row x words below (λ y c. once y c.below) k;
  }
