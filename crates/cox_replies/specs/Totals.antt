-- Totals of polynomials, as they are summed up row by row and word by word.
use Rattle.std.specs.Prelude.{◌≡◌, ℕ, ◌+◌, max, List, [], ◌∷◌, ℤ, pos, ◌+ℤ◌}
use Rattle.cox_base.specs.IntegerMatrix.{IntegerMatrix}
use Rattle.cox_base.specs.Length.{word_length}
use Rattle.cox_hecke.specs.Family.{Family}
use Rattle.cox_hecke.specs.Row.{IsRow}
use Rattle.cox_base.specs.Members.{IsInInterval}
use Rattle.cox_base.specs.SortedList.{IsListOf}
use Rattle.cox_replies.specs.RowReply.{coefficients_to}
use Rattle.cox_replies.specs.WorkReply.{degree_from}

-- how many polynomials there are, their greatest degree, and the sum of all their coefficients
pub record Totals : Type 0 where
  pub entries : ℕ
  pub degree : ℕ
  pub sum : ℤ

abbrev pub no_totals : Totals
no_totals = record { entries = 0; degree = 0; sum = pos 0 }

abbrev pub both_totals : Totals → Totals → Totals
both_totals a b = record { entries = a.entries + b.entries; degree = max a.degree b.degree; sum = a.sum +ℤ b.sum }

abbrev pub sum_of : List ℤ → ℤ
sum_of [] = pos 0
sum_of (c ∷ list) = c +ℤ sum_of list

-- of one polynomial, given by its coefficients
abbrev pub polynomial_totals : List ℤ → Totals
polynomial_totals p = record { entries = 1; degree = degree_from 0 p; sum = sum_of p }

-- of the P(x,w) of these x, where p is the row of w
abbrev pub row_totals : IntegerMatrix → List ℕ → Family → List (List ℕ) → Totals
row_totals A w p [] = no_totals
row_totals A w p (x ∷ members) = both_totals (polynomial_totals (coefficients_to (word_length A w) (p x))) (row_totals A w p members)

-- of the P(x,w) of all x ≤ w
abbrev pub AreTotalsOf : IntegerMatrix → List ℕ → Totals → Type 0
AreTotalsOf A w totals = (p : Family) × IsRow A w p × (members : List (List ℕ)) × IsListOf (IsInInterval A w) members
    × (totals ≡ row_totals A w p members)

-- of the P(x,w) of each of the words w and all x ≤ w
abbrev pub AreTotals : IntegerMatrix → List (List ℕ) → Totals → Type 0
AreTotals A [] totals = totals ≡ no_totals
AreTotals A (w ∷ words) totals = (first : Totals) × AreTotalsOf A w first × (rest : Totals) × AreTotals A words rest
    × (totals ≡ both_totals first rest)
