-- What the loop of `row_totals` keeps.
use Rattle.std.proofs.Common.{◌≡◌, ◌≤◌, ℕ, List}
use Rattle.cox_base.specs.IntegerMatrix.{integer_matrix}
use Rattle.cox_base.specs.ShortLex.{normal_form}
use Rattle.cox_hecke.specs.Family.{Family}
use Rattle.cox_hecke.specs.Row.{IsRow}
use Rattle.cox_context.specs.Numbers.{word_at}
use Rattle.cox_context.proofs.IntervalLists.{is_below}
use Rattle.cox_replies.proofs.RowTotals.{first_totals}
use Rattle.cox_answers.proofs.answers.generated.row_totals.Given as goal

abbrev pub invariant-loop-x : goal.invariant-loop-x
invariant-loop-x l =
    let A = integer_matrix l.rows.elements.matrix in let members = l.rows.elements.members in record {
      few : l.totals.entries ≤ l.x;
      totals : (w : List ℕ) (p : Family) → word_at members l.i ≡ normal_form A w → IsRow A w p
          → l.totals ≡ first_totals A w p (λ y. is_below A y (word_at members l.i)) members l.x;
    }
