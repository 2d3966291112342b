-- The shorter element of a member and its corrections are of its Need, by number.
use Rattle.std.proofs.Common.{◌≡◌, ℕ, ◌<◌, List, length, subst}
use Rattle.cox_base.specs.IntegerMatrix.{integer_matrix}
use Rattle.cox_base.specs.Admissible.{IsAdmissible}
use Rattle.cox_context.specs.Closed.{Elements, IsClosed}
use Rattle.cox_context.specs.Numbers.{word_at}
use Rattle.cox_row.specs.Rising.{number_at}
use Rattle.cox_row_symmetry.specs.declared.descents.Descent.{Descent}
use Rattle.cox_row_symmetry.specs.DescentOf.{IsDescentAt}
use Rattle.cox_klstep.specs.NeedsOf.{AreNeeds}
use Rattle.cox_klstep.proofs.NeededRows.{shorter-needed, correction-needed, correction-before}
use Rattle.cox_workers.specs.SeatChanges.{IsNeededAt}

module _ (e : Elements) (g : IsAdmissible (integer_matrix e.matrix)) (closed : IsClosed (integer_matrix e.matrix) e.members) (d : Descent)
    (is : IsDescentAt e d) {i : ℕ} (number : d.member ≡ i) where
  pub lower-needed_at : IsNeededAt e i d.lower
  lower-needed_at =
      subst (λ n. IsNeededAt e n d.lower) number (record { within = is.lower_within; needed = shorter-needed e g closed d is })

  -- a correction is one of a list with the same numbers
  module _ {numbers list : List ℕ} (same : list ≡ numbers)
      (are : AreNeeds (integer_matrix e.matrix) e.members d.letter (word_at e.members d.member) numbers) {k : ℕ} (l : k < length list) where
    listed : AreNeeds (integer_matrix e.matrix) e.members d.letter (word_at e.members d.member) list
    listed = rw same are

    pub correction-needed_at : IsNeededAt e i (number_at list k)
    correction-needed_at = subst (λ n. IsNeededAt e n (number_at list k)) number
        (record { within = listed.within k l; needed = correction-needed e g closed d is list listed k l })

    pub correction-before_at : number_at list k < i
    correction-before_at = rw number at (correction-before e g closed d is list listed k l)
