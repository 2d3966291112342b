-- A descent of the top that shortens y, or else lifting.
use Rattle.std.proofs.Common.{◌≡◌, ap, ◌∙◌}
use Rattle.cox_base.specs.IntegerMatrix.{IntegerMatrix, integer_matrix}
use Rattle.cox_base.specs.Admissible.{IsAdmissible}
use Rattle.cox_base.specs.Descents.{left_descents}
use Rattle.cox_reflect.proofs.Admissible.{IsAdmissible-integer_matrix}
use Rattle.cox_context.specs.WantedMembers.{top_descents}
use Rattle.cox_context.proofs.BelowTop.{shared, descents-word}
use Rattle.cox_context.proofs.lifting.is_below_top.Goals as goal

pub shares_descent-requires-clause-letters : goal.shares_descent-requires-clause-letters
shares_descent-requires-clause-letters c =
    let A : IntegerMatrix = integer_matrix c.args.shifts.now.matrix
    in let g : IsAdmissible A = IsAdmissible-integer_matrix c.args.shifts.now.matrix c.rank.ensures.matrix
    in let same : c.as_slice.result.now ≡ left_descents A c.in-Some.top.items =
    c.as_slice.ensures.value ∙ (rw c.requires.group at c.args.scope.now.descents_of) ∙ ap (top_descents A) c.in-Some.is
    in rw (c.rank.ensures.rank, same) (descents-word A g c.in-Some.top.items)

pub returns-then-shares_descent : goal.returns-then-shares_descent
returns-then-shares_descent c = λ y s d lower.
    let A : IntegerMatrix = integer_matrix c.args.shifts.now.matrix
    in let g : IsAdmissible A = IsAdmissible-integer_matrix c.args.shifts.now.matrix c.rank.ensures.matrix
    in let same : c.as_slice.result.now ≡ left_descents A c.in-Some.top.items =
    c.as_slice.ensures.value ∙ (rw c.requires.group at c.args.scope.now.descents_of) ∙ ap (top_descents A) c.in-Some.is
    in (
      λ yes. rw c.in-Some.is (shared A g c.args.shifts.now.members y c.as_slice.result.now c.args.lower.now
          c.in-Some.top g lower same
          (rw c.in-Some.is at c.requires.below) (rw c.rank.ensures.rank at (c.shares_descent.ensures yes))),
      λ b. c.if-shares_descent.true,
    )

pub returns-else-shares_descent : goal.returns-else-shares_descent
returns-else-shares_descent c = λ y s d lower. rw c.in-Some.is (c.lifts.ensures y s d lower)
