-- The proof of `is_list_of_group`.
use Rattle.std.proofs.Common.{sym, ◌∙◌}
use Rattle.std.proofs.lemmas.Bool.{false≢true}
use Rattle.cox_base.specs.IntegerMatrix.{integer_matrix}
use Rattle.cox_answers.proofs.WholeGroups.{whole-by_shifts, whole-has_shifts}
use Rattle.cox_answers.proofs.kept_rows.group.is_list_of_group.Goals as goal

pub returns-then-covers_group : goal.returns-then-covers_group
returns-then-covers_group c =
    let context = c.args.context.now in (
      λ done. whole-by_shifts (integer_matrix context.matrix) c.len.ensures.admissible context.members c.len.ensures.closed
          (c.is_in_order.ensures.0 done) (c.covers_group.ensures.0 c.if-covers_group.true),
      λ all. c.is_in_order.ensures.1 all.rising,
    )

pub returns-else-covers_group : goal.returns-else-covers_group
returns-else-covers_group c =
    let context = c.args.context.now in (
      λ done. absurd (false≢true (sym c.if-covers_group.false ∙ done)),
      λ all. c.covers_group.ensures.1 (λ i within s letter. whole-has_shifts (integer_matrix context.matrix) c.len.ensures.admissible
          context.members all i within s letter),
    )
