-- The proof of `put_group_cells`.
use Rattle.std.proofs.Common.{refl, rules}
use Rattle.cox_base.specs.IntegerMatrix.{integer_matrix}
use Rattle.cox_poly.proofs.Behind.{Puts-failed}
use Rattle.cox_cells.proofs.SomeList.{some_list}
use Rattle.cox_replies.proofs.Unless.{PutsPrefix-none}
use Rattle.cox_replies.proofs.graphs.put_group_cells.Goals as goal

pub returns-in_err-cells : goal.returns-in_err-cells
returns-in_err-cells c =
    let elements = c.args.rows.now.elements in
    let admissible = rw c.context.ensures.context at c.len.ensures.admissible in (
      _,
      (_, some_list c.args.kind (integer_matrix elements.matrix) admissible elements.members c.requires.whole, refl),
      Puts-failed _ _ _ _ (search rules) (PutsPrefix-none _ _ _ refl),
    )
