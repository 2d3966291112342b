-- The right descents of the inverse.
use Rattle.std.proofs.Common.{◌∙◌}
use Rattle.cox_base.specs.IntegerMatrix.{integer_matrix}
use Rattle.cox_reflect.proofs.Admissible.{IsAdmissible-integer_matrix}
use Rattle.cox_minroots.proofs.ExchangeForms.{left_descents-inverse}
use Rattle.cox_minroots.proofs.table.RootTable.left_descents.Goals as goal

pub returns-clause-descents : goal.returns-clause-descents
returns-clause-descents c =
    c.descents_of.ensures.descents
    ∙ left_descents-inverse (integer_matrix c.args.self.now)
    (IsAdmissible-integer_matrix c.args.self.now c.reduced_inverse.ensures.matrix) c.args.w.now.items
    c.reduced_inverse.result.items c.reduced_inverse.ensures.same
