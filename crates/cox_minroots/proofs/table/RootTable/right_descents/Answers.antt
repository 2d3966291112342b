-- The right descents of a reduced word.
use Rattle.std.proofs.Common.{◌∙◌}
use Rattle.cox_base.specs.IntegerMatrix.{integer_matrix}
use Rattle.cox_reflect.proofs.Admissible.{IsAdmissible-integer_matrix}
use Rattle.cox_minroots.proofs.ExchangeForms.{same-inverse_twice, right_descents-same}
use Rattle.cox_minroots.proofs.table.RootTable.right_descents.Goals as goal

pub returns-clause-descents : goal.returns-clause-descents
returns-clause-descents c =
    c.descents_of.ensures.descents
    ∙ right_descents-same (integer_matrix c.args.self.now)
    (IsAdmissible-integer_matrix c.args.self.now c.reduced_inverse.ensures.matrix)
    (same-inverse_twice (integer_matrix c.args.self.now) (IsAdmissible-integer_matrix c.args.self.now c.reduced_inverse.ensures.matrix)
    c.args.w.now.items c.reduced_inverse.result.items c.reduced_inverse-2.result.items c.reduced_inverse.ensures.same
    c.reduced_inverse-2.ensures.same)
