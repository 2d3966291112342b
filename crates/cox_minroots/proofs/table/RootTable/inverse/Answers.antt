-- The word is read backward, or its inverse is taken twice.
use Rattle.std.proofs.Common.{reverse, ◌∙◌}
use Rattle.cox_base.specs.IntegerMatrix.{integer_matrix}
use Rattle.cox_reflect.proofs.Admissible.{IsAdmissible-integer_matrix}
use Rattle.cox_reflect.proofs.Elements.{same-reverse}
use Rattle.cox_reflect.proofs.Search.{normal_form-equal}
use Rattle.cox_reflect.proofs.Lengths.{IsReduced-normal_form}
use Rattle.cox_minroots.proofs.ExchangeForms.{same-inverse_twice}
use Rattle.cox_minroots.proofs.table.RootTable.inverse.Goals as goal

pub returns-clause-form : goal.returns-clause-form
returns-clause-form c =
    c.form_of_inverse.ensures.form
    ∙ normal_form-equal (integer_matrix c.args.self.now) (IsAdmissible-integer_matrix c.args.self.now c.reduced_inverse.ensures.matrix)
    (same-reverse (integer_matrix c.args.self.now) (IsAdmissible-integer_matrix c.args.self.now c.reduced_inverse.ensures.matrix)
    (same-inverse_twice (integer_matrix c.args.self.now)
    (IsAdmissible-integer_matrix c.args.self.now c.reduced_inverse.ensures.matrix) c.args.w.now.items c.reduced_inverse.result.items
    c.reduced_inverse-2.result.items c.reduced_inverse.ensures.same c.reduced_inverse-2.ensures.same))

pub returns-clause-reduced : goal.returns-clause-reduced
returns-clause-reduced c =
    rw c.form_of_inverse.ensures.form
    (IsReduced-normal_form (integer_matrix c.args.self.now)
    (IsAdmissible-integer_matrix c.args.self.now c.reduced_inverse.ensures.matrix) (reverse c.reduced_inverse-2.result.items))
