-- A reduced word of the inverse gives the normal form, letter by letter.
use Rattle.std.proofs.Common.{reverse, ◌∙◌}
use Rattle.cox_base.specs.IntegerMatrix.{integer_matrix}
use Rattle.cox_reflect.proofs.Admissible.{IsAdmissible-integer_matrix}
use Rattle.cox_reflect.proofs.Lengths.{IsReduced-normal_form}
use Rattle.cox_minroots.proofs.ExchangeForms.{form-inverse}
use Rattle.cox_minroots.proofs.table.RootTable.normal_form.Goals as goal

pub returns-clause-form : goal.returns-clause-form
returns-clause-form c =
    c.form_of_inverse.ensures.form
    ∙ form-inverse (integer_matrix c.args.self.now) (IsAdmissible-integer_matrix c.args.self.now c.reduced_inverse.ensures.matrix)
    c.args.w.now.items c.reduced_inverse.result.items
    c.reduced_inverse.ensures.same

pub returns-clause-reduced : goal.returns-clause-reduced
returns-clause-reduced c =
    rw c.form_of_inverse.ensures.form
    (IsReduced-normal_form (integer_matrix c.args.self.now)
    (IsAdmissible-integer_matrix c.args.self.now c.reduced_inverse.ensures.matrix) (reverse c.reduced_inverse.result.items))
