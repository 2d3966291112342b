-- The length is that of the normal form.
use Rattle.std.proofs.Common.{List, ℕ, length, ap, arith}
use Rattle.cox_base.specs.IntegerMatrix.{integer_matrix}
use Rattle.cox_reflect.proofs.Lengths.{word_length-is}
use Rattle.cox_reflect.proofs.forms.length.Goals as goal

pub returns-clause-length : goal.returns-clause-length
returns-clause-length c =
    omega (
      arith,
      ap (λ (form : List ℕ). length form) c.normal_form.ensures.form,
      word_length-is (integer_matrix c.args.g.now) c.args.w.now.items,
    )
