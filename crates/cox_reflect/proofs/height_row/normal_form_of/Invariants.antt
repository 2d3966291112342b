-- The normal form begins with the letters so far.
use Rattle.std.proofs.Common.{◌-◌, length}
use Rattle.cox_base.specs.declared.limits.TheConstants.{MAX_LETTERS}
use Rattle.cox_base.specs.IntegerMatrix.{integer_matrix}
use Rattle.cox_reflect.proofs.FormsByDescents.{AreBegun}
use Rattle.cox_reflect.proofs.height_row.normal_form_of.Given as goal

abbrev pub invariant-loop-s : goal.invariant-loop-s
invariant-loop-s g l =
    AreBegun (integer_matrix l.g) (g.H.HeightRow.values l.initial.heights) (g.H.HeightRow.values l.heights) l.form.items

abbrev pub decreases-loop-s : goal.decreases-loop-s
decreases-loop-s g l = MAX_LETTERS - length l.form.items
