-- The left descents of the word or of the reversed word.
use Rattle.std.proofs.Common.{sym, ◌∙◌}
use Rattle.cox_base.specs.IntegerMatrix.{integer_matrix}
use Rattle.cox_reflect.specs.Side.{word_on_side}
use Rattle.cox_reflect.proofs.Admissible.{IsAdmissible-integer_matrix}
use Rattle.cox_reflect.proofs.FormsByDescents.{left_descents-word_on_side}
use Rattle.cox_reflect.proofs.forms.descents.Goals as goal

pub returns-clause-descents : goal.returns-clause-descents
returns-clause-descents c =
    let g = IsAdmissible-integer_matrix c.args.g.now c.rank.ensures.matrix
    in c.descents_of.ensures.descents (integer_matrix c.args.g.now) (word_on_side c.args.side c.args.w.now.items) g
    (sym c.rank.ensures.rank) c.heights_at.ensures
    ∙ left_descents-word_on_side (integer_matrix c.args.g.now) g c.args.side c.args.w.now.items
