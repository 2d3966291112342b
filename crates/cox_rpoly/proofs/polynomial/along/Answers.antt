-- The value of the one element of the first layer.
use Rattle.std.proofs.Common.{◌∙◌}
use Rattle.cox_base.specs.IntegerMatrix.{integer_matrix}
use Rattle.cox_rpoly.proofs.LayerValues.{only_value}
use Rattle.cox_rpoly.proofs.polynomial.along.Goals as goal

pub returns-clause-value : goal.returns-clause-value
returns-clause-value g c = λ k.
    c.in_ok-of.ensures.same k
    ∙ (only_value g.E.Element.is_of (integer_matrix (g.W.Words.matrix c.args.words.now)) c.args.form.now c.in-Some.x
    c.in_ok-layer_of.field-0.keys c.in_ok-values.values.items c.index.result.now c.in_ok-layer_of.ensures c.in_ok-values.ensures.values
    c.index.ensures).at c.args.y.now.items c.in-Some.ensures.of k
