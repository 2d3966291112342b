-- Where there is no entry: the letter is no left descent of the other vertex, or there is no edge.
use Rattle.std.proofs.Common.{sym, ◌∙◌}
use Rattle.std.proofs.lemmas.Bool.{false≢true}
use Rattle.cox_base.specs.IntegerMatrix.{integer_matrix}
use Rattle.cox_context.specs.Numbers.{word_at}
use Rattle.cox_module.proofs.Entries.{no_entry-apart}
use Rattle.cox_module.proofs.image.half.Goals as goal

pub returns-then-not-has_left_descent : goal.returns-then-not-has_left_descent
returns-then-not-has_left_descent c =
    let g = c.args.graph.now in
    no_entry-apart (integer_matrix g.matrix) c.args.s (word_at g.members c.args.of) (word_at g.members c.args.at)
    (λ same. c.requires.other (c.len-len.ensures.closed.distinct c.args.of c.args.at c.requires.of c.requires.at same))
    (λ d _. false≢true (sym c.if-not-has_left_descent.true ∙ c.has_left_descent.ensures.1 d))

pub returns-in_err-value : goal.returns-in_err-value
returns-in_err-value c =
    let g = c.args.graph.now in
    rw c.from_residual.ensures
    (no_entry-apart (integer_matrix g.matrix) c.args.s (word_at g.members c.args.of) (word_at g.members c.args.at)
    (λ same. c.requires.other (c.len-len.ensures.closed.distinct c.args.of c.args.at c.requires.of c.requires.at same))
    (λ _ joined. c.in_err-value.ensures {u = tt} joined.0 joined.1))
