-- As many members as the limit, and another one.
use Rattle.std.proofs.Common.{◌∷◌, refl, arith}
use Rattle.cox_base.specs.IntegerMatrix.{integer_matrix}
use Rattle.cox_base.specs.ShortLex.{normal_form}
use Rattle.cox_context.specs.Numbers.{word_at}
use Rattle.cox_context.proofs.UnionSizes.{full-more}
use Rattle.cox_context.proofs.exchange.append_next.Goals as goal

pub returns-then-number-limit-clause-refused : goal.returns-then-number-limit-clause-refused
returns-then-number-limit-clause-refused c =
    let A = integer_matrix c.args.context.now.matrix
    in let words = c.args.context.now.members
    in let more = full-more A words c.len-number.ensures.closed (normal_form A (c.args.s ∷ word_at words c.args.i))
    c.requires.next.none c.args.limit (omega (arith, c.if-number-limit.true, c.len-number.ensures.len))
    in (refl, refl, more)
