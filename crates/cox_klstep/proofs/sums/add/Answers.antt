-- Where x is not below u, P(x,u) is 0.
use Rattle.std.proofs.Common.{◌≡◌, Option, None, Some}
use Rattle.std.specs.Prelude.{IsSome}
use Rattle.cox_base.specs.IntegerMatrix.{integer_matrix}
use Rattle.cox_context.specs.Numbers.{word_at}
use Rattle.cox_klstep.proofs.AddedSums.{sum-none}
use Rattle.cox_klstep.proofs.sums.add.Goals as goal

none-found : {X : Type 0} (found : Option X) → found ≡ None → IsSome found → ⊥
none-found None is some = absurd (cc)
none-found (Some p) is some = absurd (cc)

pub returns-in-None-clause-sum : goal.returns-in-None-clause-sum
returns-in-None-clause-sum c = λ f is k. sum-none (integer_matrix c.args.ctx.now.matrix) c.requires.admissible
    (word_at c.args.ctx.now.members c.args.x) (word_at c.args.ctx.now.members c.args.term.now.number)
    c.args.sums.now c.args.term.now.factor c.args.term.now.shift f
    (λ below. let never = c.requires.exactly.1 below in absurd (none-found _ c.in-None.is never)) is k

pub returns-in-Some-clause-sum : goal.returns-in-Some-clause-sum
returns-in-Some-clause-sum c = λ f is k. c.add_known.ensures.sum f is k
