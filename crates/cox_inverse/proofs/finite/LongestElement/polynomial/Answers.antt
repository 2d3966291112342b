-- P(w0 w, w0 y) by its members.
use Rattle.cox_context.specs.Numbers.{word_at}
use Rattle.cox_inverse.proofs.TurnedMembers.{turned-value, turned-order, whole-within}
use Rattle.cox_inverse.proofs.finite.LongestElement.polynomial.Goals as goal

pub unreachable-requires : goal.unreachable-requires
unreachable-requires g c =
    let never = c.in-None.ensures.exactly.1 (turned-order c.args.ctx.now c.len-len.ensures.admissible c.len-len.ensures.closed
    c.args.self.longest c.requires.readable.longest c.args.y c.args.w c.turned-upper.result c.turned-lower.result c.turned-upper.ensures
    c.turned-lower.ensures c.requires.below) in absurd (cc)

pub returns-clause-value : goal.returns-clause-value
returns-clause-value g c =
    turned-value c.args.ctx.now c.len-len.ensures.admissible c.len-len.ensures.closed c.args.self.longest c.requires.readable.longest
    c.args.y c.args.w c.turned-upper.result c.turned-lower.result _ c.turned-upper.ensures c.turned-lower.ensures c.in-Some.ensures.value

pub returns-clause-within : goal.returns-clause-within
returns-clause-within g c =
    whole-within c.args.ctx.now c.len-len.ensures.admissible c.len-len.ensures.closed c.args.self.longest c.requires.readable.longest
    c.args.limit c.requires.readable.small (word_at c.args.ctx.now.members c.args.y) c.args.w c.requires.w c.requires.most
