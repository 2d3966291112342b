-- The proof of `member_or_identity`.
use Rattle.std.proofs.Common.{[], sym, ◌∙◌, arith}
use Rattle.std.proofs.lemmas.List.{get_or_past}
use Rattle.cox_base.specs.IntegerMatrix.{integer_matrix}
use Rattle.cox_context.proofs.Shifting.{first-member}
use Rattle.cox_replies.proofs.order.member_or_identity.Goals as goal

pub returns-else-i-len-clause-word : goal.returns-else-i-len-clause-word
returns-else-i-len-clause-word c =
    let e = c.args.context.now in
    first-member (integer_matrix e.matrix) c.len.ensures.admissible e.members c.len.ensures.closed
    ∙ sym (get_or_past e.members c.args.i [] (omega (arith, c.len.ensures.len, c.if-i-len.false)))
