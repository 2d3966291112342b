-- Nothing is left at the identity.
use Rattle.std.proofs.Common.{◌≡◌, sym, ◌∙◌, arith}
use Rattle.std.proofs.lemmas.List.{append-nil}
use Rattle.cox_context.proofs.members.Members.word.Goals as goal

pub returns : goal.returns
returns c =
    let e : c.loop-at.at ≡ 0 = omega arith
    in sym (append-nil c.loop-at.word.items) ∙ (rw (e, c.len.ensures.identity) at c.loop-at.invariant.word)
