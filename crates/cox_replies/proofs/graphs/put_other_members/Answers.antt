-- The proof of `put_other_members`.
use Rattle.std.proofs.Common.{get_or, refl, arith, rules}
use Rattle.cox_reflect.proofs.NormalElements.{element-word}
use Rattle.cox_poly.proofs.Behind.{PutsPrefix-next, Puts-failed, append-all}
use Rattle.cox_context.specs.Numbers.{word_at}
use Rattle.cox_context.proofs.PlacedWords.{contains-at}
use Rattle.cox_replies.proofs.GroupTexts.{other_text, member_text-others}
use Rattle.cox_replies.proofs.graphs.put_other_members.Goals as goal

pub put_member-requires-clause-word : goal.put_member-requires-clause-word
put_member-requires-clause-word c =
    let members = c.args.context.now.members in
    let i = get_or c.args.others.now c.loop-i.i-index 0 in
    let within = c.requires c.loop-i.i-index 0 c.loop-i-test.true in
    let element = c.len.ensures.closed.element (word_at members i) (contains-at members i within) in
    rw (c.word.ensures, c.rank-rank.ensures.rank, c.matrix.ensures)
    (element-word _ c.len.ensures.admissible _ element)

pub returns-in_err-put_member : goal.returns-in_err-put_member
returns-in_err-put_member c =
    let others = c.args.others.now in
    let text = other_text c.args.context.now.matrix.rank c.args.context.now.members in
    rw (member_text-others c.args.context.now.matrix.rank c.args.context.now.members others)
    (Puts-failed _ _ _ _ (search rules) (PutsPrefix-next text others c.loop-i.i-index
    (get_or others c.loop-i.i-index 0) 0 _ _ _ c.loop-i-test.true refl c.loop-i.invariant
    (rw (c.word.ensures, c.rank-rank.ensures.rank, c.matrix.ensures) at (c.in_err-put_member.ensures {u = tt}))))

pub returns : goal.returns
returns c =
    let others = c.args.others.now in
    let text = other_text c.args.context.now.matrix.rank c.args.context.now.members in
    rw (member_text-others c.args.context.now.matrix.rank c.args.context.now.members others)
    (append-all text others c.loop-i.i-index _ _ (omega arith) c.loop-i.invariant)
