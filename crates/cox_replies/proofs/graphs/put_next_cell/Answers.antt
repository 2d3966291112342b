-- The proof of `put_next_cell`.
use Rattle.std.proofs.Common.{◌≡◌, ◌++◌, ◌∷◌, [], ◌<◌, false, true, length, map, rules, arith}
use Rattle.std.specs.List.{flat_map}
use Rattle.std.proofs.lemmas.List.Elements.{All-rest}
use Rattle.cox_reflect.proofs.NormalElements.{element-word}
use Rattle.cox_poly.proofs.Behind.{Puts-first, Puts-second}
use Rattle.cox_context.specs.Numbers.{word_at}
use Rattle.cox_context.proofs.PlacedWords.{contains-at}
use Rattle.cox_print.specs.AnswerText.{members_text}
use Rattle.cox_print.specs.MemberText.{member_text}
use Rattle.cox_replies.proofs.GroupTexts.{cell-parts}
use Rattle.cox_replies.proofs.graphs.put_next_cell.Goals as goal

pub returns-in_err-put_end : goal.returns-in_err-put_end
returns-in_err-put_end c =
    Puts-first _ (10 ∷ []) (members_text c.args.context.now.matrix.rank (map (word_at c.args.context.now.members) c.args.cell.now)) _ _
    (search rules) (c.in_err-put_end.ensures {u = tt})

pub put_member-requires-clause-word : goal.put_member-requires-clause-word
put_member-requires-clause-word c =
    let members = c.args.context.now.members in
    let parts : c.args.cell.now ≡ c.in-Some.field-0-0.now ∷ c.in-Some.others.now = (c.in-Some.ensures {u = tt}).cases.0 in
    let within = (rw parts at c.requires) 0 0 (omega arith) in
    let element = c.len.ensures.closed.element (word_at members c.in-Some.field-0-0.now)
    (contains-at members c.in-Some.field-0-0.now within) in
    rw (c.word.ensures, c.rank-rank.ensures.rank, c.matrix.ensures)
    (element-word _ c.len.ensures.admissible _ element)

pub put_other_members-requires : goal.put_other_members-requires
put_other_members-requires c =
    let parts : c.args.cell.now ≡ c.in-Some.field-0-0.now ∷ c.in-Some.others.now = (c.in-Some.ensures {u = tt}).cases.0 in
    All-rest (λ i. i < length c.args.context.now.members) _ c.in-Some.others.now c.args.cell.now parts c.requires

pub returns : goal.returns
returns c =
    let members = c.args.context.now.members in
    let rank = c.args.context.now.matrix.rank in
    let first = c.in-Some.field-0-0.now in
    let others = c.in-Some.others.now in
    let parts : c.args.cell.now ≡ first ∷ others = (c.in-Some.ensures {u = tt}).cases.0 in
    let put = rw (c.word.ensures, c.rank-rank.ensures.rank, c.matrix.ensures) at (c.in_ok-put_member.ensures {u = tt}) in
    rw (cell-parts rank members c.args.cell.now others first parts)
    (Puts-second _ (10 ∷ []) (member_text rank (word_at members first) true ++ flat_map (λ y. member_text rank y false)
    (map (word_at members) others)) _ _ _
    (c.in_ok-put_end.ensures {u = tt})
    (Puts-second _ (member_text rank (word_at members first) true) (flat_map (λ y. member_text rank y false) (map (word_at members) others))
    _ _ _ put
    c.put_other_members.ensures))
