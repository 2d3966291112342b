-- The proof of `put_members`.
use Rattle.std.proofs.Common.{◌≡◌, ◌++◌, length, get_or, decimal, refl, arith, rules}
use Rattle.std.specs.List.{flat_map}
use Rattle.cox_reflect.proofs.NormalElements.{element-word}
use Rattle.cox_poly.proofs.Behind.{PutsPrefix-next, PutsPrefix-second, Puts-failed, Puts-first, append-all, append-second}
use Rattle.cox_context.specs.Numbers.{word_at}
use Rattle.cox_context.proofs.PlacedWords.{contains-at}
use Rattle.cox_replies.proofs.MemberTexts.{member_line, elements_text-lines}
use Rattle.cox_replies.proofs.intervals.put_members.Goals as goal

pub returns-in_err-put_count : goal.returns-in_err-put_count
returns-in_err-put_count c =
    let numbers = c.args.numbers.now in
    let line = member_line c.args.context.now.matrix.rank c.args.context.now.members in
    rw elements_text-lines (Puts-first _ (decimal (length numbers)) (flat_map line numbers) _ _ (search rules) c.in_err-put_count.ensures)

pub put_next_element-requires-clause-word : goal.put_next_element-requires-clause-word
put_next_element-requires-clause-word c =
    let members = c.args.context.now.members in
    let i = get_or c.args.numbers.now c.loop-i.i-index 0 in
    let within = c.requires c.loop-i.i-index 0 c.loop-i-test.true in
    let element = c.len.ensures.closed.element (word_at members i) (contains-at members i within) in
    rw (c.word.ensures, c.rank-rank.ensures.rank, c.matrix.ensures)
    (element-word _ c.len.ensures.admissible _ element)

pub returns-in_err-put_next_element : goal.returns-in_err-put_next_element
returns-in_err-put_next_element c =
    let numbers = c.args.numbers.now in
    let line = member_line c.args.context.now.matrix.rank c.args.context.now.members in
    let start : c.put_count.new.out.items ≡ c.args.out.now.items ++ decimal (length numbers) = c.in_ok-put_count.ensures {u = tt} in
    let prefix = PutsPrefix-next line numbers c.loop-i.i-index
    (get_or numbers c.loop-i.i-index 0) 0 _ _ _ c.loop-i-test.true refl c.loop-i.invariant
    (rw (c.word.ensures, c.rank-rank.ensures.rank, c.matrix.ensures) at (c.in_err-put_next_element.ensures {u = tt})) in
    rw elements_text-lines (Puts-failed _ _ _ _ (search rules) (PutsPrefix-second (decimal (length numbers)) _ _ _ _ start prefix))

pub returns : goal.returns
returns c =
    let numbers = c.args.numbers.now in
    let line = member_line c.args.context.now.matrix.rank c.args.context.now.members in
    let start : c.put_count.new.out.items ≡ c.args.out.now.items ++ decimal (length numbers) = c.in_ok-put_count.ensures {u = tt} in
    let whole = append-all line numbers c.loop-i.i-index _ _ (omega arith) c.loop-i.invariant in
    rw elements_text-lines (append-second (decimal (length numbers)) _ _ _ _ start whole)
