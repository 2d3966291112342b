-- The proof of `put_pairs`.
use Rattle.std.proofs.Common.{◌≡◌, ◌++◌, length, get_or, decimal, refl, arith, rules}
use Rattle.std.specs.List.{flat_map}
use Rattle.cox_base.specs.IntegerMatrix.{integer_matrix}
use Rattle.cox_base.specs.Element.{SameElement}
use Rattle.cox_base.specs.Length.{word_length}
use Rattle.cox_reflect.proofs.Admissible.{IsAdmissible-integer_matrix}
use Rattle.cox_reflect.proofs.Search.{normal_form-same}
use Rattle.cox_reflect.proofs.NormalElements.{element-word}
use Rattle.cox_poly.proofs.Behind.{PutsPrefix-next, PutsPrefix-second, Puts-failed, Puts-first, append-all, append-second, append-next}
use Rattle.cox_context.specs.Closed.{IsClosed}
use Rattle.cox_context.specs.Numbers.{word_at}
use Rattle.cox_context.proofs.PlacedWords.{contains-at}
use Rattle.cox_replies.proofs.PairTexts.{pair_line, pairs_text-lines, pair_text-line}
use Rattle.cox_replies.proofs.pairs.put_pairs.Goals as goal

pub returns-in_err-put_count : goal.returns-in_err-put_count
returns-in_err-put_count c = λ w p is row.
    let e = c.args.rows.now.elements in
    let numbers = c.args.numbers.now in
    let line = pair_line e.matrix.rank (word_length (integer_matrix e.matrix) w) e.members p in
    rw pairs_text-lines (Puts-first _ (decimal (length numbers)) (flat_map line numbers) _ _ (search rules) c.in_err-put_count.ensures)

pub put_next_pair-requires-clause-word : goal.put_next_pair-requires-clause-word
put_next_pair-requires-clause-word c =
    let e = c.args.rows.now.elements in
    let g = IsAdmissible-integer_matrix e.matrix c.requires.group in
    let x = get_or c.args.numbers.now c.loop-x.x-index 0 in
    let within = c.requires.members c.loop-x.x-index 0 c.loop-x-test.true in
    let closed : IsClosed (integer_matrix e.matrix) e.members = rw c.context-2.ensures.context at c.len.ensures.closed in
    let element = closed.element (word_at e.members x) (contains-at e.members x within) in
    rw (c.word.ensures, c.context-in-loop-x.ensures.context, c.rank-rank.ensures.rank, c.matrix.ensures, c.context.ensures.context)
    (element-word (integer_matrix e.matrix) g _ element)

pub returns-in_err-put_next_pair : goal.returns-in_err-put_next_pair
returns-in_err-put_next_pair c = λ w p is row.
    let e = c.args.rows.now.elements in
    let A = integer_matrix e.matrix in
    let g = IsAdmissible-integer_matrix e.matrix c.requires.group in
    let numbers = c.args.numbers.now in
    let x = get_or numbers c.loop-x.x-index 0 in
    let line = pair_line e.matrix.rank (word_length A w) e.members p in
    let same : SameElement A (word_at e.members c.args.i) w = rw is (normal_form-same A g w) in
    let text = pair_text-line A g w p row e.matrix.rank e.members x (word_at e.members c.args.i) c.in-Some.polynomial same
    (c.in-Some.ensures {u = tt}).value in
    let start : c.put_count.new.out.items ≡ c.args.out.now.items ++ decimal (length numbers) = c.in_ok-put_count.ensures {u = tt} in
    let prefix = PutsPrefix-next line numbers c.loop-x.x-index x 0 _ _ _ c.loop-x-test.true refl (c.loop-x.invariant w p is row)
    (rw (c.word.ensures, c.context-in-loop-x.ensures.context, c.rank-rank.ensures.rank, c.matrix.ensures, c.context.ensures.context, text)
    at
    (c.in_err-put_next_pair.ensures {u = tt})) in
    rw pairs_text-lines (Puts-failed _ _ _ _ (search rules) (PutsPrefix-second (decimal (length numbers)) _ _ _ _ start prefix))

pub loop-x-preserved : goal.loop-x-preserved
loop-x-preserved c = λ w p is row.
    let e = c.args.rows.now.elements in
    let A = integer_matrix e.matrix in
    let g = IsAdmissible-integer_matrix e.matrix c.requires.group in
    let x = get_or c.args.numbers.now c.loop-x.x-index 0 in
    let line = pair_line e.matrix.rank (word_length A w) e.members p in
    let same : SameElement A (word_at e.members c.args.i) w = rw is (normal_form-same A g w) in
    let text = pair_text-line A g w p row e.matrix.rank e.members x (word_at e.members c.args.i) c.in-Some.polynomial same
    (c.in-Some.ensures {u = tt}).value in
    append-next line c.args.numbers.now c.loop-x.x-index x 0 _ _ _ c.loop-x-test.true refl (c.loop-x.invariant w p is row)
    (rw (c.word.ensures, c.context-in-loop-x.ensures.context, c.rank-rank.ensures.rank, c.matrix.ensures, c.context.ensures.context, text)
    at
    (c.in_ok-put_next_pair.ensures {u = tt}))

pub returns : goal.returns
returns c = λ w p is row.
    let e = c.args.rows.now.elements in
    let numbers = c.args.numbers.now in
    let line = pair_line e.matrix.rank (word_length (integer_matrix e.matrix) w) e.members p in
    let start : c.put_count.new.out.items ≡ c.args.out.now.items ++ decimal (length numbers) = c.in_ok-put_count.ensures {u = tt} in
    let whole = append-all line numbers c.loop-x.x-index _ _ (omega arith) (c.loop-x.invariant w p is row) in
    rw pairs_text-lines (append-second (decimal (length numbers)) _ _ _ _ start whole)
