-- The proof of `put_work`.
use Rattle.std.proofs.Common.{◌++◌, List, ℕ, codes, rules}
use Rattle.cox_poly.proofs.Behind.{PutsPrefix-first, PutsPrefix-second, append-second}
use Rattle.cox_print.specs.AnswerText.{count_text}
use Rattle.cox_print.proofs.ThreeTexts.{Puts-first_of_three, Puts-second_of_three, Puts-third_of_three}
use Rattle.cox_print.proofs.line.put_work.Goals as goal

abbrev words_text : ℕ → List ℕ
words_text n = count_text (codes "words") n

abbrev entries_text : ℕ → List ℕ
entries_text n = count_text (codes " entries") n

abbrev degree_text : ℕ → List ℕ
degree_text n = count_text (codes " degree") n

abbrev sum_text : ℕ → List ℕ
sum_text n = count_text (codes " sum") n

pub returns-in_err-put_named_count : goal.returns-in_err-put_named_count
returns-in_err-put_named_count c =
    let words = words_text c.args.words in
    let entries = entries_text c.args.entries in
    Puts-first_of_three _ (words ++ entries) (degree_text c.args.degree) (sum_text c.args.sum) _ _ (search rules)
    (PutsPrefix-first words entries _ _ c.in_err-put_named_count.ensures)

pub returns-in_err-put_named_count-2 : goal.returns-in_err-put_named_count-2
returns-in_err-put_named_count-2 c =
    let words = words_text c.args.words in
    let entries = entries_text c.args.entries in
    Puts-first_of_three _ (words ++ entries) (degree_text c.args.degree) (sum_text c.args.sum) _ _ (search rules)
    (PutsPrefix-second words entries _ _ _ c.in_ok-put_named_count.ensures c.in_err-put_named_count-2.ensures)

pub returns-in_err-put_named_count-3 : goal.returns-in_err-put_named_count-3
returns-in_err-put_named_count-3 c =
    let words = words_text c.args.words in
    let entries = entries_text c.args.entries in
    let front = append-second words entries _ _ _ c.in_ok-put_named_count.ensures c.in_ok-put_named_count-2.ensures in
    Puts-second_of_three _ (words ++ entries) (degree_text c.args.degree) (sum_text c.args.sum) _ _ _ front (search rules)
    (search (rules, c.in_err-put_named_count-3.ensures {u = tt}))

pub returns : goal.returns
returns c =
    let words = words_text c.args.words in
    let entries = entries_text c.args.entries in
    let front = append-second words entries _ _ _ c.in_ok-put_named_count.ensures c.in_ok-put_named_count-2.ensures in
    Puts-third_of_three _ (words ++ entries) (degree_text c.args.degree) (sum_text c.args.sum) _ _ _ _ front
    (search (rules, c.in_ok-put_named_count-3.ensures {u = tt})) c.put_named_count-4.ensures
