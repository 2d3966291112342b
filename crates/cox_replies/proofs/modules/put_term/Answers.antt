-- The proof of `put_term`.
use Rattle.std.proofs.Common.{◌≡◌, ◌++◌, ap, subst, ◌∙◌, rules}
use Rattle.cox_base.specs.Matrix.{CoxeterMatrix}
use Rattle.cox_reflect.proofs.NormalElements.{element-word}
use Rattle.cox_poly.specs.Puts.{PutsPrefix}
use Rattle.cox_poly.proofs.Behind.{Puts-first, Puts-second}
use Rattle.cox_context.specs.Numbers.{word_at}
use Rattle.cox_context.proofs.PlacedWords.{contains-at}
use Rattle.cox_row.specs.Rising.{number_at}
use Rattle.cox_module.proofs.CellNumbers.{words-at}
use Rattle.cox_replies.specs.ModuleReply.{entry_text}
use Rattle.cox_replies.proofs.ModuleTexts.{term_head, head-same}
use Rattle.cox_replies.proofs.modules.put_term.Goals as goal

pub put_term_head-requires-clause-word : goal.put_term_head-requires-clause-word
put_term_head-requires-clause-word c =
    let members = c.args.context.now.members in
    let i = number_at c.args.cell.now c.args.term.place in
    let within = c.requires.within c.args.term.place 0 c.requires.place in
    let element = c.len.ensures.closed.element (word_at members i) (contains-at members i within) in
    rw (c.word.ensures, c.rank-rank.ensures.rank, c.matrix.ensures)
    (element-word _ c.len.ensures.admissible _ element)

pub returns-in_err-put_term_head : goal.returns-in_err-put_term_head
returns-in_err-put_term_head c =
    let members = c.args.context.now.members in
    let rank = c.args.context.now.matrix.rank in
    let cell = c.args.cell.now in
    let x = word_at members (number_at cell c.args.term.place) in
    let same : term_head c.rank-rank.result c.word.result.items ≡ term_head rank x =
    head-same _ _ _ _ (c.rank-rank.ensures.rank ∙ ap (λ (g : CoxeterMatrix). g.rank) c.matrix.ensures) c.word.ensures in
    let put : PutsPrefix (term_head c.rank-rank.result c.word.result.items) c.args.out.now.items c.put_term_head.new.out.items =
    c.in_err-put_term_head.ensures {u = tt} in
    rw (words-at members cell c.args.term.place c.requires.place)
    (Puts-first _ (term_head rank x) (entry_text c.args.term.entry) _ _ (search rules)
    (subst (λ t. PutsPrefix t c.args.out.now.items c.put_term_head.new.out.items) same put))

pub returns : goal.returns
returns c =
    let members = c.args.context.now.members in
    let rank = c.args.context.now.matrix.rank in
    let cell = c.args.cell.now in
    let x = word_at members (number_at cell c.args.term.place) in
    let same : term_head c.rank-rank.result c.word.result.items ≡ term_head rank x =
    head-same _ _ _ _ (c.rank-rank.ensures.rank ∙ ap (λ (g : CoxeterMatrix). g.rank) c.matrix.ensures) c.word.ensures in
    let put : c.put_term_head.new.out.items ≡ c.args.out.now.items ++ term_head c.rank-rank.result c.word.result.items =
    c.in_ok-put_term_head.ensures {u = tt} in
    rw (words-at members cell c.args.term.place c.requires.place)
    (Puts-second _ (term_head rank x) (entry_text c.args.term.entry) _ _ _ (put ∙ ap (λ t. c.args.out.now.items ++ t) same)
    c.put_entry.ensures)
