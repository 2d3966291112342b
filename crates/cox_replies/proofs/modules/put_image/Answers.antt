-- The proof of `put_image`.
use Rattle.std.proofs.Common.{◌∷◌, ◌++◌, [], codes, decimal, rules}
use Rattle.std.specs.List.{flat_map}
use Rattle.cox_reflect.proofs.NormalElements.{element-word}
use Rattle.cox_poly.proofs.Behind.{Puts-first, Puts-second}
use Rattle.cox_context.specs.Numbers.{word_at}
use Rattle.cox_context.proofs.PlacedWords.{contains-at}
use Rattle.cox_row.specs.Rising.{number_at}
use Rattle.cox_print.specs.AnswerText.{element_text}
use Rattle.cox_module.specs.NumberedImages.{cell_words}
use Rattle.cox_module.proofs.CellNumbers.{words-at}
use Rattle.cox_replies.specs.ModuleReply.{image_term_text, image_text}
use Rattle.cox_replies.proofs.modules.put_image.Goals as goal

pub returns-in_err-put_end : goal.returns-in_err-put_end
returns-in_err-put_end c =
    let words = cell_words c.args.context.now.members c.args.cell.now in
    Puts-first _ (10 ∷ []) (image_text c.args.context.now.matrix.rank words c.args.s (word_at words c.args.k) c.args.image.now) _ _
    (search rules) (c.in_err-put_end.ensures {u = tt})

pub put_image_head-requires-clause-word : goal.put_image_head-requires-clause-word
put_image_head-requires-clause-word c =
    let members = c.args.context.now.members in
    let i = number_at c.args.cell.now c.args.k in
    let within = c.requires.within c.args.k 0 c.requires.place in
    let element = c.len.ensures.closed.element (word_at members i) (contains-at members i within) in
    rw (c.word.ensures, c.rank-rank.ensures.rank, c.matrix.ensures)
    (element-word _ c.len.ensures.admissible _ element)

pub returns-in_err-put_image_head : goal.returns-in_err-put_image_head
returns-in_err-put_image_head c =
    let members = c.args.context.now.members in
    let rank = c.args.context.now.matrix.rank in
    let cell = c.args.cell.now in
    let x = word_at members (number_at cell c.args.k) in
    let head = decimal c.args.s ++ (codes " " ++ element_text rank x) ++ codes ":" in
    let rest = flat_map (image_term_text rank (cell_words members cell)) c.args.image.now in
    rw (words-at members cell c.args.k c.requires.place)
    (Puts-second _ (10 ∷ []) (head ++ rest) _ _ _ (c.in_ok-put_end.ensures {u = tt})
    (Puts-first _ head rest _ _ (search rules)
    (rw (c.word.ensures, c.rank-rank.ensures.rank, c.matrix.ensures) at (c.in_err-put_image_head.ensures {u = tt}))))

pub returns : goal.returns
returns c =
    let members = c.args.context.now.members in
    let rank = c.args.context.now.matrix.rank in
    let cell = c.args.cell.now in
    let x = word_at members (number_at cell c.args.k) in
    let head = decimal c.args.s ++ (codes " " ++ element_text rank x) ++ codes ":" in
    let rest = flat_map (image_term_text rank (cell_words members cell)) c.args.image.now in
    rw (words-at members cell c.args.k c.requires.place)
    (Puts-second _ (10 ∷ []) (head ++ rest) _ _ _ (c.in_ok-put_end.ensures {u = tt})
    (Puts-second _ head rest _ _ _
    (rw (c.word.ensures, c.rank-rank.ensures.rank, c.matrix.ensures) at (c.in_ok-put_image_head.ensures {u = tt}))
    c.put_terms.ensures))
