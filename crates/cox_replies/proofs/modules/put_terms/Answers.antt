-- The proof of `put_terms`.
use Rattle.std.proofs.Common.{refl, arith, rules}
use Rattle.cox_poly.proofs.Behind.{PutsPrefix-next, Puts-failed, append-all}
use Rattle.cox_module.specs.declared.term.Entry.TheVariants.{Minus}
use Rattle.cox_module.specs.Images.{term, term_at}
use Rattle.cox_module.specs.NumberedImages.{cell_words}
use Rattle.cox_replies.specs.ModuleReply.{image_term_text}
use Rattle.cox_replies.proofs.modules.put_terms.Goals as goal

pub put_term-requires-clause-place : goal.put_term-requires-clause-place
put_term-requires-clause-place c = c.requires.terms c.loop-term.term-index (term 0 Minus) c.loop-term-test.true

pub returns-in_err-put_term : goal.returns-in_err-put_term
returns-in_err-put_term c =
    let text = image_term_text c.args.context.now.matrix.rank (cell_words c.args.context.now.members c.args.cell.now) in
    Puts-failed _ _ _ _ (search rules) (PutsPrefix-next text c.args.image.now c.loop-term.term-index
    (term_at c.args.image.now c.loop-term.term-index) (term 0 Minus) _ _ _ c.loop-term-test.true refl c.loop-term.invariant
    (c.in_err-put_term.ensures {u = tt}))

pub returns : goal.returns
returns c =
    let text = image_term_text c.args.context.now.matrix.rank (cell_words c.args.context.now.members c.args.cell.now) in
    append-all text c.args.image.now c.loop-term.term-index _ _ (omega arith) c.loop-term.invariant
