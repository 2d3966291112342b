-- One more place: it has a term, or none.
use Rattle.std.proofs.Common.{◌≡◌, suc, ◌+◌, arith}
use Rattle.cox_base.specs.IntegerMatrix.{integer_matrix}
use Rattle.cox_context.specs.Numbers.{word_at}
use Rattle.cox_module.specs.NumberedImages.{cell_words}
use Rattle.cox_module.proofs.CellNumbers.{words-at}
use Rattle.cox_module.proofs.TermsByPlace.{terms-passed, terms-added}
use Rattle.cox_module.proofs.image.put_term.Goals as goal

pub returns-in_ok-push-in-Some : goal.returns-in_ok-push-in-Some
returns-in_ok-push-in-Some c =
    let g = c.args.graph.now in
    let cell = c.args.cell.now in
    let words = cell_words g.members cell in
    let next : c.args.p + 1 ≡ suc c.args.p = omega arith in
    rw ((c.in_ok-push-in-Some.ensures {u = tt}).items, next)
    (terms-added (integer_matrix g.matrix) words c.args.s (word_at words c.args.k) c.args.p c.args.image.now.items c.requires.terms
    c.in-Some.entry
    (rw (words-at g.members cell c.args.k c.requires.place, words-at g.members cell c.args.p c.requires.next) (c.in-Some.ensures {u = tt})))

pub returns-in-None : goal.returns-in-None
returns-in-None c =
    let g = c.args.graph.now in
    let cell = c.args.cell.now in
    let words = cell_words g.members cell in
    let next : c.args.p + 1 ≡ suc c.args.p = omega arith in
    rw next
    (terms-passed (integer_matrix g.matrix) words c.args.s (word_at words c.args.k) c.args.p c.args.image.now.items c.requires.terms
    (rw (words-at g.members cell c.args.k c.requires.place, words-at g.members cell c.args.p c.requires.next) (c.in-None.ensures {u = tt})))
