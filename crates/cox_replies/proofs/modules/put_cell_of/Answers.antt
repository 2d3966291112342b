-- The proof of `put_cell_of`.
use Rattle.std.proofs.Common.{length, refl, arith, rules}
use Rattle.cox_base.specs.IntegerMatrix.{integer_matrix}
use Rattle.cox_base.specs.ShortLex.{letters}
use Rattle.cox_poly.proofs.Behind.{Puts-failed}
use Rattle.cox_row.proofs.RisingNumbers.{rising-few}
use Rattle.cox_module.specs.NumberedImages.{cell_words, image_in}
use Rattle.cox_replies.specs.ModuleReply.{module_text}
use Rattle.cox_replies.proofs.ModuleQuestions.{module-of_cell}
use Rattle.cox_replies.proofs.Unless.{PutsPrefix-none}
use Rattle.cox_replies.proofs.modules.put_cell_of.Goals as goal

pub returns-in_err-graph : goal.returns-in_err-graph
returns-in_err-graph c = λ w is.
    let e = c.args.rows.now.elements in
    let some = module-of_cell (integer_matrix e.matrix) c.context-context.ensures.admissible w
    (cell_words e.members c.args.cell.now) is in
    (some.0, some.1, Puts-failed _ _ _ _ (search rules) (PutsPrefix-none _ _ _ refl))

pub returns-in_err-action : goal.returns-in_err-action
returns-in_err-action c = λ w is.
    let e = c.args.rows.now.elements in
    let some = module-of_cell (integer_matrix e.matrix) c.context-context.ensures.admissible w
    (cell_words e.members c.args.cell.now) is in
    (some.0, some.1, Puts-failed _ _ _ _ (search rules) (PutsPrefix-none _ _ _ refl))

pub put_cell_module-requires-clause-few : goal.put_cell_module-requires-clause-few
put_cell_module-requires-clause-few c =
    let few = rising-few (length c.args.rows.now.elements.members) c.args.cell.now c.requires.rising c.requires.within in
    omega (arith, few, c.context-context.ensures.closed.few)

pub put_cell_module-requires-clause-images : goal.put_cell_module-requires-clause-images
put_cell_module-requires-clause-images c = rw (c.in_ok-graph.ensures {u = tt}) at (c.in_ok-action.ensures {u = tt}).images

pub returns : goal.returns
returns c = λ w is.
    let e = c.args.rows.now.elements in
    let words = cell_words e.members c.args.cell.now in
    let images = image_in c.in_ok-action.action in
    let are = rw (c.in_ok-graph.ensures {u = tt}, c.context-context.ensures.context) at (c.in_ok-action.ensures {u = tt}).images in (
      module_text e.matrix.rank words images (letters e.matrix.rank),
      (words, is, images, are, refl),
      rw c.context-context.ensures.context at c.put_cell_module.ensures,
    )
