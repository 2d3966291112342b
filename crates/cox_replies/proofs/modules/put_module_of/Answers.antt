-- The proof of `put_module_of`.
use Rattle.std.proofs.Common.{length, refl, rules}
use Rattle.cox_base.specs.IntegerMatrix.{integer_matrix}
use Rattle.cox_base.specs.ShortLex.{normal_form}
use Rattle.cox_reflect.proofs.NormalElements.{element-normal_form}
use Rattle.cox_poly.proofs.Behind.{Puts-failed}
use Rattle.cox_context.specs.Numbers.{word_at}
use Rattle.cox_context.proofs.PlacedWords.{contains-at}
use Rattle.cox_cells.specs.declared.kind.CellKind.TheVariants.{Left}
use Rattle.cox_replies.proofs.CellLists.{listed, list-cell, list-within, list-rising}
use Rattle.cox_replies.proofs.ModuleQuestions.{some_module}
use Rattle.cox_replies.proofs.Unless.{PutsPrefix-none}
use Rattle.cox_replies.proofs.modules.put_module_of.Goals as goal

pub unreachable-requires : goal.unreachable-requires
unreachable-requires c =
    let A = integer_matrix c.args.rows.now.elements.matrix in
    let none = rw (c.context-context.ensures.context, c.requires.matrix) at (c.in_default.ensures {u = tt}) in
    none (c.requires.whole.whole (normal_form A c.args.w.now.items)
    (element-normal_form A c.context-context.ensures.admissible c.args.w.now.items))

pub returns-in_err-cells : goal.returns-in_err-cells
returns-in_err-cells c =
    let e = c.args.rows.now.elements in
    let some = some_module (integer_matrix e.matrix) c.context-context.ensures.admissible c.args.w.now.items e.members
    c.requires.whole in
    (some.0, some.1, Puts-failed _ _ _ _ (search rules) (PutsPrefix-none _ _ _ refl))

pub list_with-cell-requires : goal.list_with-cell-requires
list_with-cell-requires c =
    let e = c.args.rows.now.elements in
    let A = integer_matrix e.matrix in
    let same = c.context-context.ensures.context in
    let within = rw same at (c.in_ok-cells.ensures {u = tt}).within in
    let are = (rw same at (c.in_ok-cells.ensures {u = tt}).cells) c.requires.whole in
    let number = rw same at (c.in-Some.ensures {u = tt}) in
    rw c.deref.ensures.value
    (listed e.members c.in_ok-cells.cells.items Left A are c.requires.whole.rising within c.in-Some.i number.0
    (c.requires.whole.sound (word_at e.members c.in-Some.i) (contains-at e.members c.in-Some.i number.0)))

pub put_cell_of-requires-clause-rising : goal.put_cell_of-requires-clause-rising
put_cell_of-requires-clause-rising c =
    let e = c.args.rows.now.elements in
    let A = integer_matrix e.matrix in
    let same = c.context-context.ensures.context in
    let cells = c.in_ok-cells.cells.items in
    let within = rw same at (c.in_ok-cells.ensures {u = tt}).within in
    let are = (rw same at (c.in_ok-cells.ensures {u = tt}).cells) c.requires.whole in
    let p = rw c.deref.ensures.value at c.list_with-cell.ensures in
    rw p.2 (list-rising e.members cells Left A are c.requires.whole.rising p.0 p.1
    (list-within e.members cells (length e.members) within p.0 p.1))

pub put_cell_of-requires-clause-within : goal.put_cell_of-requires-clause-within
put_cell_of-requires-clause-within c =
    let e = c.args.rows.now.elements in
    let within = rw c.context-context.ensures.context at (c.in_ok-cells.ensures {u = tt}).within in
    let p = rw c.deref.ensures.value at c.list_with-cell.ensures in
    rw p.2 (list-within e.members c.in_ok-cells.cells.items (length e.members) within p.0 p.1)

pub returns : goal.returns
returns c =
    let e = c.args.rows.now.elements in
    let A = integer_matrix e.matrix in
    let same = c.context-context.ensures.context in
    let are = (rw same at (c.in_ok-cells.ensures {u = tt}).cells) c.requires.whole in
    let number = rw (same, c.requires.matrix) at (c.in-Some.ensures {u = tt}) in
    let p = rw c.deref.ensures.value at c.list_with-cell.ensures in
    c.put_cell_of.ensures c.args.w.now.items
    (rw p.2 (rw number.1 at (list-cell e.members c.in_ok-cells.cells.items Left A are c.requires.whole.rising p.0 p.1 c.in-Some.i
    (rw p.2 at p.3))))
