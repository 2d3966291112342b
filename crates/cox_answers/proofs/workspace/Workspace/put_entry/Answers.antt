-- The proof of `put_entry`.
use Rattle.cox_base.specs.IntegerMatrix.{integer_matrix}
use Rattle.cox_answers.specs.Kept.{HoldsRow}
use Rattle.cox_replies.proofs.Unless.{PutsUnless-put}
use Rattle.cox_answers.proofs.workspace.Workspace.put_entry.Goals as goal

pub returns : goal.returns
returns c =
    let A = integer_matrix c.args.self.now.table in
    let w = c.args.w.now.items in
    let told = c.number_found-i.ensures in
    let holds : HoldsRow A w c.number_found-i.result c.rows.result.now = rw c.rows.ensures.rows at told.0 in
    let some = rw c.table.ensures at c.put_entry_of.ensures in
    rw c.unrefused.ensures (PutsUnless-put _ _ _ _ _ told.1 (some w holds.word))
