-- The proof of `mu_at`.
use Rattle.std.proofs.Common.{FitsSigned, rules, w32}
use Rattle.std.proofs.lemmas.Int.{to_z-of_z}
use Rattle.cox_base.specs.IntegerMatrix.{integer_matrix}
use Rattle.cox_replies.proofs.RowTexts.{mu-none, mu-member, outside-below}
use Rattle.cox_replies.proofs.rows.mu_at.Goals as goal

pub returns-in-Some : goal.returns-in-Some
returns-in-Some c =
    let A = integer_matrix c.args.rows.now.elements.matrix in
    let members = c.args.rows.now.elements.members in
    let fits : FitsSigned w32 c.mu.result = search rules in
    let found = rw (c.context.ensures.context, c.requires.table) at (c.in-Some.ensures {u = tt}) in
    rw (to_z-of_z w32 c.mu.result fits, c.requires.table)
    (mu-member A c.context.ensures.admissible members c.context.ensures.closed c.args.y.now.items c.in-Some.x c.args.i c.mu.result found.1
    c.mu.ensures)

pub returns-in-None : goal.returns-in-None
returns-in-None c =
    let A = integer_matrix c.args.rows.now.elements.matrix in
    let members = c.args.rows.now.elements.members in
    let outside = rw (c.context.ensures.context, c.requires.table) at (c.in-None.ensures {u = tt}) in
    rw c.requires.table (mu-none A c.context.ensures.admissible c.args.y.now.items _
    (outside-below A c.context.ensures.admissible members c.context.ensures.closed c.args.y.now.items c.args.i c.requires.member outside))
