-- The proof of `ends_of`.
use Rattle.std.proofs.Common.{Contains}
use Rattle.cox_base.specs.IntegerMatrix.{integer_matrix}
use Rattle.cox_base.specs.Admissible.{IsAdmissible}
use Rattle.cox_base.specs.ShortLex.{normal_form}
use Rattle.cox_context.specs.Closed.{IsClosed}
use Rattle.cox_answers.specs.Kept.{HoldsElement}
use Rattle.cox_answers.proofs.KeptMembers.{below-contained, number-contains}
use Rattle.cox_answers.proofs.workspace.Workspace.ends_of.Goals as goal

pub unreachable-requires : goal.unreachable-requires
unreachable-requires c =
    let A = integer_matrix c.args.self.now.table in
    let members = c.rows.result.now.elements.members in
    let y = c.args.y.now.items in
    let w = c.args.w.now.items in
    let closed : IsClosed A members = rw c.rows.ensures.of.group at c.context.ensures.closed in
    let admissible : IsAdmissible A = rw c.rows.ensures.of.group at c.context.ensures.admissible in
    let number : HoldsElement A w c.args.high c.rows.result.now = rw c.rows.ensures.rows at c.requires.high in
    let contained : Contains members (normal_form A y) = below-contained A admissible members closed w
    (number-contains members (normal_form A w) c.args.high number) y c.requires.below in
    c.in-None.ensures {u = tt} (rw (c.context.ensures.context, c.table.ensures) contained)

pub returns : goal.returns
returns c =
    let A = integer_matrix c.args.self.now.table in
    let y = c.args.y.now.items in
    let w = c.args.w.now.items in
    let low : HoldsElement A y c.in-Some.low c.rows.result.now
    = rw (c.context.ensures.context, c.table.ensures) at (c.in-Some.ensures {u = tt}) in
    let high : HoldsElement A w c.args.high c.rows.result.now = rw c.rows.ensures.rows at c.requires.high in
    rw c.rows.ensures.rows (record { low = low; high = high })
