-- The roots that were found are all small roots, and the moves are those of the table.
use Rattle.std.proofs.Common.{arith}
use Rattle.cox_base.specs.IntegerMatrix.{integer_matrix}
use Rattle.cox_reflect.proofs.Admissible.{IsAdmissible-integer_matrix}
use Rattle.cox_minroots.proofs.SmallRootLists.{at-most}
use Rattle.cox_minroots.proofs.RootTables.{root-table}
use Rattle.cox_minroots.proofs.table.RootTable.build.Goals as goal

pub invariant_of-result : goal.invariant_of-result
invariant_of-result c =
    rw c.copy.ensures
    (root-table (integer_matrix c.args.g.now) (IsAdmissible-integer_matrix c.args.g.now c.rank-rank.ensures.matrix) c.in_ok-roots.roots
    c.len.result
    c.in-Ok.moves.items c.in_ok-roots.ensures.closed c.len.ensures (omega (arith, c.in_ok-roots.ensures.few, c.requires.limit))
    c.in-Ok.ensures.size
    c.in-Ok.ensures.moves)

pub returns-clause-few : goal.returns-clause-few
returns-clause-few c =
    at-most (integer_matrix c.args.g.now) (IsAdmissible-integer_matrix c.args.g.now c.rank-rank.ensures.matrix) c.in_ok-roots.roots
    c.in_ok-roots.ensures.closed c.args.max c.in_ok-roots.ensures.few
