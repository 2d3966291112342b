-- The table has each small root once.
use Rattle.cox_base.specs.IntegerMatrix.{integer_matrix}
use Rattle.cox_minroots.proofs.RootTables.{not-more, not-fewer}
use Rattle.cox_minroots.proofs.table.RootTable.len.Goals as goal

pub returns-clause-not_more : goal.returns-clause-not_more
returns-clause-not_more c =
    rw (← c.self.view_is) (not-more (integer_matrix c.self.inside.group) c.self.inside.count c.self.inside.moves.items c.self.invariant)

pub returns-clause-not_fewer : goal.returns-clause-not_fewer
returns-clause-not_fewer c =
    rw (← c.self.view_is) (not-fewer (integer_matrix c.self.inside.group) c.self.inside.count c.self.inside.moves.items c.self.invariant)
