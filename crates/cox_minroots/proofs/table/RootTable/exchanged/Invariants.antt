-- The walk so far.
use Rattle.cox_base.specs.IntegerMatrix.{integer_matrix}
use Rattle.cox_minroots.proofs.TableWalks.{IsWalk}
use Rattle.cox_minroots.proofs.table.RootTable.exchanged.Given as goal

abbrev pub invariant-loop-done : goal.invariant-loop-done
invariant-loop-done l = IsWalk (integer_matrix l.fn.self) l.moves l.letters l.fn.s l.done l.root
