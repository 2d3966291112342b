-- The numbers of the extremal members below w so far.
use Rattle.cox_base.specs.IntegerMatrix.{integer_matrix}
use Rattle.cox_context.specs.Numbers.{word_at}
use Rattle.cox_row.proofs.ListedExtremals.{AreExtremalTo}
use Rattle.cox_row.proofs.look_up.extremal_members.Given as goal

abbrev pub invariant-loop-x : goal.invariant-loop-x
invariant-loop-x l =
    AreExtremalTo (integer_matrix l.ctx.matrix) l.ctx.members (word_at l.ctx.members l.i) l.x l.numbers.items
