-- The member at hand stands for x, and its number rises.
use Rattle.std.proofs.Common.{◌+◌, ◌-◌, ◌<◌, length}
use Rattle.cox_base.specs.IntegerMatrix.{integer_matrix}
use Rattle.cox_context.specs.Numbers.{word_at}
use Rattle.cox_row.specs.Raised.{StandsFor}
use Rattle.cox_row.proofs.raised.raise_by.Given as goal

abbrev pub invariant-loop-at : goal.invariant-loop-at
invariant-loop-at l = record {
  within : l.at < length l.ctx.members;
  stands : StandsFor (integer_matrix l.ctx.matrix) (word_at l.ctx.members l.i) (word_at l.ctx.members l.x) (word_at l.ctx.members l.at);
}

abbrev pub decreases-loop-at : goal.decreases-loop-at
decreases-loop-at l = l.i + 1 - l.at
