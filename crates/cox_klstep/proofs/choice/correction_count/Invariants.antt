-- The corrections so far, and that they are fewer than the bound.
use Rattle.std.proofs.Common.{◌<◌}
use Rattle.cox_base.specs.IntegerMatrix.{integer_matrix}
use Rattle.cox_context.specs.Numbers.{word_at}
use Rattle.cox_klstep.proofs.CountedCorrections.{AreCounted}
use Rattle.cox_klstep.proofs.choice.correction_count.Given as goal

abbrev pub invariant-loop-u : goal.invariant-loop-u
invariant-loop-u l = record {
  counted : AreCounted l.side (integer_matrix l.ctx.matrix) l.ctx.members l.descent.letter (word_at l.ctx.members l.descent.member)
      l.u-items l.u-index l.count;
  fewer : l.count < l.bound;
}
