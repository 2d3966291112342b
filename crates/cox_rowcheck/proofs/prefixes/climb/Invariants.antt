-- The columns of the prefixes so far.
use Rattle.std.proofs.Common.{◌≡◌, ◌+◌, length}
use Rattle.cox_base.specs.IntegerMatrix.{integer_matrix}
use Rattle.cox_rowcheck.specs.Prefixes.{ArePrefixes}
use Rattle.cox_rowcheck.proofs.prefixes.climb.Given as goal

abbrev pub invariant-loop-i : goal.invariant-loop-i
invariant-loop-i l = record {
  prefixes : ArePrefixes (integer_matrix l.ctx.matrix) l.ctx.members l.word.items l.stack.items;
  count : length l.stack.items ≡ l.i + 1;
}
