-- The entries so far.
use Rattle.std.proofs.Common.{◌∷◌, [], ◌++◌}
use Rattle.cox_base.specs.IntegerMatrix.{integer_matrix}
use Rattle.cox_context.specs.Numbers.{word_at}
use Rattle.cox_rowcheck.proofs.WordColumns.{AreEntries}
use Rattle.cox_rowcheck.proofs.column.next_entries.Given as goal

abbrev pub invariant-loop-i : goal.invariant-loop-i
invariant-loop-i l =
    AreEntries (integer_matrix l.ctx.matrix) l.ctx.members (word_at l.ctx.members l.at ++ l.t ∷ []) l.i l.entries
