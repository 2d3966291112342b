-- The places before this one are done.
use Rattle.std.proofs.Common.{◌≡◌, ◌≤◌, ◌+◌, drop, slice_index, length}
use Rattle.cox_base.specs.IntegerMatrix.{integer_matrix}
use Rattle.cox_context.specs.Spread.{listed_words, AreMarked, IsSpreading, AreAppended}
use Rattle.cox_context.proofs.appending.step.Given as goal

abbrev pub invariant-loop-place : goal.invariant-loop-place
invariant-loop-place l = record {
  matrix : l.context.matrix ≡ l.initial.context.matrix;
  appended : AreAppended (integer_matrix l.initial.context.matrix) (drop l.at l.top.items) l.initial.context.members l.context.members;
  few : length l.context.members ≤ l.limit;
  marked : AreMarked l.context.members l.found.marks.items l.found.numbers.items;
  found : IsSpreading (integer_matrix l.initial.context.matrix) (slice_index l.top.items l.at) (drop (l.at + 1) l.top.items)
      (length l.initial.found.numbers.items) l.place (listed_words l.context.members l.found.numbers.items);
}
