-- The elements below the letters that were taken are there.
use Rattle.std.proofs.Common.{◌≡◌, ◌≤◌, ◌-◌, drop, length}
use Rattle.cox_base.specs.IntegerMatrix.{integer_matrix}
use Rattle.cox_context.specs.Spread.{listed_words, AreMarked, AreFound, AreAppended}
use Rattle.cox_context.proofs.appending.append_by_lists.Given as goal

abbrev pub invariant-loop-done : goal.invariant-loop-done
invariant-loop-done l = record {
  matrix : l.context.matrix ≡ l.initial.context.matrix;
  appended : AreAppended (integer_matrix l.initial.context.matrix)
      (drop (length l.top.items - l.done) l.top.items) l.initial.context.members
      l.context.members;
  few : length l.context.members ≤ l.limit;
  marked : AreMarked l.context.members l.found.marks.items l.found.numbers.items;
  found : AreFound (integer_matrix l.initial.context.matrix) (drop (length l.top.items - l.done) l.top.items)
      (listed_words l.context.members l.found.numbers.items);
}
