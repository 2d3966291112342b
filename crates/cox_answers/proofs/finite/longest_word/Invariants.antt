-- What the loop of `longest_word` keeps: so many letters of the group.
use Rattle.std.proofs.Common.{◌≡◌, length}
use Rattle.cox_base.specs.Matrix.{IsWord}
use Rattle.cox_answers.proofs.finite.longest_word.Given as goal

abbrev pub invariant-loop : goal.invariant-loop
invariant-loop l = record {
  letters : IsWord l.table.rank l.word.items;
  count : length l.word.items ≡ l.counter;
}
