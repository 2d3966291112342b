-- What the loop of `work_word` keeps.
use Rattle.std.proofs.Common.{◌≡◌, ◌≤◌, length}
use Rattle.cox_base.specs.Matrix.{IsWord}
use Rattle.cox_command.specs.Generated.{state_after}
use Rattle.cox_command.proofs.GeneratedWords.{step_letters}
use Rattle.cox_command.specs.declared.limits.TheConstants.{MAX_START}
use Rattle.cox_command.proofs.generated.work_word.Given as goal

abbrev pub invariant-loop : goal.invariant-loop
invariant-loop l = record {
  letters : l.word.items ≡ step_letters l.rank l.counter l.g;
  size : length l.word.items ≡ l.counter;
  is_word : IsWord l.rank l.word.items;
  state_is : l.state ≡ state_after l.counter l.g;
  most : l.state ≤ MAX_START;
}
