-- The member whose word is the end of the word.
use Rattle.std.proofs.Common.{◌≡◌, ◌<◌, ◌-◌, length, drop}
use Rattle.cox_context.specs.Numbers.{word_at}
use Rattle.cox_context.proofs.context.Context.number.Given as goal

abbrev pub invariant-loop-done : goal.invariant-loop-done
invariant-loop-done l = record {
  inside : l.at < length l.self.members;
  word : word_at l.self.members l.at ≡ drop (length l.letters - l.done) l.letters;
}
