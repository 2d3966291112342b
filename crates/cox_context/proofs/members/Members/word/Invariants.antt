-- The word so far, and what is left of it.
use Rattle.std.proofs.Common.{◌≡◌, ◌<◌, ◌++◌, length}
use Rattle.cox_context.specs.Numbers.{word_at}
use Rattle.cox_context.proofs.members.Members.word.Given as goal

abbrev pub invariant-loop-at : goal.invariant-loop-at
invariant-loop-at l = record {
  within : l.at < length l.self;
  word : l.word.items ++ word_at l.self l.at ≡ word_at l.self l.i;
}

abbrev pub decreases-loop-at : goal.decreases-loop-at
decreases-loop-at l = l.at
