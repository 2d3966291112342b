-- The element of the letters that were taken is a member.
use Rattle.std.proofs.Common.{◌<◌, length}
use Rattle.cox_context.proofs.context.Context.letters_left.Given as goal

abbrev pub invariant-loop-done : goal.invariant-loop-done
invariant-loop-done l = l.at < length l.self.members
