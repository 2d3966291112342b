-- What is left of x is below the rest of the word of y exactly where x is below y.
use Rattle.std.proofs.Common.{◌<◌, length}
use Rattle.cox_base.specs.IntegerMatrix.{integer_matrix}
use Rattle.cox_context.specs.Numbers.{word_at}
use Rattle.cox_context.proofs.OrderOfMembers.{IsSettled}
use Rattle.cox_context.proofs.context.Context.below.Given as goal

abbrev pub invariant-loop-upper : goal.invariant-loop-upper
invariant-loop-upper l = record {
  inside : l.upper < length l.self.members;
  settled : IsSettled (integer_matrix l.self.matrix) l.self.members (word_at l.self.members l.i) (word_at l.self.members l.j)
      (word_at l.self.members l.upper) l.rest;
}

abbrev pub decreases-loop-upper : goal.decreases-loop-upper
decreases-loop-upper l = l.upper
