-- The member that the letters so far lead to.
use Rattle.std.proofs.Common.{◌≡◌, ◌<◌, length, take}
use Rattle.cox_base.specs.IntegerMatrix.{integer_matrix}
use Rattle.cox_base.specs.ShortLex.{normal_form}
use Rattle.cox_context.specs.Numbers.{word_at}
use Rattle.cox_context.proofs.context.Context.look_up.Given as goal

abbrev pub invariant-loop-s : goal.invariant-loop-s
invariant-loop-s l = record {
  inside : l.at < length l.self.members;
  word : word_at l.self.members l.at ≡ normal_form (integer_matrix l.self.matrix) (take l.s-index l.letters);
}
