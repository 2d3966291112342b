-- What is left of the two words, behind the letters that they begin with alike.
use Rattle.std.proofs.Common.{◌≡◌, ◌<◌, length, nat_cmp}
use Rattle.std.specs.Cmp.Lexicographic.{slice_cmp}
use Rattle.cox_context.specs.Numbers.{word_at}
use Rattle.cox_replies.proofs.order.compare_letters.Given as goal

abbrev pub invariant-loop-left : goal.invariant-loop-left
invariant-loop-left l = record {
  left : l.left < length l.context.members;
  right : l.right < length l.context.members;
  size : length (word_at l.context.members l.left) ≡ length (word_at l.context.members l.right);
  order : slice_cmp nat_cmp (word_at l.context.members l.i) (word_at l.context.members l.j)
      ≡ slice_cmp nat_cmp (word_at l.context.members l.left) (word_at l.context.members l.right);
}

abbrev pub decreases-loop-left : goal.decreases-loop-left
decreases-loop-left l = length (word_at l.context.members l.left)
