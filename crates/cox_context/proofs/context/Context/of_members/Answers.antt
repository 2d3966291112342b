-- The tables are those of the members, and no narrow table is kept.
use Rattle.std.proofs.Common.{arith}
use Rattle.cox_context.proofs.context.Context.of_members.Goals as goal

pub invariant_of-result : goal.invariant_of-result
invariant_of-result c = record {
  closed = c.requires.closed;
  left_shifts = c.requires.left;
  tables = c.in-Ok.ensures;
  left_narrow = λ k l. absurd (omega (arith, l));
  right_narrow = λ k l. absurd (omega (arith, l));
}
