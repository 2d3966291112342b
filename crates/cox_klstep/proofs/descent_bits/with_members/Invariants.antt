-- The bits of the members so far, and those before them.
use Rattle.std.proofs.Common.{◌≡◌, ℕ, ◌%◌, ◌<◌, ◌≤◌, ◌↔◌}
use Rattle.std.specs.Int.{bit_at}
use Rattle.cox_base.specs.IntegerMatrix.{integer_matrix}
use Rattle.cox_base.specs.SideDescents.{IsDescent}
use Rattle.cox_context.specs.Numbers.{word_at}
use Rattle.cox_klstep.proofs.descent_bits.with_members.Given as goal

abbrev pub invariant-loop-x : goal.invariant-loop-x
invariant-loop-x l = record {
  before : (j : ℕ) → j < l.from % 64 → bit_at l.word j ≡ bit_at l.initial.word j;
  members : (y : ℕ) → l.from ≤ y → y < l.x
      → (bit_at l.word (y % 64) ≡ 1) ↔ IsDescent l.side (integer_matrix l.ctx.matrix) (word_at l.ctx.members y) l.s;
}
