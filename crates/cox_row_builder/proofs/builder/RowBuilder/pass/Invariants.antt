-- The values of mu are noted up to some member, from which on the next shift is the least.
use Rattle.std.proofs.Common.{◌≡◌, ◌-◌, ℤ}
use Rattle.cox_row_builder.proofs.Shifts.{IsPassed}
use Rattle.cox_row_builder.proofs.builder.RowBuilder.pass.Given as goal

abbrev pub invariant-loop-self : goal.invariant-loop-self
invariant-loop-self l = record {
  values : l.self.values ≡ l.initial.self.values;
  large : l.self.large ≡ l.initial.self.large;
  done : l.self.done ≡ l.initial.self.done;
  passed : (limit : ℤ) → IsPassed l.ctx l.i l.end limit l.initial.self l.self;
}

abbrev pub decreases-loop-self : goal.decreases-loop-self
decreases-loop-self l = l.end - l.self.next
