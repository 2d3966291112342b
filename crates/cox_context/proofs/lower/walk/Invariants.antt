-- The members that the walk has come to, down and then up.
use Rattle.std.proofs.Common.{◌≡◌, ◌+◌, ◌-◌, ◌≤◌, ◌∷◌, length}
use Rattle.cox_base.specs.IntegerMatrix.{integer_matrix}
use Rattle.cox_base.specs.Descents.{IsLeftDescent}
use Rattle.cox_context.specs.Numbers.{word_at}
use Rattle.cox_context.proofs.LowerWalks.{IsStep}
use Rattle.cox_context.proofs.lower.walk.Given as goal

abbrev pub invariant-down : goal.invariant-down
invariant-down l = record {
  step : IsStep (integer_matrix l.shifts.matrix) l.shifts.members l.s l.t l.i (l._down - 1) l.at l.letter l.other;
  size : length (word_at l.shifts.members l.at) + (l._down - 1) ≡ length (word_at l.shifts.members l.i);
}

abbrev pub invariant-up : goal.invariant-up
invariant-up l = record {
  step : IsStep (integer_matrix l.shifts.matrix) l.shifts.members l.s l.t l.i (l.order - 1 + (l._up - 1)) l.at l.letter l.other;
  short : length (word_at l.shifts.members l.at) + (l.order - l._up) ≤ length (word_at l.shifts.members l.i);
  descent : IsLeftDescent (integer_matrix l.shifts.matrix) (l.s ∷ word_at l.shifts.members l.i) l.t;
}
