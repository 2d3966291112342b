-- The member is that of the step.
use Rattle.std.proofs.Common.{refl}
use Rattle.cox_klstep.proofs.sums.put_polynomial.Goals as goal

pub sum_up-requires-clause-source : goal.sum_up-requires-clause-source
sum_up-requires-clause-source c = record {
  member = refl;
  step = c.requires.source.step;
  lower = c.requires.source.lower;
  index = c.requires.source.index;
  needed = c.requires.source.needed;
}

pub sum_up-requires-clause-extremal : goal.sum_up-requires-clause-extremal
sum_up-requires-clause-extremal c = rw c.requires.source.member c.requires.extremal

pub sum_up-requires-clause-below : goal.sum_up-requires-clause-below
sum_up-requires-clause-below c = rw c.requires.source.member c.requires.below
