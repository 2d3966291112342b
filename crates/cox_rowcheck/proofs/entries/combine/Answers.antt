-- Twice a coefficient of f leaves room for one of h.
use Rattle.std.proofs.Common.{ℤ, ◌+ℤ◌, ap, ◌∙◌}
use Rattle.cox_poly.specs.Coefficients.{times_q}
use Rattle.cox_poly.specs.Polynomial.{coefficient}
use Rattle.cox_rowcheck.proofs.StoredEntries.{less_one-size}
use Rattle.cox_rowcheck.proofs.entries.combine.Goals as goal

pub add_times_q-requires-clause-room : goal.add_times_q-requires-clause-room
add_times_q-requires-clause-room c = λ k. rw (c.write_less_one.ensures k) (less_one-size c.args.f.now c.requires.small_f.small k)

pub returns : goal.returns
returns c = λ k. c.add_times_q.ensures k
    ∙ ap (λ (a : ℤ). a +ℤ times_q (coefficient c.args.h.now) k) (c.write_less_one.ensures k)
