-- For the last member z = t x the right shift z s is t (x s), and the right shift of x is found by those of the members before.
use Rattle.std.proofs.Common.{refl, arith}
use Rattle.cox_base.specs.IntegerMatrix.{integer_matrix}
use Rattle.cox_reflect.proofs.Admissible.{IsAdmissible-integer_matrix}
use Rattle.cox_context.specs.Numbers.{word_at}
use Rattle.cox_context.proofs.RightShifts.{first-letter, right-none, right-some, others-known}
use Rattle.cox_context.proofs.right_shifts.last_right_shift.Goals as goal

pub right_shift-requires-clause-rest : goal.right_shift-requires-clause-rest
right_shift-requires-clause-rest c = λ t r before rest.
    others-known (integer_matrix c.args.shifts.now.matrix)
    (IsAdmissible-integer_matrix c.args.shifts.now.matrix c.rank-rank.ensures.matrix) c.args.shifts.now.members c.args.right.now
    c.requires.right c.args.i c.link-link.result.rest c.link-link.result.first c.args.s t c.requires.last
    (rw c.members.ensures at c.link-link.ensures.word) c.link-link.ensures.inward c.requires.letter r before rest

pub returns-in_err-shifted : goal.returns-in_err-shifted
returns-in_err-shifted c = rw c.from_residual.ensures (right-none (integer_matrix c.args.shifts.now.matrix)
    (IsAdmissible-integer_matrix c.args.shifts.now.matrix c.rank-rank.ensures.matrix) c.args.shifts.now.members c.rank-rank.ensures.closed
    c.link-link.result.first c.args.s
    (word_at c.args.shifts.now.members c.link-link.result.rest) c.args.i c.link-link.result.rest c.requires.letter (omega arith)
    (rw c.members.ensures at c.link-link.ensures.word) refl c.in_err-shifted.ensures)

pub shift-requires-clause-letter : goal.shift-requires-clause-letter
shift-requires-clause-letter c =
    first-letter (integer_matrix c.args.shifts.now.matrix)
    (IsAdmissible-integer_matrix c.args.shifts.now.matrix c.rank-rank.ensures.matrix) c.args.shifts.now.members c.rank-rank.ensures.closed
    c.link-link.result.first
    (word_at c.args.shifts.now.members c.link-link.result.rest) c.args.i (omega arith)
    (rw c.members.ensures at c.link-link.ensures.word)

pub returns : goal.returns
returns c = right-some (integer_matrix c.args.shifts.now.matrix)
    (IsAdmissible-integer_matrix c.args.shifts.now.matrix c.rank-rank.ensures.matrix) c.args.shifts.now.members c.rank-rank.ensures.closed
    c.link-link.result.first c.args.s
    (word_at c.args.shifts.now.members c.link-link.result.rest) c.args.i c.link-link.result.rest c.in_ok-shifted.shifted c.shift.result
    (rw c.members.ensures at c.link-link.ensures.word) refl c.in_ok-shifted.ensures.1 c.shift.ensures
