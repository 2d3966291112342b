-- For x = t x' the right shift x s is t (x' s), so it is the left shift by t of a right shift that is there.
use Rattle.std.proofs.Common.{◌≡◌, [], refl}
use Rattle.cox_base.specs.IntegerMatrix.{integer_matrix}
use Rattle.cox_reflect.proofs.Admissible.{IsAdmissible-integer_matrix}
use Rattle.cox_context.specs.Numbers.{word_at}
use Rattle.cox_context.proofs.Shifting.{first-member}
use Rattle.cox_context.proofs.RightShifts.{first-letter, right-none, right-some}
use Rattle.cox_context.proofs.right_shifts.right_shift.Goals as goal

pub returns-then-i-eq0 : goal.returns-then-i-eq0
returns-then-i-eq0 c =
    let none : word_at c.args.shifts.now.members 0 ≡ [] = first-member (integer_matrix c.args.shifts.now.matrix)
    (IsAdmissible-integer_matrix c.args.shifts.now.matrix c.rank-rank.ensures.matrix) c.args.shifts.now.members c.rank-rank.ensures.closed
    in rw (c.if-i-eq0.true, none) (rw (c.if-i-eq0.true, none) at c.shift.ensures)

pub returns-in_err-shifted : goal.returns-in_err-shifted
returns-in_err-shifted c =
    let is = rw c.rank-rank.ensures.rank at c.in_err-shifted.ensures
    in let known = c.requires.rest c.link-link.result.first c.link-link.result.rest c.link-link.ensures.inward
    (rw c.members.ensures at c.link-link.ensures.word)
    in rw c.from_residual.ensures (right-none (integer_matrix c.args.shifts.now.matrix)
    (IsAdmissible-integer_matrix c.args.shifts.now.matrix c.rank-rank.ensures.matrix) c.args.shifts.now.members c.rank-rank.ensures.closed
    c.link-link.result.first c.args.s
    (word_at c.args.shifts.now.members c.link-link.result.rest) c.args.i c.link-link.result.rest c.requires.letter c.requires.member
    (rw c.members.ensures at c.link-link.ensures.word) refl (rw (← is) at known))

pub shift-requires-2-clause-letter : goal.shift-requires-2-clause-letter
shift-requires-2-clause-letter c =
    first-letter (integer_matrix c.args.shifts.now.matrix)
    (IsAdmissible-integer_matrix c.args.shifts.now.matrix c.rank-rank.ensures.matrix) c.args.shifts.now.members c.rank-rank.ensures.closed
    c.link-link.result.first
    (word_at c.args.shifts.now.members c.link-link.result.rest) c.args.i c.requires.member
    (rw c.members.ensures at c.link-link.ensures.word)

pub returns : goal.returns
returns c =
    let is = rw c.rank-rank.ensures.rank at c.in_ok-shifted.ensures
    in let known = c.requires.rest c.link-link.result.first c.link-link.result.rest c.link-link.ensures.inward
    (rw c.members.ensures at c.link-link.ensures.word)
    in let found = rw (← is) at known
    in right-some (integer_matrix c.args.shifts.now.matrix)
    (IsAdmissible-integer_matrix c.args.shifts.now.matrix c.rank-rank.ensures.matrix) c.args.shifts.now.members c.rank-rank.ensures.closed
    c.link-link.result.first c.args.s
    (word_at c.args.shifts.now.members c.link-link.result.rest) c.args.i c.link-link.result.rest c.in_ok-shifted.shifted c.shift-2.result
    (rw c.members.ensures at c.link-link.ensures.word) refl found.1 c.shift-2.ensures

pub shift-requires-2-clause-member : goal.shift-requires-2-clause-member
shift-requires-2-clause-member c =
    let is = rw c.rank-rank.ensures.rank at c.in_ok-shifted.ensures
    in let known = c.requires.rest c.link-link.result.first c.link-link.result.rest c.link-link.ensures.inward
    (rw c.members.ensures at c.link-link.ensures.word)
    in (rw (← is) at known).0
