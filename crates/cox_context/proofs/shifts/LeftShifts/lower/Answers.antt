-- A shift goes to a member before exactly where it shortens.
use Rattle.std.proofs.Common.{arith}
use Rattle.cox_base.specs.IntegerMatrix.{integer_matrix}
use Rattle.cox_reflect.proofs.Admissible.{IsAdmissible-integer_matrix}
use Rattle.cox_context.proofs.Shifting.{shift-less, descent-member}
use Rattle.cox_context.proofs.shifts.LeftShifts.lower.Goals as goal

pub returns-in_err-shift : goal.returns-in_err-shift
returns-in_err-shift c = rw c.from_residual.ensures (λ d. c.in_err-shift.ensures (descent-member (integer_matrix c.args.self.now.matrix)
    (IsAdmissible-integer_matrix c.args.self.now.matrix c.rank-rank.ensures.matrix) c.args.self.now.members c.rank-rank.ensures.closed
    c.args.s c.args.i c.requires.member d))

pub returns-then-shift-i : goal.returns-then-shift-i
returns-then-shift-i c = (
  (shift-less (integer_matrix c.args.self.now.matrix)
      (IsAdmissible-integer_matrix c.args.self.now.matrix c.rank-rank.ensures.matrix) c.args.self.now.members c.rank-rank.ensures.closed
      c.args.s c.args.i
      c.in_ok-shift.shift c.requires.letter c.requires.member c.in_ok-shift.ensures.0 c.in_ok-shift.ensures.1).0 c.if-shift-i.true,
  c.in_ok-shift.ensures.0,
  c.in_ok-shift.ensures.1,
)

pub returns-else-shift-i : goal.returns-else-shift-i
returns-else-shift-i c = λ d.
    let less = (shift-less (integer_matrix c.args.self.now.matrix)
    (IsAdmissible-integer_matrix c.args.self.now.matrix c.rank-rank.ensures.matrix) c.args.self.now.members c.rank-rank.ensures.closed
    c.args.s c.args.i c.in_ok-shift.shift c.requires.letter c.requires.member c.in_ok-shift.ensures.0 c.in_ok-shift.ensures.1).1 d
    in omega (arith, less, c.if-shift-i.false)
