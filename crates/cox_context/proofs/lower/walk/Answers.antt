-- The walk finds t y, or shows that t does not shorten y or that y is no member.
use Rattle.std.proofs.Common.{◌≡◌, ◌+◌, ◌-◌, suc, sym, ◌∙◌, arith}
use Rattle.cox_base.specs.IntegerMatrix.{integer_matrix}
use Rattle.cox_reflect.proofs.Admissible.{IsAdmissible-integer_matrix}
use Rattle.cox_context.proofs.LowerWalks.{step-start, step-next, no_order, down-none, down-next, down-end, up-none, up-next, up-end}
use Rattle.cox_context.proofs.lower.walk.Goals as goal

pub returns-then-order-eq0-clause-lower : goal.returns-then-order-eq0-clause-lower
returns-then-order-eq0-clause-lower c =
    no_order c.args.shifts.now.matrix c.rank-rank.ensures.matrix c.args.shifts.now.members c.rank-rank.ensures.closed c.args.s c.args.i
    c.requires.letter_s c.requires.member
    c.requires.new c.args.t c.requires.letter_t c.requires.apart (sym c.label-order.ensures ∙ c.if-order-eq0.true)

pub down-init : goal.down-init
down-init c = record {
  step = step-start (integer_matrix c.args.shifts.now.matrix)
      (IsAdmissible-integer_matrix c.args.shifts.now.matrix c.rank-rank.ensures.matrix) c.args.shifts.now.members c.args.s c.args.t
      c.args.i c.requires.member;
  size = omega arith;
}

pub returns-in_default-clause-lower : goal.returns-in_default-clause-lower
returns-in_default-clause-lower c =
    down-none c.args.shifts.now.matrix c.rank-rank.ensures.matrix c.args.shifts.now.members c.rank-rank.ensures.closed c.args.s c.args.i
    c.requires.letter_s c.requires.member
    c.requires.new c.args.t c.requires.letter_t c.requires.apart (c.down._down - 1) c.down.at c.down.letter c.down.other
    c.down.invariant.step c.down.invariant.size (omega (arith, c.label-order.ensures, c.down-test.true, c.down.auto._down))
    c.in_default.ensures

pub down-preserved : goal.down-preserved
down-preserved c =
    let next : c.down._down + 1 - 1 ≡ suc (c.down._down - 1) = omega (arith, c.down.auto._down)
    in let size = down-next c.args.shifts.now.matrix c.rank-rank.ensures.matrix c.args.shifts.now.members c.rank-rank.ensures.closed
    c.args.s c.args.i c.requires.letter_s
    c.requires.member c.requires.new c.args.t c.requires.letter_t c.requires.apart (c.down._down - 1) c.down.at c.down.letter c.down.other
    c.in-Some.lower c.down.invariant.step c.down.invariant.size c.in-Some.ensures.0 c.in-Some.ensures.2
    in record {
      step = step-next (integer_matrix c.args.shifts.now.matrix)
          (IsAdmissible-integer_matrix c.args.shifts.now.matrix c.rank-rank.ensures.matrix) c.args.shifts.now.members c.args.s c.args.t
          c.args.i (c.down._down - 1)
          c.down.at c.down.letter c.down.other c.in-Some.lower (c.down._down + 1 - 1) next c.down.invariant.step c.in-Some.ensures.1
          c.in-Some.ensures.2;
      size = omega (arith, size, next);
    }

pub up-init : goal.up-init
up-init c =
    let all : c.down._down ≡ c.label-order.result = omega (arith, c.down-test.false, c.down.auto, c.if-order-eq0.false)
    in let here : c.label-order.result - 1 + 0 ≡ c.down._down - 1 = omega (arith, all)
    in record {
      step = rw here c.down.invariant.step;
      short = omega (arith, c.down.invariant.size, all);
      descent =
          down-end c.args.shifts.now.matrix c.rank-rank.ensures.matrix c.args.shifts.now.members c.rank-rank.ensures.closed c.args.s
          c.args.i c.requires.letter_s
          c.requires.member c.requires.new c.args.t c.requires.letter_t c.requires.apart (c.down._down - 1) c.down.at c.down.letter
          c.down.other c.down.invariant.step c.down.invariant.size (omega (arith, all, c.label-order.ensures, c.down.auto._down));
    }

pub returns-in_default-shift-clause-outside : goal.returns-in_default-shift-clause-outside
returns-in_default-shift-clause-outside c =
    up-none c.args.shifts.now.matrix c.rank-rank.ensures.matrix c.args.shifts.now.members c.rank-rank.ensures.closed c.args.s c.args.i
    c.requires.letter_s c.requires.member
    c.requires.new c.args.t c.requires.letter_t c.requires.apart (c.label-order.result - 1 + (c.up._up - 1)) c.up.at c.up.letter c.up.other
    c.up.invariant.step (omega (arith, c.up.invariant.short, c.up-test.true)) c.up.invariant.descent c.in_default-shift.ensures

pub up-preserved : goal.up-preserved
up-preserved c =
    let next : c.label-order.result - 1 + (c.up._up + 1 - 1) ≡ suc (c.label-order.result - 1 + (c.up._up - 1)) = omega
    (arith, c.up.auto._up)
    in let longer = up-next c.args.shifts.now.matrix c.rank-rank.ensures.matrix c.args.shifts.now.members c.rank-rank.ensures.closed
    c.args.s c.args.i c.requires.letter_s
    c.requires.member c.requires.new c.args.t c.requires.letter_t c.requires.apart (c.label-order.result - 1 + (c.up._up - 1)) c.up.at
    c.up.letter c.up.other c.in-Some-shift.higher c.up.invariant.step c.in-Some-shift.ensures.1
    in record {
      step = step-next (integer_matrix c.args.shifts.now.matrix)
          (IsAdmissible-integer_matrix c.args.shifts.now.matrix c.rank-rank.ensures.matrix) c.args.shifts.now.members c.args.s c.args.t
          c.args.i (c.label-order.result - 1 + (c.up._up - 1)) c.up.at c.up.letter c.up.other c.in-Some-shift.higher
          (c.label-order.result - 1 + (c.up._up + 1 - 1)) next c.up.invariant.step c.in-Some-shift.ensures.0
          c.in-Some-shift.ensures.1;
      short = omega (arith, longer, c.up.invariant.short, c.up-test.true);
      descent = c.up.invariant.descent;
    }

pub returns-clause-lower : goal.returns-clause-lower
returns-clause-lower c =
    let all : c.up._up ≡ c.label-order.result = omega (arith, c.up-test.false, c.up.auto, c.if-order-eq0.false)
    in up-end c.args.shifts.now.matrix c.rank-rank.ensures.matrix c.args.shifts.now.members c.rank-rank.ensures.closed c.args.s c.args.i
    c.requires.letter_s c.requires.member
    c.requires.new c.args.t c.requires.letter_t c.requires.apart (c.label-order.result - 1 + (c.up._up - 1)) c.up.at c.up.letter c.up.other
    c.up.invariant.step (omega (arith, c.label-order.ensures, c.if-order-eq0.false))
    (omega (arith, all, c.label-order.ensures, c.if-order-eq0.false)) c.up.invariant.descent
