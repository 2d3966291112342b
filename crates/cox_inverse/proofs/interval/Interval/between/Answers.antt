-- Each member is looked at, from y to w.
use Rattle.std.proofs.Common.{arith}
use Rattle.cox_inverse.proofs.BetweenLists.{found-start, found-skip, found-keep, found-all}
use Rattle.cox_inverse.proofs.interval.Interval.between.Goals as goal
use Rattle.cox_inverse.proofs.interval.Interval.between.Goals.{then-below+then-below-2+in_ok-push, else-below}
use Rattle.cox_inverse.proofs.interval.Interval.between.Goals.{else-below-via-then-below+else-below-2, else-below-via-else-below}

pub loop-z-init : goal.loop-z-init
loop-z-init c =
    rw c.new-members.ensures.items (found-start c.args.ctx.now c.args.y c.args.w c.len-len.ensures.admissible c.len-len.ensures.closed
    c.requires.bottom)

pub loop-z-preserved : goal.loop-z-preserved
loop-z-preserved c = elim c.if-below.branch [
  | then-below+then-below-2+in_ok-push w ↦ rw (w.members-is, w.in_ok-push.ensures.items)
      (found-keep c.args.ctx.now c.args.y c.args.w c.loop-z.z c.loop-z.members.items (omega (arith, c.loop-z-test.true, c.requires.top))
      (c.below.ensures.0 w.if-below.true) (w.below-then-below.ensures.0 w.if-below-2.true) c.loop-z.invariant)
  | else-below w ↦ rw w.members-is (found-skip c.args.ctx.now c.args.y c.args.w c.loop-z.z c.loop-z.members.items
      (λ above below. elim w.else-below.branch [
        | else-below-via-then-below+else-below-2 v ↦
            let yes = v.below-then-below.ensures.1 below in absurd (cc (yes, v.if-below-2.false))
        | else-below-via-else-below v ↦ let yes = c.below.ensures.1 above in absurd (cc (yes, v.if-below.false))
      ])
      c.loop-z.invariant)
]

pub returns-clause-interval : goal.returns-clause-interval
returns-clause-interval c = record {
  bottom_member = c.requires.bottom;
  top_member = c.requires.top;
  between = found-all c.args.ctx.now c.args.y c.args.w c.len-len.ensures.admissible c.len-len.ensures.closed c.requires.top c.loop-z.z
      (omega (arith, c.loop-z-test.false)) c.loop-z.members.items c.loop-z.invariant;
}
