-- One member more is looked at.
use Rattle.std.proofs.Common.{sym, ◌∙◌, ◌+◌, ◌≡◌, arith}
use Rattle.std.proofs.lemmas.Bool.{both_ways}
use Rattle.cox_base.specs.IntegerMatrix.{integer_matrix}
use Rattle.cox_context.specs.Numbers.{word_at}
use Rattle.cox_row.proofs.ListedExtremals.{extremal_to-push, extremal_to-skip, extremal_to-all}
use Rattle.cox_row.proofs.look_up.extremal_members.Goals as goal
use Rattle.cox_row.proofs.look_up.extremal_members.Goals.{then-is_extremal+then-is_some+in_ok-push, else-is_extremal}
use Rattle.cox_row.proofs.look_up.extremal_members.Goals.{else-is_extremal-via-then-is_extremal+else-is_some}
use Rattle.cox_row.proofs.look_up.extremal_members.Goals.{else-is_extremal-via-else-is_extremal}

pub loop-x-preserved : goal.loop-x-preserved
loop-x-preserved c =
    let A = integer_matrix c.args.ctx.now.matrix
    in let members = c.args.ctx.now.members
    in let w = word_at members c.args.i
    in elim c.if-is_extremal.branch [
      | then-is_extremal+then-is_some+in_ok-push v ↦ rw (v.numbers-is, v.in_ok-push.ensures.items)
          (extremal_to-push A members w c.loop-x.x c.loop-x.numbers.items c.loop-x.invariant (c.is_extremal.ensures.0 v.if-is_extremal.true)
          (v.polynomial.ensures.exactly.0 (sym v.is_some.ensures ∙ v.if-is_some.true)))
      | else-is_extremal v ↦ rw v.numbers-is (extremal_to-skip A members w c.loop-x.x c.loop-x.numbers.items c.loop-x.invariant (λ e b.
          elim v.else-is_extremal.branch [
            | else-is_extremal-via-then-is_extremal+else-is_some u ↦
                absurd (both_ways u.is_some.result u.if-is_some.false (u.is_some.ensures ∙ u.polynomial.ensures.exactly.1 b))
            | else-is_extremal-via-else-is_extremal u ↦
                absurd (both_ways c.is_extremal.result u.if-is_extremal.false (c.is_extremal.ensures.1 e))
          ]))
    ]

pub returns : goal.returns
returns c =
    let bound : c.args.i + 1 ≡ c.loop-x.x = omega arith
    in extremal_to-all (integer_matrix c.args.ctx.now.matrix) c.len-len.ensures.admissible c.args.ctx.now.members
    c.len-len.ensures.closed c.args.i c.loop-x.numbers.items c.requires.i (rw bound c.loop-x.invariant)
