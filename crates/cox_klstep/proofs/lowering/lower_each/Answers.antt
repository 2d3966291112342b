-- The letter of the step shortens each extremal member, so there is a shift; and what the step leads to is below sw exactly where the
-- member is below w.
use Rattle.std.proofs.Common.{◌≡◌, length, arith}
use Rattle.cox_base.specs.IntegerMatrix.{integer_matrix}
use Rattle.cox_base.specs.Bruhat.{IsBelow}
use Rattle.cox_context.specs.Numbers.{word_at}
use Rattle.cox_row.specs.Rising.{number_at}
use Rattle.cox_row_symmetry.proofs.DescentsOnSides.{lowered-letter, lowered-member, extremal-descent}
use Rattle.cox_klstep.proofs.Candidates.{extremals-below}
use Rattle.cox_klstep.proofs.LoweredLists.{lowered-none, lowered-push}
use Rattle.cox_klstep.proofs.NumberedRecursion.{below-lowered}
use Rattle.cox_klstep.proofs.PickedNumbers.{picked-none, picked-skip, picked-push}
use Rattle.cox_klstep.proofs.lowering.lower_each.Goals as goal
use Rattle.cox_klstep.proofs.lowering.lower_each.Goals.{then-has+in_ok-push-in-Some+in_ok-push-in-Some-2, else-has}

pub shift-requires-clause-letter : goal.shift-requires-clause-letter
shift-requires-clause-letter c = lowered-letter c.args.step.now.side (integer_matrix c.args.ctx.now.matrix) c.len-len.ensures.admissible
    c.args.step.now.letter (word_at c.args.ctx.now.members c.args.step.now.member) c.requires.step.descent

pub shift-requires-clause-x : goal.shift-requires-clause-x
shift-requires-clause-x c =
    let before = c.requires.candidates.before c.loop-x.x-index c.loop-x-test.true
    in omega (arith, before, c.requires.step.within)

pub unreachable-requires : goal.unreachable-requires
unreachable-requires c =
    let before = c.requires.candidates.before c.loop-x.x-index c.loop-x-test.true
    in c.in-None.ensures (lowered-member c.args.step.now.side (integer_matrix c.args.ctx.now.matrix) c.len-len.ensures.admissible
    c.args.ctx.now.members c.len-len.ensures.closed c.args.step.now.letter (number_at c.args.candidates.now c.loop-x.x-index)
    (omega (arith, before, c.requires.step.within))
    (extremal-descent c.args.step.now.side (integer_matrix c.args.ctx.now.matrix) c.args.step.now.letter
    (word_at c.args.ctx.now.members c.args.step.now.member)
    (word_at c.args.ctx.now.members (number_at c.args.candidates.now c.loop-x.x-index))
    (c.requires.candidates.each c.loop-x.x-index c.loop-x-test.true) c.requires.step.descent))

pub loop-x-init : goal.loop-x-init
loop-x-init c = rw (c.clear.ensures.items, c.clear-2.ensures.items) record { picked = picked-none _ _; lowered = lowered-none _ _ _ }

pub loop-x-preserved : goal.loop-x-preserved
loop-x-preserved c =
    let e = c.args.ctx.now
    in let step = c.args.step.now
    in let numbers = c.args.candidates.now
    in let place = c.loop-x.x-index
    in let was = c.loop-x.invariant
    in let lowered = below-lowered step.side (integer_matrix e.matrix) c.len-len.ensures.admissible e.members c.len-len.ensures.closed
    step.member c.requires.step.within step.letter c.requires.step.descent step.corrections.items c.requires.step.numbered
    (number_at numbers place) c.in-Some.y step.lower
    (extremal-descent step.side (integer_matrix e.matrix) step.letter (word_at e.members step.member)
    (word_at e.members (number_at numbers place)) (c.requires.candidates.each place c.loop-x-test.true) c.requires.step.descent)
    c.in-Some.ensures.1 c.requires.step.lower_is
    in let has = rw c.of-reader.ensures.number at c.has.ensures
    in elim c.if-has.branch [
      | then-has+in_ok-push-in-Some+in_ok-push-in-Some-2 w ↦
          rw (w.members-is, w.shorter-is, w.in_ok-push-in-Some.ensures.items, w.in_ok-push-in-Some-2.ensures.items) record {
            picked = picked-push (λ x. IsBelow (integer_matrix e.matrix) (word_at e.members x) (word_at e.members step.member))
                numbers place _ was.picked c.requires.candidates.rising c.loop-x-test.true (lowered.0 (has.0 w.if-has.true));
            lowered = lowered-push e step.side step.letter _ _ (number_at numbers place) c.in-Some.y was.lowered c.in-Some.ensures;
          }
      | else-has w ↦ rw (w.members-is, w.shorter-is) record {
        picked = picked-skip (λ x. IsBelow (integer_matrix e.matrix) (word_at e.members x) (word_at e.members step.member)) numbers place
            _ was.picked (λ b. let yes = has.1 (lowered.1 b) in let no = w.if-has.false in absurd (cc));
        lowered = was.lowered;
      }
    ]

pub returns-clause-members : goal.returns-clause-members
returns-clause-members c =
    let end : c.loop-x.x-index ≡ length c.args.candidates.now = omega (arith, c.loop-x-test.false, c.loop-x.auto.x-index-end)
    in extremals-below c.args.ctx.now c.len-len.ensures.admissible c.len-len.ensures.closed c.args.step.now.member
    c.requires.step.within c.args.candidates.now c.loop-x.members.items c.requires.candidates (rw end at c.loop-x.invariant.picked)
