-- Each correction is taken off, or its polynomial is 0.
use Rattle.std.proofs.Common.{◌+◌, ◌<◌, length, arith}
use Rattle.std.proofs.lemmas.Int.{ints}
use Rattle.std.proofs.lemmas.List.{take_all}
use Rattle.cox_base.specs.IntegerMatrix.{integer_matrix}
use Rattle.cox_context.specs.Numbers.{word_at}
use Rattle.cox_context.proofs.Shifting.{later-not_below}
use Rattle.cox_poly.specs.Polynomial.{coefficient}
use Rattle.cox_klstep.specs.StepOf.{correction_at}
use Rattle.cox_hecke.proofs.PolynomialValues.{kazhdan_lusztig-outside}
use Rattle.cox_klstep.proofs.AddedSums.{none-scaled}
use Rattle.cox_klstep.proofs.NumberedLists.{taken, passed}
use Rattle.cox_klstep.proofs.NumberedRecursion.{shift-low, corrections-few}
use Rattle.cox_klstep.proofs.sums.correct.Goals as goal
use Rattle.cox_klstep.proofs.sums.correct.Goals.{then-x-correction, else-x-correction}

pub take_off-requires-clause-shift : goal.take_off-requires-clause-shift
take_off-requires-clause-shift c =
    let l : c.loop-k.k < length c.args.step.now.corrections.items = rw c.deref-correction-items.ensures.value at c.loop-k-test.true
    in rw c.deref-correction-items.ensures.value (shift-low c.args.step.now.side (integer_matrix c.args.ctx.now.matrix)
    c.requires.admissible
    c.args.ctx.now.members c.requires.closed c.args.step.now.member c.requires.step.within c.args.step.now.letter
    c.requires.step.descent c.args.step.now.corrections.items c.requires.step.numbered c.loop-k.k l)

pub take_off-requires-clause-room : goal.take_off-requires-clause-room
take_off-requires-clause-room c = λ d.
    let l : c.loop-k.k < length c.args.step.now.corrections.items = rw c.deref-correction-items.ensures.value at c.loop-k-test.true
    in let few = corrections-few c.args.step.now.side (integer_matrix c.args.ctx.now.matrix) c.requires.admissible
    c.args.ctx.now.members c.requires.closed c.args.step.now.member c.requires.step.within c.args.step.now.letter
    c.requires.step.descent c.args.step.now.corrections.items c.requires.step.numbered
    in omega (arith, c.loop-k.invariant.size d, few, l, c.requires.closed.few)

pub take_off-requires-clause-u : goal.take_off-requires-clause-u
take_off-requires-clause-u c =
    let l : c.loop-k.k < length c.args.step.now.corrections.items = rw c.deref-correction-items.ensures.value at c.loop-k-test.true
    in rw c.deref-correction-items.ensures.value (c.requires.step.numbered.within c.loop-k.k l)

pub loop-k-init : goal.loop-k-init
loop-k-init c = record {
  sum = λ P gives d. omega (arith, ints);
  size = c.requires.room;
  steps = omega arith;
  kept = omega arith;
}

pub loop-k-preserved : goal.loop-k-preserved
loop-k-preserved c =
    let l : c.loop-k.k < length c.args.step.now.corrections.items = rw c.deref-correction-items.ensures.value at c.loop-k-test.true
    in let within : (correction_at c.deref-correction-items.result.now c.loop-k.k).number < length c.args.ctx.now.members
    = rw c.deref-correction-items.ensures.value (c.requires.step.numbered.within c.loop-k.k l)
    in elim c.if-x-correction.branch [
      | then-x-correction w ↦ rw (w.sums-is, w.steps-is) record {
        sum = λ P gives d.
            let off = w.take_off.ensures.sum (P (correction_at c.deref-correction-items.result.now c.loop-k.k).number)
            (gives (correction_at c.deref-correction-items.result.now c.loop-k.k).number within) d
            in taken P c.deref-correction-items.result.now c.loop-k.k (c.loop-k.k + 1) (omega arith) c.loop-k-test.true d
            (coefficient c.args.sums.now d) (coefficient c.loop-k.sums d) (coefficient w.take_off.new.sums d)
            (c.loop-k.invariant.sum P gives d) off;
        size = λ d. let small = w.take_off.ensures.size (c.loop-k.k + 2) c.loop-k.invariant.size d in omega (arith, small);
        steps = omega (arith, w.take_off.ensures.steps, c.loop-k.invariant.steps);
        kept = omega (arith, w.take_off.ensures.kept, c.loop-k.invariant.kept);
      }
      | else-x-correction w ↦ rw (w.sums-is, w.steps-is) record {
        sum = λ P gives d. passed P c.deref-correction-items.result.now c.loop-k.k (c.loop-k.k + 1) (omega arith) c.loop-k-test.true d
            (coefficient c.args.sums.now d) (coefficient c.loop-k.sums d) (c.loop-k.invariant.sum P gives d)
            (none-scaled (correction_at c.deref-correction-items.result.now c.loop-k.k).factor
            (correction_at c.deref-correction-items.result.now c.loop-k.k).shift
            (P (correction_at c.deref-correction-items.result.now c.loop-k.k).number)
            (λ k. kazhdan_lusztig-outside (integer_matrix c.args.ctx.now.matrix) c.requires.admissible
            (word_at c.args.ctx.now.members c.args.x)
            (word_at c.args.ctx.now.members (correction_at c.deref-correction-items.result.now c.loop-k.k).number)
            (P (correction_at c.deref-correction-items.result.now c.loop-k.k).number)
            (later-not_below (integer_matrix c.args.ctx.now.matrix) c.requires.admissible c.args.ctx.now.members c.requires.closed c.args.x
            (correction_at c.deref-correction-items.result.now c.loop-k.k).number c.requires.x within w.if-x-correction.false)
            (gives (correction_at c.deref-correction-items.result.now c.loop-k.k).number within) k) d);
        size = λ d. let small = c.loop-k.invariant.size d in omega (arith, small);
        steps = omega (arith, c.loop-k.invariant.steps);
        kept = c.loop-k.invariant.kept;
      }
    ]

pub returns-clause-sum : goal.returns-clause-sum
returns-clause-sum c = λ P gives k. rw (← c.deref-correction-items.ensures.value)
    (rw (take_all c.loop-k.k c.deref-correction-items.result.now c.loop-k-test.false) at (c.loop-k.invariant.sum P gives k))
