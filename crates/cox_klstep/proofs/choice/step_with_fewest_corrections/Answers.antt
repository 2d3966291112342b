-- The step by the least left descent is a choice; and no choice has fewer corrections than the one that is taken.
use Rattle.std.proofs.Common.{◌≡◌, ℕ, refl, arith}
use Rattle.cox_base.specs.declared.side.Side.{Side}
use Rattle.cox_base.specs.declared.side.Side.TheVariants.{Left}
use Rattle.cox_base.specs.IntegerMatrix.{integer_matrix}
use Rattle.cox_context.specs.Closed.{Elements}
use Rattle.cox_context.specs.Numbers.{word_at}
use Rattle.cox_klstep.specs.declared.step.Step.{Step}
use Rattle.cox_klstep.specs.StepOf.{correction_at, AreNumbered, IsRowStep}
use Rattle.cox_klstep.proofs.Chosen.{numbered-same, least-needs}
use Rattle.cox_klstep.proofs.choice.step_with_fewest_corrections.Goals as goal

-- the corrections of a step to the member i, by the descent that it is made of
numbered-by : (e : Elements) (side : Side) (letter member i : ℕ) (step : Step) → step.side ≡ side → step.letter ≡ letter
    → step.member ≡ member → member ≡ i → IsRowStep e step
    → AreNumbered side (integer_matrix e.matrix) e.members letter (word_at e.members i) step.corrections.items
numbered-by e side letter member i step side_is letter_is member_is same is = rw (side_is, letter_is, member_is, same) at is.numbered

pub with_fewest_corrections-best-requires-clause-start : goal.with_fewest_corrections-best-requires-clause-start
with_fewest_corrections-best-requires-clause-start g c =
    let d = c.of-least.ensures.descent
    in let needs = rw (← c.of-least.ensures.number) at c.requires.needs
    in let first = rw (c.in_ok-first.ensures.side, c.in_ok-first.ensures.letter, c.in_ok-first.ensures.number)
    at c.in_ok-first.ensures.step.numbered
    in record {
      lowering = record { within = d.within; descent = d.least.descent; lower_within = d.lower_within; lower_is = d.lower_is };
      member = refl;
      lower = needs.shorter c.of-least.result.letter c.of-least.result.lower d.least d.lower_within d.lower_is;
      corrected = λ u m l h. needs.corrected c.of-least.result.letter u m d.least l h;
      many = λ list h.
          let same = numbered-same (integer_matrix c.args.ctx.now.matrix) c.args.ctx.now.members c.of-least.result.letter
          (word_at c.args.ctx.now.members c.of-least.result.member) Left list c.in_ok-first.first.corrections.items h first
          in omega (arith, same, c.len.ensures);
    }

-- the first step has no corrections

pub returns-then-start-eq0-clause-fewest : goal.returns-then-start-eq0-clause-fewest
returns-then-start-eq0-clause-fewest g c = λ side s h list are. omega (arith, c.len.ensures)

-- no step has fewer corrections than the first one

pub returns-then-best-start-clause-corrected : goal.returns-then-best-start-clause-corrected
returns-then-best-start-clause-corrected g c = λ k l.
    let needs = rw (← c.of-least.ensures.number) at c.requires.needs
    in let d = c.of-least.ensures.descent
    in let first = rw (c.in_ok-first.ensures.side, c.in_ok-first.ensures.letter, c.in_ok-first.ensures.number)
    at c.in_ok-first.ensures.step.numbered
    in needs.corrected c.of-least.result.letter (correction_at c.in_ok-first.first.corrections.items k).number
    (correction_at c.in_ok-first.first.corrections.items k).factor d.least (first.within k l) (first.each k l)

pub returns-then-best-start-clause-few : goal.returns-then-best-start-clause-few
returns-then-best-start-clause-few g c = λ s numbers least are.
    let first = rw (c.in_ok-first.ensures.side, c.in_ok-first.ensures.letter, c.in_ok-first.ensures.number, c.of-least.ensures.number)
    at c.in_ok-first.ensures.step.numbered
    in least-needs (integer_matrix c.args.ctx.now.matrix) c.args.ctx.now.members c.of-least.result.letter
    (word_at c.args.ctx.now.members c.args.i) s (rw c.of-least.ensures.number at c.of-least.ensures.descent.least) least
    c.in_ok-first.first.corrections.items first numbers are

pub returns-then-best-start-clause-fewest : goal.returns-then-best-start-clause-fewest
returns-then-best-start-clause-fewest g c = λ side s h list are.
    let fewest = rw c.of-least.ensures.number at c.with_fewest_corrections-best.ensures.fewest
    in let few = fewest side s h list are
    in omega (arith, few, c.len.ensures)

-- a step with fewer corrections

pub returns-clause-corrected : goal.returns-clause-corrected
returns-clause-corrected g c = λ k l.
    let n = numbered-by c.args.ctx.now _ _ _ _ c.in_ok-step.step c.in_ok-step.ensures.side c.in_ok-step.ensures.letter
    c.in_ok-step.ensures.number c.with_fewest_corrections-best.ensures.choice.member c.in_ok-step.ensures.step
    in c.with_fewest_corrections-best.ensures.choice.corrected (correction_at c.in_ok-step.step.corrections.items k).number
    (correction_at c.in_ok-step.step.corrections.items k).factor (n.within k l) (n.each k l)

pub returns-clause-few : goal.returns-clause-few
returns-clause-few g c = λ s numbers least are.
    let first = rw (c.in_ok-first.ensures.side, c.in_ok-first.ensures.letter, c.in_ok-first.ensures.number, c.of-least.ensures.number)
    at c.in_ok-first.ensures.step.numbered
    in let n = numbered-by c.args.ctx.now _ _ _ _ c.in_ok-step.step c.in_ok-step.ensures.side c.in_ok-step.ensures.letter
    c.in_ok-step.ensures.number c.with_fewest_corrections-best.ensures.choice.member c.in_ok-step.ensures.step
    in let mine = rw c.of-least.ensures.number at c.of-least.ensures.descent.least
    in let most = least-needs (integer_matrix c.args.ctx.now.matrix) c.args.ctx.now.members c.of-least.result.letter
    (word_at c.args.ctx.now.members c.args.i) s mine least c.in_ok-first.first.corrections.items first numbers are
    in let many = c.with_fewest_corrections-best.ensures.choice.many c.in_ok-step.step.corrections.items n
    in let fewest = rw c.of-least.ensures.number at c.with_fewest_corrections-best.ensures.fewest
    in let few = fewest Left c.of-least.result.letter record {
      descent = mine.descent;
      shorter = λ j l is. c.requires.needs.shorter c.of-least.result.letter j mine l is;
      corrected = λ u m l h. c.requires.needs.corrected c.of-least.result.letter u m mine l h;
    } c.in_ok-first.first.corrections.items first
    in omega (arith, few, most, many)

pub returns-clause-fewest : goal.returns-clause-fewest
returns-clause-fewest g c = λ side s h list are.
    let n = numbered-by c.args.ctx.now _ _ _ _ c.in_ok-step.step c.in_ok-step.ensures.side c.in_ok-step.ensures.letter
    c.in_ok-step.ensures.number c.with_fewest_corrections-best.ensures.choice.member c.in_ok-step.ensures.step
    in let many = c.with_fewest_corrections-best.ensures.choice.many c.in_ok-step.step.corrections.items n
    in let fewest = rw c.of-least.ensures.number at c.with_fewest_corrections-best.ensures.fewest
    in let few = fewest side s h list are
    in omega (arith, few, many)
