-- Something is added up for x.
use Rattle.std.proofs.Common.{FitsSigned, w64, rules, arith}
use Rattle.std.proofs.lemmas.Int.{to_z-of_z}
use Rattle.cox_klstep.specs.SourceOf.{source_cost}
use Rattle.cox_klstep.proofs.StepCounts.{cost-next, counted-next}
use Rattle.cox_klstep.proofs.making.add_extremal.Goals as goal

pub returns-clause-underway : goal.returns-clause-underway
returns-clause-underway c =
    let fits : FitsSigned w64 c.args.task.now.limit = search rules
    in simp (to_z-of_z w64 c.args.task.now.limit fits) at c.keep.ensures.underway

pub returns-clause-steps : goal.returns-clause-steps
returns-clause-steps c = λ start before. cost-next c.args.task.now.ctx.now c.args.task.now.member
    (source_cost c.args.task.now.source.now) start c.args.builder.now.done c.args.steps.now c.put_polynomial.new.steps
    c.requires.extremal (omega (arith, c.requires.x, c.requires.task.member)) c.requires.below c.put_polynomial.ensures.steps before

pub returns-clause-counted : goal.returns-clause-counted
returns-clause-counted c = λ start before. counted-next c.args.task.now.ctx.now c.args.task.now.member start
    c.args.builder.now.done c.args.steps.now c.put_polynomial.new.steps c.put_polynomial.ensures.some c.put_polynomial.ensures.kept before
