-- Those of the candidates so far that are below w, and where the step leads from them.
use Rattle.cox_base.specs.IntegerMatrix.{integer_matrix}
use Rattle.cox_base.specs.Bruhat.{IsBelow}
use Rattle.cox_context.specs.Numbers.{word_at}
use Rattle.cox_klstep.specs.LoweredTo.{AreLowered}
use Rattle.cox_klstep.proofs.PickedNumbers.{ArePicked}
use Rattle.cox_klstep.proofs.lowering.lower_each.Given as goal

abbrev pub invariant-loop-x : goal.invariant-loop-x
invariant-loop-x l = record {
  picked : ArePicked (λ x. IsBelow (integer_matrix l.ctx.matrix) (word_at l.ctx.members x) (word_at l.ctx.members l.step.member))
      l.candidates l.x-index l.members.items;
  lowered : AreLowered l.ctx l.step.side l.step.letter l.members.items l.shorter.items;
}
