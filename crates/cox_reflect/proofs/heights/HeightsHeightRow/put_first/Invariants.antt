-- What is kept over the letters whose heights are replaced.
use Rattle.cox_reflect.proofs.HeightTurns.{AreTurned}
use Rattle.cox_reflect.proofs.heights.HeightsHeightRow.put_first.Given as goal

abbrev pub invariant-loop-t : goal.invariant-loop-t
invariant-loop-t l = AreTurned l.g l.s l.t l.initial.self.values l.self.values
