-- The best step so far is a choice, and none by a letter before has fewer corrections.
use Rattle.std.proofs.Common.{ℕ, ◌<◌}
use Rattle.cox_base.specs.declared.side.Side.{Side}
use Rattle.cox_klstep.specs.ChoiceOf.{HasNoFewer, IsChoice}
use Rattle.cox_klstep.proofs.choice.with_fewest_corrections.Given as goal

abbrev pub invariant-loop-s : goal.invariant-loop-s
invariant-loop-s g l = record {
  choice : IsChoice l.ctx (g.L.LowerRows.holds l.lower) l.start.descent.member l.best.side l.best.descent l.best.corrections;
  fewest : (side : Side) (t : ℕ) → t < l.s
      → HasNoFewer l.ctx (g.L.LowerRows.holds l.lower) l.start.descent.member l.best.corrections side t;
}
