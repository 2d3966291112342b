-- The coefficients so far are those of the sum.
use Rattle.cox_rpoly.proofs.CombinedTerms.{IsCombined}
use Rattle.cox_rpoly.proofs.terms.combined.Given as goal

abbrev pub invariant-loop-k : goal.invariant-loop-k
invariant-loop-k l = IsCombined l.f l.h l.terms l.k
