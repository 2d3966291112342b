-- Each of so many copies is the polynomial 1.
use Rattle.cox_rpoly.proofs.CombinedTerms.{AreOnes-filled}
use Rattle.cox_rpoly.proofs.terms.ones.Goals as goal

pub returns-clause-ones : goal.returns-clause-ones
returns-clause-ones c =
    AreOnes-filled c.args.n _ c.new-values.result.items c.resize.new.self.items c.one.result c.new-values.ensures.items
    c.new-values.ensures.len
    c.in_ok-resize.ensures.items c.one.ensures
