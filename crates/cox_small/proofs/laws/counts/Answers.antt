-- The count of small roots.
use Rattle.cox_small.proofs.Counting.{not_both}
use Rattle.cox_small.proofs.Deciding.{HasMoreSmallRoots-decided}
use Rattle.cox_small.proofs.laws.counts.Goals as goal

pub returns-clause-one_of_both : goal.returns-clause-one_of_both
returns-clause-one_of_both c = HasMoreSmallRoots-decided

pub returns-clause-not_both : goal.returns-clause-not_both
returns-clause-not_both c = not_both
