-- A voided row is Void for good.
use Rattle.cox_fill_core.proofs.EventLaws.{void_for_good}
use Rattle.cox_fill_core.proofs.laws.void_for_good.Goals as goal

pub returns : goal.returns
returns c = void_for_good
