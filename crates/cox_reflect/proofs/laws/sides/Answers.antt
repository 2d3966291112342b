-- Each clause is a lemma on exchange: when s w = w t.
use Rattle.cox_reflect.proofs.Deletion.{sides_same}
use Rattle.cox_reflect.proofs.laws.sides.Goals as goal

pub returns : goal.returns
returns c = sides_same
