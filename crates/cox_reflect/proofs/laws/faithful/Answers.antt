-- The law is the theorem of Faithful: one element exactly where the relations lead from word to word.
use Rattle.cox_reflect.proofs.Faithful.{same_as_related}
use Rattle.cox_reflect.proofs.laws.faithful.Goals as goal

pub returns : goal.returns
returns c = same_as_related
