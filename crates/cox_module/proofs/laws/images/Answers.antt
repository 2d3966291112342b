-- Each clause is a lemma on images.
use Rattle.cox_module.proofs.OneImage.{image-once, image-exists}
use Rattle.cox_module.proofs.laws.images.Goals as goal

pub returns-clause-exists : goal.returns-clause-exists
returns-clause-exists c = image-exists

pub returns-clause-unique : goal.returns-clause-unique
returns-clause-unique c = image-once
