-- The views tell the words.
use Rattle.cox_claims.proofs.ViewLaws.{views_tell_words}
use Rattle.cox_claims.proofs.laws.views_tell_words.Goals as goal

pub returns : goal.returns
returns c = views_tell_words
