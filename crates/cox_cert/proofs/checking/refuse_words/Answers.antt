-- The usage line is due whatever the words are.
use Rattle.cox_cert.proofs.WholeChecks.{check-usage}
use Rattle.cox_cert.proofs.checking.refuse_words.Goals as goal

pub returns : goal.returns
returns g c = λ words some source. check-usage c.tell.result words source _ _ some c.tell.ensures
