-- What `cert` answers is accepted.
use Rattle.cox_laws.proofs.CertProofs.{cert-accepted, cert-checked}
use Rattle.cox_laws.proofs.laws.certificates.Goals as goal

pub returns-clause-proof : goal.returns-clause-proof
returns-clause-proof c = λ limits m w text matrix rank word free is. cert-accepted limits m w text matrix rank free is

pub returns-clause-checked : goal.returns-clause-checked
returns-clause-checked c = λ limits m w text matrix rank word free is. cert-checked limits m w text matrix rank free is
