-- The laws of certificates.
use Rattle.cox_cert.proofs.Certificates.{gives-one}
use Rattle.cox_cert.proofs.Verdicts.{no_cause, first_cause-one}
use Rattle.cox_cert.proofs.Accepted.{certificate_text-gives}
use Rattle.cox_cert.proofs.laws.certificates.Goals as goal

pub returns-clause-one : goal.returns-clause-one
returns-clause-one c = gives-one

pub returns-clause-accepted : goal.returns-clause-accepted
returns-clause-accepted c = λ d is top interval small row. record {
  certificate = d;
  gives = certificate_text-gives d is small;
  top = top;
  interval = interval;
  small = small;
  row = row;
}

pub returns-clause-one_verdict : goal.returns-clause-one_verdict
returns-clause-one_verdict c = no_cause

pub returns-clause-one_cause : goal.returns-clause-one_cause
returns-clause-one_cause c = first_cause-one
