-- The proof of `need_of`: by the question of each command.
use Rattle.cox_answers.proofs.Makes.{group-refuses}
use Rattle.cox_answers.proofs.needs.need_of.Goals as goal

pub returns-in-OfRow-clause-refused : goal.returns-in-OfRow-clause-refused
returns-in-OfRow-clause-refused c = λ limits g why refused. rw (c.in-One.is, c.in-OfRow.is) refused

pub returns-in-Cert-clause-refused : goal.returns-in-Cert-clause-refused
returns-in-Cert-clause-refused c = λ limits g why refused. rw (c.in-One.is, c.in-Cert.is) refused

pub returns-in-Module-clause-refused : goal.returns-in-Module-clause-refused
returns-in-Module-clause-refused c = λ limits g why refused. rw (c.in-One.is, c.in-Module.is) refused

pub returns-in-OfEntry-clause-refused : goal.returns-in-OfEntry-clause-refused
returns-in-OfEntry-clause-refused c = λ limits g why refused. rw (c.in-Two.is, c.in-OfEntry.is) refused

pub returns-in-Invpol-clause-refused : goal.returns-in-Invpol-clause-refused
returns-in-Invpol-clause-refused c = λ limits g why refused. rw (c.in-Two.is, c.in-Invpol.is) refused

pub returns-in-Invpol-clause-enough : goal.returns-in-Invpol-clause-enough
returns-in-Invpol-clause-enough c = λ work found is. rw (c.in-Two.is, c.in-Invpol.is) is

pub returns-in-Plain-clause-refused : goal.returns-in-Plain-clause-refused
returns-in-Plain-clause-refused c = λ limits g why refused. rw (c.in-Plain.is, group-refuses) refused
