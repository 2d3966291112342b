-- What `--NAME N` gives.
use Rattle.cox_options.proofs.OneNumber.{next_taken, next_number}
use Rattle.cox_options.proofs.laws.next_number_is_given.Goals as goal

pub returns-clause-taken : goal.returns-clause-taken
returns-clause-taken c = next_taken

pub returns-clause-number : goal.returns-clause-number
returns-clause-number c = next_number
