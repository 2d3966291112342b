-- What `--NAME=N` gives.
use Rattle.cox_options.proofs.OneNumber.{joined_taken, joined_number}
use Rattle.cox_options.proofs.laws.joined_number_is_given.Goals as goal

pub returns-clause-taken : goal.returns-clause-taken
returns-clause-taken c = joined_taken

pub returns-clause-number : goal.returns-clause-number
returns-clause-number c = joined_number
