-- What lines are answered that ask nothing of a group.
use Rattle.cox_laws.proofs.OtherCommands.{type-sets, matrix-sets, quit-replied, jobs-replied, blank-replied, refused-replied}
use Rattle.cox_laws.proofs.laws.other_commands.Goals as goal

pub returns-clause-named_type : goal.returns-clause-named_type
returns-clause-named_type c = type-sets

pub returns-clause-matrix : goal.returns-clause-matrix
returns-clause-matrix c = matrix-sets

pub returns-clause-quit : goal.returns-clause-quit
returns-clause-quit c = quit-replied

pub returns-clause-jobs : goal.returns-clause-jobs
returns-clause-jobs c = jobs-replied

pub returns-clause-blank : goal.returns-clause-blank
returns-clause-blank c = blank-replied

pub returns-clause-refused : goal.returns-clause-refused
returns-clause-refused c = refused-replied
