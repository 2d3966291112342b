-- What `module` answers meets the relations.
use Rattle.cox_replies.proofs.PrintedModules.{printed-module}
use Rattle.cox_replies.proofs.laws.printed_modules.Goals as goal

pub returns : goal.returns
returns c = printed-module
