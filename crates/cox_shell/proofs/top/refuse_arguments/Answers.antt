-- Wrong arguments are answered by the usage line; without memory nothing is written.
use Rattle.cox_shell.proofs.UnreadRuns.{run-none, read-none}
use Rattle.cox_shell.proofs.top.refuse_arguments.Goals as goal

pub returns-in-Usage-clause-run : goal.returns-in-Usage-clause-run
returns-in-Usage-clause-run g c arguments supply wrong = c.put_usage.ensures.run arguments supply (wrong c.in-Usage.is)

pub returns-in-Usage-clause-reading : goal.returns-in-Usage-clause-reading
returns-in-Usage-clause-reading g c arguments supply wrong = c.put_usage.ensures.reading arguments supply (wrong c.in-Usage.is)

pub returns-in-NoMemory-clause-run : goal.returns-in-NoMemory-clause-run
returns-in-NoMemory-clause-run g c arguments supply wrong = run-none arguments supply _

pub returns-in-NoMemory-clause-reading : goal.returns-in-NoMemory-clause-reading
returns-in-NoMemory-clause-reading g c arguments supply wrong = read-none arguments supply
