-- What is written is the usage line, or a prefix of it.
use Rattle.cox_shell.proofs.UnreadRuns.{run-usage, run-usage_cut_off, read-usage}
use Rattle.cox_shell.proofs.top.put_usage.Goals as goal

pub returns-in-Ok-clause-run : goal.returns-in-Ok-clause-run
returns-in-Ok-clause-run g c arguments supply wrong = run-usage arguments supply _ _ wrong c.in-Ok.ensures.ok c.in-Ok.ensures.cause

pub returns-in-Ok-clause-reading : goal.returns-in-Ok-clause-reading
returns-in-Ok-clause-reading g c arguments supply wrong = read-usage _ arguments supply wrong

pub returns-in-Err-clause-run : goal.returns-in-Err-clause-run
returns-in-Err-clause-run g c arguments supply wrong =
    let put = c.in-Err.ensures.err in
    run-usage_cut_off arguments supply _ _ wrong put.0 put.1 put.2 c.in-Err.ensures.full c.in-Err.ensures.cause

pub returns-in-Err-clause-reading : goal.returns-in-Err-clause-reading
returns-in-Err-clause-reading g c arguments supply wrong = read-usage _ arguments supply wrong
