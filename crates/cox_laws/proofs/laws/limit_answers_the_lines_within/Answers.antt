-- The law `limit_answers_the_lines_within`.
use Rattle.cox_laws.proofs.LimitedRuns.{limit-within}
use Rattle.cox_laws.proofs.laws.limit_answers_the_lines_within.Goals as goal

pub returns : goal.returns
returns c = limit-within
