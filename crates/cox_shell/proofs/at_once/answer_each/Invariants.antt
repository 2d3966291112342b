-- What was answered so far; the state stays.
use Rattle.std.proofs.Common.{◌≡◌}
use Rattle.cox_shell.proofs.AnsweredBlocks.{HasAnsweredBlocks}
use Rattle.cox_shell.proofs.at_once.answer_each.Given as goal

abbrev pub invariant-each : goal.invariant-each
invariant-each g l = record {
  same : l.own ≡ l.fn.own;
  answered : HasAnsweredBlocks l.fn.own l.fn.blocks l.place l.fn.answered l.answered;
}
