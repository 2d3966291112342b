-- What was answered so far; the state stays.
use Rattle.std.proofs.Common.{◌≡◌}
use Rattle.cox_shell.proofs.AnsweredBlocks.{HasAnswered}
use Rattle.cox_shell.proofs.session.Session.answer_block.Given as goal

abbrev pub invariant-lines : goal.invariant-lines
invariant-lines g l = record {
  same : l.self ≡ l.fn.self;
  answered : HasAnswered l.fn.self l.line-items l.line-index l.fn.answered l.answered;
}
