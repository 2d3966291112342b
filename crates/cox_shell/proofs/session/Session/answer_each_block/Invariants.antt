-- What was answered so far; the state stays.
use Rattle.std.proofs.Common.{◌≡◌}
use Rattle.cox_shell.proofs.AnsweredBlocks.{HasAnsweredBlocks}
use Rattle.cox_shell.proofs.session.Session.answer_each_block.Given as goal

abbrev pub invariant-each : goal.invariant-each
invariant-each g l = record {
  same : l.self ≡ l.fn.self;
  answered : HasAnsweredBlocks l.fn.self l.fn.blocks l.block-index l.fn.answered l.answered;
}
