-- Two parts, each with some of the workers.
use Rattle.std.proofs.Common.{rules, ◌++◌, ◌≡◌}
use denote.Param.Send.{sendable}
use Rattle.std.proofs.Crossing.{crosses}
use Rattle.cox_shell.proofs.AnsweredBlocks.{AnswersList-both}
use Rattle.cox_shell.proofs.Shared.{Session-sync}
use Rattle.cox_shell.proofs.list.Block.TheSendSync as Block
use Rattle.cox_shell.proofs.at_once.+answer_parts+fn-answer_parts-join+arg2+fn-answer_parts-join+arg3.Goals as goal

pub returns : goal.returns
returns g t c =
    let whole : c.split_at.result.0.now ++ c.split_at.result.1.now ≡ c.args.blocks.now = search rules in
    rw (c.in_ok-append.ensures {u = tt}, ← whole)
    (AnswersList-both c.args.session.now c.split_at.result.0.now c.split_at.result.1.now c.in_ok-answered.answered c.in_ok-back.field-0
    (rw c.in_ok-answered.was at c.join-front.ensures.first) (rw c.in_ok-back.was at c.join-front.ensures.second))

pub join-front-requires-send-F : goal.join-front-requires-send-F
join-front-requires-send-F g t c κs within = search (Block.the_sync, Session-sync, sendable, crosses) depth 40 fits 20000
