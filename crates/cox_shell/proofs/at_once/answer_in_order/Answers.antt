-- The session of its own is in the same state, but for the list.
use Rattle.std.proofs.Common.{◌≡◌}
use Rattle.cox_shell.specs.Reply.{closed}
use Rattle.cox_shell.specs.AnsweredText.{no_text}
use Rattle.cox_shell.proofs.at_once.answer_in_order.Goals as goal

pub returns : goal.returns
returns g c =
    let own : c.in_ok-own.own ≡ closed c.args.session.now = c.in_ok-own.ensures {u = tt} in
    rw (own, c.new-answered.ensures) at (c.in_ok-answer_each.ensures {u = tt}).answered
