-- The blocks are answered in a session of their own, which has the same state but for the list.
use Rattle.std.proofs.Common.{◌≡◌, refl}
use Rattle.cox_shell.specs.Reply.{closed}
use Rattle.cox_shell.specs.Blocks.{IsListReply}
use Rattle.cox_shell.proofs.ListReplies.{IsListReply-exists}
use Rattle.cox_shell.proofs.SaidReplies.{nothing-put}
use Rattle.cox_shell.proofs.session.Session.answer_jobs.Goals as goal

pub returns-in_err-own-clause-err : goal.returns-in_err-own-clause-err
returns-in_err-own-clause-err g c =
    let found = IsListReply-exists c.args.self.now c.rank-rank.ensures.matrix c.args.blocks.now in
    nothing-put _ (IsListReply c.args.self.now c.args.blocks.now) found.0 _ _ found.1 refl

pub returns-clause-ok : goal.returns-clause-ok
returns-clause-ok g c =
    let own : c.in_ok-own.own ≡ closed c.args.self.now = c.in_ok-own.ensures {u = tt} in rw own at c.answer_blocks_with.ensures.ok

pub returns-clause-err : goal.returns-clause-err
returns-clause-err g c =
    let own : c.in_ok-own.own ≡ closed c.args.self.now = c.in_ok-own.ensures {u = tt} in rw own at c.answer_blocks_with.ensures.err
