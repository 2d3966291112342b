-- The proof of `Session::answer_content`.
use Rattle.std.proofs.Common.{◌≡◌, None, Some}
use Rattle.cox_tokens.specs.Tokens.{tokens_of}
use Rattle.cox_command.specs.LineRefusal.{line_refusal}
use Rattle.cox_command.specs.CommandReading.{command_of}
use Rattle.cox_shell.specs.Reply.{rank_of}
use Rattle.cox_shell.specs.CommandReply.{IsCommandReply}
use Rattle.cox_shell.specs.ContentReply.{IsContentReply}
use Rattle.cox_shell.proofs.ContentReply.{IsContentReply-command, IsContentReply-refusal}
use Rattle.cox_shell.proofs.SaidReplies.{Says-follows, SaysPrefix-follows, Says-reply, SaysPrefix-reply}
use Rattle.cox_shell.proofs.session.Session.answer_content.Goals as goal

pub returns-in-Ok-clause-ok : goal.returns-in-Ok-clause-ok
returns-in-Ok-clause-ok g c =
    let read = c.in-Ok.ensures {u = tt} in
    let accepted : line_refusal (tokens_of c.args.line.now) (rank_of c.args.self.now) ≡ None = rw (← c.rank.ensures.rank) read.0 in
    let given : command_of (tokens_of c.args.line.now) (rank_of c.args.self.now) ≡ Some c.in-Ok.command =
    rw (← c.rank.ensures.rank) read.1 in
    Says-follows _ (IsCommandReply c.in-Ok.command c.args.self.now) (IsContentReply c.args.self.now c.args.line.now) _ _ _
    (λ reply is. IsContentReply-command _ _ c.in-Ok.command reply accepted given is) c.obey.ensures.ok

pub returns-in-Ok-clause-err : goal.returns-in-Ok-clause-err
returns-in-Ok-clause-err g c =
    let read = c.in-Ok.ensures {u = tt} in
    let accepted : line_refusal (tokens_of c.args.line.now) (rank_of c.args.self.now) ≡ None = rw (← c.rank.ensures.rank) read.0 in
    let given : command_of (tokens_of c.args.line.now) (rank_of c.args.self.now) ≡ Some c.in-Ok.command =
    rw (← c.rank.ensures.rank) read.1 in
    SaysPrefix-follows _ (IsCommandReply c.in-Ok.command c.args.self.now) (IsContentReply c.args.self.now c.args.line.now) _ _ _ _
    (λ reply is. IsContentReply-command _ _ c.in-Ok.command reply accepted given is) c.obey.ensures.err

pub returns-in-Err-clause-ok : goal.returns-in-Err-clause-ok
returns-in-Err-clause-ok g c =
    let refused : line_refusal (tokens_of c.args.line.now) (rank_of c.args.self.now) ≡ Some c.in-Err.fault.refusal =
    rw (← c.rank.ensures.rank) (c.in-Err.ensures {u = tt}) in
    Says-reply _ (IsContentReply c.args.self.now c.args.line.now) _ _ _ _ (IsContentReply-refusal _ _ _ refused) c.refuse.ensures.ok

pub returns-in-Err-clause-err : goal.returns-in-Err-clause-err
returns-in-Err-clause-err g c =
    let refused : line_refusal (tokens_of c.args.line.now) (rank_of c.args.self.now) ≡ Some c.in-Err.fault.refusal =
    rw (← c.rank.ensures.rank) (c.in-Err.ensures {u = tt}) in
    SaysPrefix-reply _ (IsContentReply c.args.self.now c.args.line.now) _ _ _ _ _ (IsContentReply-refusal _ _ _ refused)
    c.refuse.ensures.err
