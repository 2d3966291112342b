-- A line where no list is open.
use Rattle.std.proofs.Common.{◌≡◌, None, sym, ◌∙◌}
use Rattle.cox_shell.specs.ContentReply.{IsContentReply}
use Rattle.cox_shell.specs.ListReply.{IsReplyTo}
use Rattle.cox_shell.proofs.OpenListReplies.{outside_reply, none_open}
use Rattle.cox_shell.proofs.SaidReplies.{Says-follows, SaysPrefix-follows}
use Rattle.cox_shell.proofs.session.Session.answer_line.Goals as goal

pub returns-clause-ok : goal.returns-clause-ok
returns-clause-ok g c =
    let none : c.args.self.now.list ≡ None = none_open _ (sym c.has_list.ensures ∙ c.if-has_list.false) in
    Says-follows _ (IsContentReply c.args.self.now c.args.line.now) (IsReplyTo c.args.self.now c.args.line.now) _ _ _
    (λ reply is. outside_reply c.args.self.now c.args.line.now reply none is) c.answer_content.ensures.ok

pub returns-clause-err : goal.returns-clause-err
returns-clause-err g c =
    let none : c.args.self.now.list ≡ None = none_open _ (sym c.has_list.ensures ∙ c.if-has_list.false) in
    SaysPrefix-follows _ (IsContentReply c.args.self.now c.args.line.now) (IsReplyTo c.args.self.now c.args.line.now) _ _ _ _
    (λ reply is. outside_reply c.args.self.now c.args.line.now reply none is) c.answer_content.ensures.err
