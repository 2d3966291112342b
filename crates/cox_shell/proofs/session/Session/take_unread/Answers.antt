-- Where a list is open the line is kept there.
use Rattle.std.proofs.Common.{[], Some, IsSome, sym, ◌∙◌}
use Rattle.cox_shell.specs.Keeping.{with_line}
use Rattle.cox_shell.specs.ListReply.{unread_reply}
use Rattle.cox_shell.proofs.OpenListReplies.{unread_kept}
use Rattle.cox_shell.proofs.SaidReplies.{silent-one}
use Rattle.cox_shell.proofs.session.Session.take_unread.Goals as goal

pub returns-then-has_list-clause-ok : goal.returns-then-has_list-clause-ok
returns-then-has_list-clause-ok c =
    let some : IsSome c.args.self.now.list = sym c.has_list.ensures ∙ c.if-has_list.true in
    let is = unread_kept c.args.self.now c.args.why some in
    silent-one _ _ (with_line c.args.self.now (record { content = []; refused = Some c.args.why })) is.0
    (unread_reply c.args.self.now c.args.why) _ is.1 is.2 (rw c.refused.ensures at c.keep.ensures.ok)
