-- A list is refused, or is what its blocks are answered.
use Rattle.std.proofs.Common.{◌≡◌, ◌++◌, refl, sym, ap, ◌∙◌, subst}
use Rattle.cox_command.specs.declared.refusal.Refusal.TheVariants.{LongList}
use Rattle.cox_shell.specs.declared.session.Said.{Said}
use Rattle.cox_shell.specs.Reply.{closed, refusal}
use Rattle.cox_shell.specs.Blocks.{IsListReply, list_answered}
use Rattle.cox_shell.specs.AnsweredText.{Numbered, numbered, said_by}
use Rattle.cox_shell.specs.Saying.{IsSaid}
use Rattle.cox_shell.proofs.ListReplies.{IsListReply-exists}
use Rattle.cox_shell.proofs.OpenListReplies.{long_reply, short_reply, said_by-is}
use Rattle.cox_shell.proofs.SaidReplies.{SaysPrefix-puts_reply, nothing-put}
use Rattle.cox_shell.proofs.session.Session.answer_blocks.Goals as goal

pub returns-then-is_long-clause-err : goal.returns-then-is_long-clause-err
returns-then-is_long-clause-err g c =
    SaysPrefix-puts_reply _ (IsListReply c.args.self.now c.args.blocks.now) (refusal c.args.self.now LongList) c.args.self.now
    c.args.self.now _ _ (long_reply c.args.self.now c.args.blocks.now c.requires.outside (sym c.is_long.ensures ∙ c.if-is_long.true))
    c.refuse.ensures.err

pub returns-in_err-answered-clause-err : goal.returns-in_err-answered-clause-err
returns-in_err-answered-clause-err g c =
    let found = IsListReply-exists c.args.self.now c.rank-rank.ensures.matrix c.args.blocks.now in
    nothing-put _ (IsListReply c.args.self.now c.args.blocks.now) found.0 _ _ found.1 refl

pub returns-clause-ok : goal.returns-clause-ok
returns-clause-ok g c =
    let answered = (c.in_ok-answered.ensures {u = tt}).answered in
    let state = closed c.args.self.now in
    let is : c.in_ok-answered.answered ≡ numbered answered.0 = answered.2 in (
      list_answered state answered.0,
      short_reply c.args.self.now c.args.blocks.now answered.0 (sym c.is_long.ensures ∙ c.if-is_long.false) answered.1,
      record {
        is_said = subst (λ (s : Said). IsSaid s (list_answered state answered.0))
            (sym (c.said-said.ensures ∙ ap (λ (n : Numbered). said_by n.refused) is)) (said_by-is state answered.0);
        text = (c.in_ok-put_behind.ensures {u = tt}).items
            ∙ ap (λ t. c.args.out.now.items ++ t) (ap (λ (n : Numbered). n.text) is);
      },
    )

pub returns-in_err-put_behind-clause-err : goal.returns-in_err-put_behind-clause-err
returns-in_err-put_behind-clause-err g c =
    let found = IsListReply-exists c.args.self.now c.rank-rank.ensures.matrix c.args.blocks.now in
    nothing-put _ (IsListReply c.args.self.now c.args.blocks.now) found.0 _ _ found.1 c.in_err-put_behind.ensures.kept
