-- The reply to what a line gives is the reply to the line.
use Rattle.std.proofs.Common.{◌≡◌, ℕ, List, None, sym, ◌∙◌, subst}
use Rattle.cox_shell.specs.Blocks.{IsBlockLineReply}
use Rattle.cox_shell.specs.BlockReading.{Gives, IsBlockReply}
use Rattle.cox_shell.proofs.BlockReadings.{none_of, block_line_reply-given}
use Rattle.cox_shell.proofs.SaidReplies.{SaysText-follows}
use Rattle.cox_shell.proofs.session.Session.answer_block_line.Goals as goal

pub returns-in-Some-gives-clause-ok : goal.returns-in-Some-gives-clause-ok
returns-in-Some-gives-clause-ok g c =
    let readable : c.args.line.now.refused ≡ None = sym c.refusal.ensures ∙ none_of _ c.in_default.not-Some in
    let gives = c.in-Some-gives.gives.now in
    SaysText-follows _ (IsBlockReply gives c.args.self.now) (IsBlockLineReply c.args.self.now c.args.line.now) _ _
    (block_line_reply-given c.args.self.now c.args.line.now gives c.rank-rank.result readable c.rank-rank.ensures.rank
    (c.in-Some-gives.ensures {u = tt})) c.answer_reading.ensures.ok

pub returns-clause-ok : goal.returns-clause-ok
returns-clause-ok g c =
    let readable : c.args.line.now.refused ≡ None = sym c.refusal.ensures ∙ none_of _ c.in_default.not-Some in
    let gives = c.read_in_block-gives.result in
    let read = subst (λ (content : List ℕ). Gives gives content c.rank-rank.result) c.content.ensures.content
    c.read_in_block-gives.ensures in
    SaysText-follows _ (IsBlockReply gives c.args.self.now) (IsBlockLineReply c.args.self.now c.args.line.now) _ _
    (block_line_reply-given c.args.self.now c.args.line.now gives c.rank-rank.result readable c.rank-rank.ensures.rank read)
    c.answer_reading-2.ensures.ok
