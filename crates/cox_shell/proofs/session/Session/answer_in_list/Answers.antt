-- A line where a list is open.
use Rattle.std.proofs.Common.{◌≡◌, Some, None, sym, ap, ◌∙◌}
use Rattle.cox_tokens.specs.Tokens.{tokens_of}
use Rattle.cox_command.specs.declared.blocks.ListWord.TheVariants.{Next, End}
use Rattle.cox_command.specs.BlockLines.{list_word_of}
use Rattle.cox_shell.specs.Blocks.{IsEndOfList}
use Rattle.cox_shell.specs.ListReply.{IsReplyTo}
use Rattle.cox_shell.specs.Keeping.{with_line, with_block}
use Rattle.cox_shell.proofs.OpenListReplies.{next_reply, end_reply, keep_reply}
use Rattle.cox_shell.proofs.SaidReplies.{silent-says, silent-breaks, Says-follows, SaysPrefix-follows}
use Rattle.cox_shell.proofs.session.Session.answer_in_list.Goals as goal

pub returns-in-Some-Next-clause-ok : goal.returns-in-Some-Next-clause-ok
returns-in-Some-Next-clause-ok g c =
    let word : list_word_of (tokens_of c.args.line.now) ≡ Some Next =
    sym c.parting_word.ensures ∙ c.in-Some-Next.is ∙ ap Some c.in-Some-Next.field-0-is in
    let is = next_reply c.args.self.now c.args.line.now c.requires.open_list word in
    silent-says _ _ (with_block c.args.self.now) is.0 (IsReplyTo c.args.self.now c.args.line.now) _ is.1 is.2 c.begin_block.ensures.ok

pub returns-in-Some-Next-clause-err : goal.returns-in-Some-Next-clause-err
returns-in-Some-Next-clause-err g c =
    let word : list_word_of (tokens_of c.args.line.now) ≡ Some Next =
    sym c.parting_word.ensures ∙ c.in-Some-Next.is ∙ ap Some c.in-Some-Next.field-0-is in
    let is = next_reply c.args.self.now c.args.line.now c.requires.open_list word in
    silent-breaks _ c.args.self.now _ is.0 (IsReplyTo c.args.self.now c.args.line.now) _ is.1 c.begin_block.ensures.err

pub returns-in-Some-End-clause-ok : goal.returns-in-Some-End-clause-ok
returns-in-Some-End-clause-ok g c =
    let word : list_word_of (tokens_of c.args.line.now) ≡ Some End =
    sym c.parting_word.ensures ∙ c.in-Some-End.is ∙ ap Some c.in-Some-End.field-0-is in
    Says-follows _ (IsEndOfList c.args.self.now) (IsReplyTo c.args.self.now c.args.line.now) _ _ _
    (λ reply is. end_reply c.args.self.now c.args.line.now reply word is) c.end_list.ensures.ok

pub returns-in-Some-End-clause-err : goal.returns-in-Some-End-clause-err
returns-in-Some-End-clause-err g c =
    let word : list_word_of (tokens_of c.args.line.now) ≡ Some End =
    sym c.parting_word.ensures ∙ c.in-Some-End.is ∙ ap Some c.in-Some-End.field-0-is in
    SaysPrefix-follows _ (IsEndOfList c.args.self.now) (IsReplyTo c.args.self.now c.args.line.now) _ _ _ _
    (λ reply is. end_reply c.args.self.now c.args.line.now reply word is) c.end_list.ensures.err

pub returns-in-None-clause-ok : goal.returns-in-None-clause-ok
returns-in-None-clause-ok g c =
    let word : list_word_of (tokens_of c.args.line.now) ≡ None = sym c.parting_word.ensures ∙ c.in-None.is in
    let is = keep_reply c.args.self.now c.args.line.now c.requires.open_list word in
    silent-says _ _ (with_line c.args.self.now (record { content = c.args.line.now; refused = None })) is.0
    (IsReplyTo c.args.self.now c.args.line.now) _ is.1 is.2 c.keep_content.ensures.ok

pub returns-in-None-clause-err : goal.returns-in-None-clause-err
returns-in-None-clause-err g c =
    let word : list_word_of (tokens_of c.args.line.now) ≡ None = sym c.parting_word.ensures ∙ c.in-None.is in
    let is = keep_reply c.args.self.now c.args.line.now c.requires.open_list word in
    silent-breaks _ c.args.self.now _ is.0 (IsReplyTo c.args.self.now c.args.line.now) _ is.1 c.keep_content.ensures.err

pub parting_word-requires-clause-read : goal.parting_word-requires-clause-read
parting_word-requires-clause-read g c = (c.rank-rank.result, c.read_in_block-gives.ensures)
