-- The reply to a line by its content, whether a list is open or none.
use Rattle.std.specs.Prelude.{◌≡◌, ℕ, List, [], None, Some, MatchOption}
use Rattle.std.specs.Option.{option_map_or}
use Rattle.cox_tokens.specs.Tokens.{tokens_of}
use Rattle.cox_command.specs.declared.blocks.ListWord.{ListWord}
use Rattle.cox_command.specs.declared.blocks.ListWord.TheVariants.{Next, End}
use Rattle.cox_command.specs.declared.refusal.Refusal.{Refusal}
use Rattle.cox_command.specs.BlockLines.{list_word_of}
use Rattle.cox_shell.specs.Reply.{Kept, OpenList, State, Reply, refusal, silence}
use Rattle.cox_shell.specs.ContentReply.{IsContentReply}
use Rattle.cox_shell.specs.OpenLists.{then_line, then_block}
use Rattle.cox_shell.specs.Blocks.{IsListReply}

-- the reply to a line that is kept: nothing
abbrev pub reply_when_kept : State → OpenList → Kept → Reply
reply_when_kept state list line = silence (record state { list = Some (then_line list line) })

-- in a list `next` begins another block and `end` ends the list
abbrev pub IsWordReply : ListWord → State → OpenList → Reply → Type 0
IsWordReply Next state list reply = reply ≡ silence (record state { list = Some (then_block list) })
IsWordReply End state list reply = IsListReply state list reply

-- every other line is kept
abbrev pub IsReplyInList : State → OpenList → List ℕ → Reply → Type 0
IsReplyInList state list content reply = MatchOption (list_word_of (tokens_of content))
    (reply ≡ reply_when_kept state list (record { content = content; refused = None })) (λ word. IsWordReply word state list reply)

-- the reply to a line with this content
abbrev pub IsReplyTo : State → List ℕ → Reply → Type 0
IsReplyTo state content reply = MatchOption state.list (IsContentReply state content reply) (λ list. IsReplyInList state list content reply)

-- the reply to a line that is refused by its bytes: in a list it is kept, as a line that is refused for this reason
abbrev pub unread_reply : State → Refusal → Reply
unread_reply state why =
    option_map_or (λ list. reply_when_kept state list (record { content = []; refused = Some why })) state.list (refusal state why)
