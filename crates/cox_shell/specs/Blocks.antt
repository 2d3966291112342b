-- What the blocks of a list are answered, and the list.
use Rattle.std.specs.Prelude.{◌≡◌, false, MatchBool, IsSomeAnd, List, [], ◌∷◌, slice_get, MatchOption}
use Rattle.std.specs.List.{filter_map}
use Rattle.std.specs.Option.{option_or}
use Rattle.cox_tokens.specs.Tokens.{tokens_of}
use Rattle.cox_command.specs.declared.refusal.Refusal.TheVariants.{LongList}
use Rattle.cox_command.specs.BlockLines.{block_refusal}
use Rattle.cox_shell.specs.Reply.{Kept, OpenList, State, Reply, closed, refusal, texts}
use Rattle.cox_shell.specs.ContentReply.{IsContentReply}
use Rattle.cox_shell.specs.OpenLists.{kept_lines, is_long}

-- The reply to a line that is kept: it is refused if its bytes are, or if it may not stand in a block; else it is answered as outside. No
-- such line changes the state.
abbrev pub IsBlockLineReply : State → Kept → Reply → Type 0
IsBlockLineReply state line reply = MatchOption (option_or line.refused (block_refusal (tokens_of line.content)))
    (IsContentReply state line.content reply) (λ why. reply ≡ refusal state why)

-- these are the replies to lines that are kept, in their order, each as it is given in this state
abbrev pub AreBlockLineReplies : State → List Kept → List Reply → Type 0
AreBlockLineReplies state [] replies = replies ≡ []
AreBlockLineReplies state (line ∷ lines) [] = ⊥
AreBlockLineReplies state (line ∷ lines) (reply ∷ replies) = IsBlockLineReply state line reply × AreBlockLineReplies state lines replies

-- the reply that writes what these write, refused as the first of them that is refused
abbrev pub list_answered : State → List Reply → Reply
list_answered state replies =
    record { text = texts replies; after = state; refused = slice_get (filter_map (λ reply. reply.refused) replies) 0; quits = false }

-- The reply to the end of a list: it is refused, if it is too long; else it writes what its lines write, block after block. No list is open
-- then.
abbrev pub IsListReply : State → OpenList → Reply → Type 0
IsListReply state list reply = MatchBool (is_long list) (reply ≡ refusal (closed state) LongList) ((replies : List Reply)
    × AreBlockLineReplies (closed state) (kept_lines list) replies × (reply ≡ list_answered (closed state) replies))

-- the reply to the end of the list that is open
abbrev pub IsEndOfList : State → Reply → Type 0
IsEndOfList state reply = IsSomeAnd state.list (λ list. IsListReply state list reply)
