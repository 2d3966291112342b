-- The reply to a line.
use Rattle.std.specs.Prelude.{◌≡◌, ℕ, if◌then◌else◌, nat_lt, List, length, Option, None, Some, MatchOption, is_some, position}
use Rattle.cox_tokens.specs.declared.limits.TheConstants.{LINE_LIMIT}
use Rattle.cox_tokens.specs.Line.{is_foreign, content_of}
use Rattle.cox_command.specs.declared.refusal.Refusal.{Refusal}
use Rattle.cox_command.specs.declared.refusal.Refusal.TheVariants.{LongLine, ForeignByte}
use Rattle.cox_shell.specs.Reply.{State, Reply}
use Rattle.cox_shell.specs.ListReply.{IsReplyTo, unread_reply}

-- the content of a line is longer than the limit, or else a byte of it is outside 0x20 to 0x7E
abbrev pub content_refusal : List ℕ → Option Refusal
content_refusal content = if nat_lt LINE_LIMIT (length content) then Some LongLine else
    (if is_some (position is_foreign content) then Some ForeignByte else None)

-- the reply to a line, given by its bytes up to its end
abbrev pub IsReply : State → List ℕ → Reply → Type 0
IsReply state line reply = MatchOption (content_refusal (content_of line)) (IsReplyTo state (content_of line) reply)
    (λ why. reply ≡ unread_reply state why)
