-- The reply to a line by what was given of it.
use Rattle.std.specs.Prelude.{◌≡◌, ◌<◌, ◌^◌, ℕ, length}
use Rattle.cox_command.specs.declared.refusal.Refusal.{Refusal}
use Rattle.cox_command.specs.RefusalNumber.{refusal_number}
use Rattle.cox_shell.specs.declared.session.Given.{Given}
use Rattle.cox_shell.specs.declared.session.Given.TheVariants.{Content, Unread}
use Rattle.cox_shell.specs.Reply.{State, Reply}
use Rattle.cox_shell.specs.ListReply.{IsReplyTo, unread_reply}

-- its content has fewer than 2^32 bytes
abbrev pub IsShort : Given → Type 0
IsShort (Content line) = length line.now < 2 ^ 32
IsShort (Unread why) = Unit {0}

-- the reply to its content, or to what its bytes are refused for
abbrev pub IsGivenReply : State → Given → Reply → Type 0
IsGivenReply state (Content line) reply = IsReplyTo state line.now reply
IsGivenReply state (Unread why) reply = reply ≡ unread_reply state why

-- the reply to a line whose bytes are refused under this number
abbrev pub IsBadReply : State → ℕ → Reply → Type 0
IsBadReply state number reply = (why : Refusal) × (refusal_number why ≡ number) × (reply ≡ unread_reply state why)
