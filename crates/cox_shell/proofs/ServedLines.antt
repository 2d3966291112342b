-- What serving a line does, by what the session says to it.
use Rattle.std.proofs.Common.{◌≡◌, ◌<◌, ◌≤◌, ◌+◌, ℕ, false, cond, nat_lt, Option, Some, None, List, [], length, refl, sym, ap, subst, arith}
use Rattle.std.specs.Prelude.{Result, Ok, Err, IfOk, IsSomeAnd, true}
use Rattle.std.specs.List.{position}
use Rattle.std.specs.Option.{MatchOption, option_map, is_some}
use Rattle.std.specs.declared.alloc.AllocError.{AllocError}
use Rattle.std.proofs.lemmas.Bool.Decides.{nat_tests}
use Rattle.cox_outside.specs.declared.line_reader.Stop.{Stop}
use Rattle.cox_tokens.specs.declared.limits.TheConstants.{LINE_LIMIT}
use Rattle.cox_tokens.specs.Line.{is_foreign, content_of}
use Rattle.cox_outside.specs.Ahead.{Ahead}
use Rattle.cox_outside.specs.Reader.{TakesNext}
use Rattle.cox_command.specs.declared.refusal.Refusal.{Refusal}
use Rattle.cox_command.specs.declared.refusal.Refusal.TheVariants.{LongLine, ForeignByte}
use Rattle.cox_shell.specs.declared.session.Said.{Said}
use Rattle.cox_shell.specs.declared.session.Said.TheVariants.{Answered, Refused, Quit}
use Rattle.cox_command.specs.RefusalNumber.{refusal_number}
use Rattle.cox_outside.specs.Outlet.{Writes}
use Rattle.cox_shell.specs.Reply.{State, Reply}
use Rattle.cox_shell.specs.ListReply.{IsReplyTo, unread_reply}
use Rattle.cox_shell.specs.LineReply.{content_refusal}
use Rattle.cox_shell.specs.Saying.{Says}
use Rattle.cox_shell.specs.declared.status.Stopped.{Stopped}
use Rattle.cox_shell.specs.declared.status.Stopped.TheVariants as why
use Rattle.cox_outside.proofs.Known.{Writes-none}
use Rattle.cox_shell.specs.Run.{Stand, AnswersNextLine, Serves, TakesReplied, outcome_of}

-- a long content is refused so
pub content_refusal-long : (content : List ℕ) → LINE_LIMIT < length content → content_refusal content ≡ Some LongLine
content_refusal-long content long = grind (arith, nat_tests)

-- a content with a foreign byte is refused so
pub content_refusal-foreign : (content : List ℕ) (place : ℕ) → length content ≤ LINE_LIMIT
    → option_map (λ before. before + 1) (position is_foreign content) ≡ Some place → content_refusal content ≡ Some ForeignByte
content_refusal-foreign content place short =
    let not_long : nat_lt LINE_LIMIT (length content) ≡ false = grind (arith, nat_tests) in
    rw not_long (found_some (position is_foreign content)) where
      found_some : (found : Option ℕ) → option_map (λ before. before + 1) found ≡ Some place
          → cond {A = Option Refusal} (is_some found) (Some ForeignByte) None ≡ Some ForeignByte
      found_some None e = cc
      found_some (Some before) e = refl

-- what a session says to a line that is refused by its bytes
pub answers_refused : (said : Result Said AllocError) (why : Refusal) (line : List ℕ) (state next : State) (halt : Option Stop)
    (old new : Ahead)
    (before after : List ℕ)
    → content_refusal (content_of line) ≡ Some why → TakesNext halt line old new → before ≡ []
    → IfOk said (λ s. (reply : Reply) × (reply ≡ unread_reply state why) × Says s reply next before after)
    → AnswersNextLine (outcome_of said) state next halt old new after
answers_refused said why line state next halt old new before after refused takes empty says =
    elim said as (λ r. IfOk r (λ s. (reply : Reply) × (reply ≡ unread_reply state why) × Says s reply next before after)
    → AnswersNextLine (outcome_of r) state next halt old new after) [
      | Ok one ↦ λ s. (s.0, taken s.0 s.1, subst (λ b. Says one s.0 next b after) empty s.2)
      | Err error ↦ λ s. (unread_reply state why, taken (unread_reply state why) refl)
    ] says
  where
    taken : (reply : Reply) → reply ≡ unread_reply state why → TakesReplied reply state halt old new
    taken reply is = record {
      line = line;
      takes = takes;
      is_reply = subst (λ o. MatchOption o (IsReplyTo state (content_of line) reply) (λ n. reply ≡ unread_reply state n))
          (sym refused) is;
    }

-- where no line was answered, or there was no memory, nothing is written
pub AnswersNextLine-serves : (stopped : Stopped) (old new : Stand) (buffer : List ℕ)
    → AnswersNextLine (Err stopped) old.state new.state new.stop old.ahead new.ahead buffer → new.out ≡ old.out
    → Serves (Err stopped) old new
AnswersNextLine-serves why.End old new buffer h same = (h.0, same, h.2)
AnswersNextLine-serves why.ReadFault old new buffer h same = (h.0, same, h.2)
AnswersNextLine-serves why.WriteFault old new buffer h same = absurd h
AnswersNextLine-serves why.NoMemory old new buffer h same = record {
  reply = h.0;
  taken = h.1;
  prefix = [];
  is_prefix = (h.0.text, refl);
  writes = rw same (Writes-none old.out);
}
AnswersNextLine-serves why.InputLimit old new buffer h same = (h.0, same, h.2)

-- where a refusal is known, there is one
is_refusal : (found : Option Refusal) (P : Refusal → Type 0) → IsSomeAnd found P → is_some found ≡ true
is_refusal None P is = absurd is
is_refusal (Some why) P is = refl

-- a reply that was said is served once it is written
pub Says-serves : (said : Said) (old new : Stand) (reply : Reply) (buffer : List ℕ)
    → TakesReplied reply old.state new.stop old.ahead new.ahead → Says said reply new.state [] buffer
    → Writes reply.text old.out new.out → Serves (Ok said) old new
Says-serves Answered old new reply buffer taken says writes = record {
  reply = reply;
  taken = taken;
  writes = writes;
  state_after = says.state_after;
  refuses = ap is_some says.is_said.0;
  quitting = says.is_said.1;
}
Says-serves (Refused number) old new reply buffer taken says writes = record {
  reply = reply;
  taken = taken;
  writes = writes;
  state_after = says.state_after;
  refuses = is_refusal reply.refused (λ why. number ≡ refusal_number why) says.is_said.0;
  quitting = says.is_said.1;
}
Says-serves Quit old new reply buffer taken says writes = record {
  reply = reply;
  taken = taken;
  writes = writes;
  state_after = says.state_after;
  refuses = ap is_some says.is_said.0;
  quitting = says.is_said.1;
}
