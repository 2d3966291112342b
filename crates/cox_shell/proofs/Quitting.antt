-- No list is open behind a line that ends the run.
use Rattle.std.proofs.Common.{◌≡◌, ℕ, true, false, List, Option, Some, None, IsSomeAnd, MatchOption, refl, sym, ap, ◌∙◌, true≢false}
use Rattle.cox_tokens.specs.Tokens.{tokens_of}
use Rattle.cox_tokens.specs.Line.{content_of}
use Rattle.cox_command.specs.declared.refusal.Refusal.{Refusal}
use Rattle.cox_command.specs.declared.command.Command.{Command}
use Rattle.cox_command.specs.declared.command.Command.TheVariants.{Nothing, Quit, Group, Jobs, Ask}
use Rattle.cox_command.specs.LineRefusal.{line_refusal}
use Rattle.cox_command.specs.CommandReading.{command_of}
use Rattle.cox_shell.specs.Reply.{OpenList, State, Reply, rank_of, refusal, silence}
use Rattle.cox_shell.specs.CommandReply.{RefusesGroup, IsCommandReply}
use Rattle.cox_shell.specs.ContentReply.{IsContentReply}
use Rattle.cox_shell.specs.ListReply.{IsReplyInList}
use Rattle.cox_shell.specs.LineReply.{IsReply, content_refusal}
use Rattle.cox_shell.proofs.KeptLines.{kept_refusal}
use Rattle.cox_shell.proofs.DecidedReplies.{IsDecided-all}
use Rattle.cox_shell.proofs.KeptGroup.{IsInquiryReply-state}
use Rattle.cox_shell.proofs.ListReplies.{in_list-group}

-- a reply that ends the run leaves the list as it is
abbrev KeepsList : State → Reply → Type 0
KeepsList state reply = reply.quits ≡ true → reply.after.list ≡ state.list

-- one that leaves the state does
by_state : (state : State) (reply : Reply) → reply.after ≡ state → KeepsList state reply
by_state state reply same = λ quits. ap (λ (s : State). s.list) same

by_going : (state : State) (reply : Reply) → reply.quits ≡ false → KeepsList state reply
by_going state reply going = λ quits. absurd (true≢false (sym quits ∙ going))

command-list : (command : Command) (state : State) (reply : Reply) → IsCommandReply command state reply → KeepsList state reply
command-list Nothing state reply is = by_state state reply (ap (λ (r : Reply). r.after) is)
command-list Quit state reply is = by_state state reply (ap (λ (r : Reply). r.after) is)
command-list Jobs state reply is = by_going state reply (ap (λ (r : Reply). r.quits) is)
command-list (Ask inquiry) state reply is = by_state state reply (IsInquiryReply-state inquiry state reply is)
command-list (Group g) state reply is =
    IsDecided-all (RefusesGroup state.limits g) state (λ answer. answer ≡ silence (record state { group = Some g }))
    (λ r. KeepsList state r) (λ why quits. refl) (λ r answer. by_going state r (ap (λ (s : Reply). s.quits) answer)) reply is

content-list : (state : State) (content : List ℕ) (reply : Reply) → IsContentReply state content reply → KeepsList state reply
unfolding IsContentReply
content-list state content reply is = by_refusal (line_refusal (tokens_of content) (rank_of state)) is
  where
    by_command : (o : Option Command) → IsSomeAnd o (λ command. IsCommandReply command state reply) → KeepsList state reply
    by_command None is = absurd is
    by_command (Some command) is = command-list command state reply is

    by_refusal : (o : Option Refusal)
        → MatchOption o (IsSomeAnd (command_of (tokens_of content) (rank_of state)) (λ command. IsCommandReply command state reply))
        (λ why. reply ≡ refusal state why) → KeepsList state reply
    by_refusal None is = by_command (command_of (tokens_of content) (rank_of state)) is
    by_refusal (Some why) is = by_state state reply (ap (λ (r : Reply). r.after) is)

-- where none was open, none is open; and inside a list no line ends the run
pub quits-closed : (state : State) (line : List ℕ) (reply : Reply) → IsReply state line reply → reply.quits ≡ true
    → reply.after.list ≡ None
quits-closed state line reply is quits = by_list state.list refl is
  where
    content : List ℕ
    content = content_of line

    by_list : (o : Option OpenList) → state.list ≡ o
        → MatchOption (content_refusal content)
        (MatchOption o (IsContentReply state content reply) (λ list. IsReplyInList state list content reply))
        (λ why. reply ≡ kept_refusal o state why) → reply.after.list ≡ None
    by_list None none is = by_refusal (content_refusal content) is
      where
        by_refusal : (r : Option Refusal) → MatchOption r (IsContentReply state content reply) (λ why. reply ≡ refusal state why)
            → reply.after.list ≡ None
        by_refusal None is = content-list state content reply is quits ∙ none
        by_refusal (Some why) is = absurd (true≢false (sym quits ∙ ap (λ (r : Reply). r.quits) is))
    by_list (Some list) some is = by_refusal (content_refusal content) is
      where
        by_refusal : (r : Option Refusal)
            → MatchOption r (IsReplyInList state list content reply) (λ why. reply ≡ kept_refusal (Some list) state why)
            → reply.after.list ≡ None
        by_refusal None is = absurd (true≢false (sym quits ∙ (in_list-group state list content reply is).1))
        by_refusal (Some why) is = absurd (true≢false (sym quits ∙ ap (λ (r : Reply). r.quits) is))
