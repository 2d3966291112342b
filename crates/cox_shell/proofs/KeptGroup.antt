-- The group that is set stays a Coxeter matrix.
use Rattle.std.proofs.Common.{◌≡◌, ℕ, List, [], ◌∷◌, ◌++◌, Option, Some, None, IfSome}
use Rattle.std.proofs.Common.{IsSomeAnd, MatchOption, refl, sym, ap, subst}
use Rattle.std.specs.Option.{option_map}
use Rattle.cox_base.specs.Admissible.{IsCoxeterMatrix}
use Rattle.cox_command.specs.declared.refusal.Refusal.{Refusal}
use Rattle.cox_command.specs.declared.command.Command.{Command}
use Rattle.cox_command.specs.declared.command.Command.TheVariants.{Nothing, Quit, Group, Jobs, Ask}
use Rattle.cox_command.specs.declared.command_word.CommandWord.{CommandWord}
use Rattle.cox_command.specs.CommandWord.{command_word_of}
use Rattle.cox_tokens.specs.Tokens.{tokens_of}
use Rattle.cox_command.specs.LineRefusal.{command_refusal, line_refusal}
use Rattle.cox_command.specs.CommandReading.{command_by, command_of}
use Rattle.cox_shell.specs.Reply.{State, Reply, rank_of, refusal, silence}
use Rattle.cox_command.specs.declared.inquiry.Inquiry.{Inquiry}
use Rattle.cox_replies.specs.InquiryQuestion.{question_of}
use Rattle.cox_shell.specs.CommandReply.{Answers, IsInquiryReply, RefusesGroup, IsCommandReply}
use Rattle.cox_shell.proofs.DecidedReplies.{IsDecided-all}
use Rattle.cox_shell.specs.ContentReply.{IsContentReply}
use Rattle.cox_shell.proofs.SetMatrices.{group_set-is}

-- what follows for each value follows where there is one
of_some : {X : Type 0} (o : Option X) (P : X → Type 0) (S : Type 0) → ((x : X) → o ≡ Some x → P x → S) → IsSomeAnd o P → S
of_some None P S of is = absurd is
of_some (Some x) P S of is = of x refl is

-- the group that is set is a Coxeter matrix, if one is
abbrev pub HasMatrix : State → Type 0
HasMatrix state = IfSome state.group IsCoxeterMatrix

-- what holds of refusals and of answers holds of the reply to a command on elements
pub IsInquiryReply-all : (inquiry : Inquiry) (state : State) (P : Reply → Type 0) → ((why : Refusal) → P (refusal state why))
    → ((text : List ℕ) → P (record (silence state) { text = text ++ 10 ∷ [] })) → (reply : Reply) → IsInquiryReply inquiry state reply
    → P reply
IsInquiryReply-all inquiry state P refused answer reply is = of_some state.group _ (P reply) (λ g set decided.
    let question = question_of inquiry state.limits g in
    IsDecided-all question.Refuses state (Answers state question) P refused
    (λ r by_text. subst P (sym by_text.2) (answer by_text.0)) reply decided) is

-- it leaves the state
pub IsInquiryReply-state : (inquiry : Inquiry) (state : State) (reply : Reply) → IsInquiryReply inquiry state reply → reply.after ≡ state
IsInquiryReply-state inquiry state = IsInquiryReply-all inquiry state (λ r. r.after ≡ state) (λ why. refl) (λ text. refl)

module _ (state : State) (matrix : HasMatrix state) (reply : Reply) where
  unchanged : reply.after ≡ state → HasMatrix reply.after
  unchanged same = subst HasMatrix (sym same) matrix

  -- so it stays by a command that is given and accepted
  by_command : (command : Command) (tokens : List (List ℕ)) → line_refusal tokens (rank_of state) ≡ None
      → command_of tokens (rank_of state) ≡ Some command
      → IsCommandReply command state reply → HasMatrix reply.after
  by_command Nothing tokens accepted given is = unchanged (ap (λ (r : Reply). r.after) is)
  by_command Quit tokens accepted given is = unchanged (ap (λ (r : Reply). r.after) is)
  by_command Jobs tokens accepted given is = rw is matrix
  by_command (Ask inquiry) tokens accepted given is = unchanged (IsInquiryReply-state inquiry state reply is)
  by_command (Group g) tokens accepted given is =
      IsDecided-all (RefusesGroup state.limits g) state (λ answer. answer ≡ silence (record state { group = Some g }))
      (λ r. HasMatrix r.after) (λ why. matrix)
      (λ r answer. rw answer (of_tokens tokens accepted given)) reply is
    where
      by_name : (o : Option CommandWord) (arguments : List (List ℕ)) → command_refusal o arguments (rank_of state) ≡ None
          → option_map (λ word. command_by word arguments (rank_of state)) o ≡ Some (Group g) → IsCoxeterMatrix g
      by_name None arguments accepted given = absurd (cc given)
      by_name (Some word) arguments accepted given = group_set-is word arguments (rank_of state) g accepted (cc given)

      of_tokens : (tokens : List (List ℕ)) → line_refusal tokens (rank_of state) ≡ None
          → command_of tokens (rank_of state) ≡ Some (Group g) → IsCoxeterMatrix g
      of_tokens [] accepted given = absurd (cc given)
      of_tokens (name ∷ arguments) accepted given = by_name (command_word_of name) arguments accepted given

-- so it stays by the reply to a content
pub IsContentReply-matrix : (state : State) (content : List ℕ) (reply : Reply) → HasMatrix state → IsContentReply state content reply
    → HasMatrix reply.after
unfolding IsContentReply
IsContentReply-matrix state content reply matrix is = by_refusal (line_refusal (tokens_of content) (rank_of state)) refl is
  where
    by_refusal : (o : Option Refusal) → line_refusal (tokens_of content) (rank_of state) ≡ o
        → MatchOption o (IsSomeAnd (command_of (tokens_of content) (rank_of state)) (λ command. IsCommandReply command state reply))
        (λ why. reply ≡ refusal state why) → HasMatrix reply.after
    by_refusal None e is = of_some (command_of (tokens_of content) (rank_of state)) _ (HasMatrix reply.after)
        (λ command given. by_command state matrix reply command (tokens_of content) e given) is
    by_refusal (Some why) e is = unchanged state matrix reply (ap (λ (r : Reply). r.after) is)
