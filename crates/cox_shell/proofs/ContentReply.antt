-- The reply to a line by its content is one, where no list is open.
use Rattle.std.proofs.Common.{◌≡◌, ℕ, List, Option, Some, None, IfSome, IsSomeAnd, MatchOption, sym, ◌∙◌}
use Rattle.cox_command.specs.declared.refusal.Refusal.{Refusal}
use Rattle.cox_command.specs.declared.command.Command.{Command}
use Rattle.cox_command.specs.declared.command.Command.TheVariants.{Nothing, Quit, Group, Jobs, Ask}
use Rattle.cox_tokens.specs.Tokens.{tokens_of}
use Rattle.cox_command.specs.LineRefusal.{line_refusal}
use Rattle.cox_command.specs.CommandReading.{command_of}
use Rattle.cox_base.specs.Matrix.{CoxeterMatrix}
use Rattle.cox_base.specs.Admissible.{IsCoxeterMatrix, IsAdmissible}
use Rattle.cox_base.specs.IntegerMatrix.{integer_matrix}
use Rattle.cox_base.proofs.AdmissibleMatrices.{IsAdmissible-integer_matrix}
use Rattle.cox_command.specs.declared.inquiry.Inquiry.{Inquiry}
use Rattle.cox_shell.specs.Reply.{State, Reply, rank_of, refusal, silence}
use Rattle.cox_replies.specs.InquiryQuestion.{question_of}
use Rattle.cox_shell.specs.CommandReply.{IsInquiryReply, RefusesGroup, IsCommandReply}
use Rattle.cox_shell.specs.ContentReply.{IsContentReply}
use Rattle.cox_shell.proofs.DecidedReplies.{IsDecided-unique, IsReply-unique}
use Rattle.cox_replies.proofs.Questions.{question-one}
use Rattle.cox_shell.proofs.KeptGroup.{HasMatrix}

-- where a group is set
by_group : (group : Option CoxeterMatrix) (Is : CoxeterMatrix → Reply → Type 0) → IfSome group IsCoxeterMatrix
    → ((g : CoxeterMatrix) → IsAdmissible (integer_matrix g) → (one other : Reply) → Is g one → Is g other → one ≡ other)
    → (one other : Reply) → IsSomeAnd group (λ g. Is g one) → IsSomeAnd group (λ g. Is g other) → one ≡ other
by_group None Is matrix unique one other p q = absurd p
by_group (Some g) Is matrix unique one other p q = unique g (IsAdmissible-integer_matrix g matrix) one other p q

-- the reply to a command on elements is one
IsInquiryReply-unique : (inquiry : Inquiry) (state : State) → HasMatrix state → (one other : Reply) → IsInquiryReply inquiry state one
    → IsInquiryReply inquiry state other → one ≡ other
IsInquiryReply-unique inquiry state matrix = by_group state.group _ matrix (λ g admissible.
    let question = question_of inquiry state.limits g in
    IsReply-unique state question (question-one inquiry state.limits g admissible))

-- a command has one reply
IsCommandReply-unique : (command : Command) (state : State) → HasMatrix state → (one other : Reply) → IsCommandReply command state one
    → IsCommandReply command state other → one ≡ other
IsCommandReply-unique Nothing state matrix one other p q = p ∙ sym q
IsCommandReply-unique Quit state matrix one other p q = p ∙ sym q
IsCommandReply-unique Jobs state matrix one other p q = p ∙ sym q
IsCommandReply-unique (Group g) state matrix one other p q =
    IsDecided-unique (RefusesGroup state.limits g) state (λ answer. answer ≡ silence (record state { group = Some g }))
    (λ a b e f. e ∙ sym f) one other p q
IsCommandReply-unique (Ask inquiry) state matrix one other p q = IsInquiryReply-unique inquiry state matrix one other p q

-- the reply to the command that is given, if one is
by_command : (o : Option Command) (state : State) → HasMatrix state → (one other : Reply)
    → IsSomeAnd o (λ command. IsCommandReply command state one) → IsSomeAnd o (λ command. IsCommandReply command state other) → one ≡ other
by_command None state matrix one other p q = absurd p
by_command (Some command) state matrix one other p q = IsCommandReply-unique command state matrix one other p q

-- the replies by a refusal, or by the command
by_refusal : (o : Option Refusal) (given : Option Command) (state : State) → HasMatrix state → (one other : Reply)
    → MatchOption o (IsSomeAnd given (λ command. IsCommandReply command state one)) (λ why. one ≡ refusal state why)
    → MatchOption o (IsSomeAnd given (λ command. IsCommandReply command state other)) (λ why. other ≡ refusal state why)
    → one ≡ other
by_refusal None given state matrix one other p q = by_command given state matrix one other p q
by_refusal (Some why) given state matrix one other p q = p ∙ sym q

-- a content has at most one reply
pub IsContentReply-unique : (state : State) (content : List ℕ) → HasMatrix state → (one other : Reply) → IsContentReply state content one
    → IsContentReply state content other → one ≡ other
unfolding IsContentReply
IsContentReply-unique state content matrix one other p q =
    by_refusal (line_refusal (tokens_of content) (rank_of state)) (command_of (tokens_of content) (rank_of state)) state matrix one other
    p q

-- the reply to the command that a content gives
pub IsContentReply-command : (state : State) (content : List ℕ) (command : Command) (reply : Reply)
    → line_refusal (tokens_of content) (rank_of state) ≡ None → command_of (tokens_of content) (rank_of state) ≡ Some command
    → IsCommandReply command state reply → IsContentReply state content reply
unfolding IsContentReply
IsContentReply-command state content command reply accepted given is = rw (accepted, given) is

-- the reply to a content that is refused
pub IsContentReply-refusal : (state : State) (content : List ℕ) (why : Refusal)
    → line_refusal (tokens_of content) (rank_of state) ≡ Some why → IsContentReply state content (refusal state why)
unfolding IsContentReply
IsContentReply-refusal state content why refused = rw refused
