-- A line that may stand in a block leaves the state.
use Rattle.std.proofs.Common.{◌≡◌, ◌⊎◌, inl, inr, ℕ, List, [], ◌∷◌, ◌++◌, Option, Some, None, IsSomeAnd, MatchOption}
use Rattle.std.proofs.Common.{refl, sym, ◌∙◌, subst, ⊎_elim, false}
use Rattle.std.specs.Option.{option_map}
use Rattle.cox_tokens.specs.Tokens.{tokens_of}
use Rattle.cox_command.specs.declared.refusal.Refusal.{Refusal}
use Rattle.cox_command.specs.declared.command.Command.{Command}
use Rattle.cox_command.specs.declared.command.Command.TheVariants.{Nothing, Ask}
use Rattle.cox_command.specs.declared.command_word.CommandWord.{CommandWord}
use Rattle.cox_command.specs.declared.command_word.CommandWord.TheVariants as word
use Rattle.cox_command.specs.declared.inquiry.Inquiry.{Inquiry}
use Rattle.cox_command.specs.CommandWord.{command_word_of}
use Rattle.cox_command.specs.LineRefusal.{line_refusal}
use Rattle.cox_command.specs.CommandReading.{command_by, command_of}
use Rattle.cox_command.specs.BlockLines.{word_refusal, block_refusal}
use Rattle.cox_shell.specs.Reply.{State, Reply, rank_of, refusal, silence}
use Rattle.cox_shell.specs.CommandReply.{IsCommandReply, IsInquiryReply}
use Rattle.cox_shell.specs.ContentReply.{IsContentReply}
use Rattle.std.specs.Prelude.{Result, Ok, Err, IfOk, OnErr}
use Rattle.std.specs.declared.alloc.AllocError.{AllocError}
use Rattle.cox_shell.specs.declared.session.Said.{Said}
use Rattle.cox_shell.specs.Saying.{Says, SaysPrefix}
use Rattle.cox_shell.proofs.KeptGroup.{IsInquiryReply-all, IsInquiryReply-state}

-- a command is on elements
abbrev IsAsking : Command → Type 0
IsAsking command = (inquiry : Inquiry) × (command ≡ Ask inquiry)

-- a command word that may begin a line of a block gives one
asking : (verb : CommandWord) (name : List ℕ) (arguments : List (List ℕ)) (rank : Option ℕ) → word_refusal name (Some verb) ≡ None
    → IsAsking (command_by verb arguments rank)
asking word.Named name arguments rank free = absurd (cc free)
asking word.Matrix name arguments rank free = absurd (cc free)
asking word.Quit name arguments rank free = absurd (cc free)
asking word.Jobs name arguments rank free = absurd (cc free)
asking (word.One kind) name arguments rank free = (_, refl)
asking (word.Two kind) name arguments rank free = (_, refl)
asking (word.Plain kind) name arguments rank free = (_, refl)
asking word.Work name arguments rank free = (_, refl)

-- and so do tokens that may be a line of a block, unless there is none
asking_tokens : (tokens : List (List ℕ)) (rank : Option ℕ) (command : Command) → block_refusal tokens ≡ None
    → command_of tokens rank ≡ Some command → (command ≡ Nothing) ⊎ IsAsking command
asking_tokens [] rank command free given = inl (cc given)
asking_tokens (name ∷ arguments) rank command free given = by_name (command_word_of name) free given
  where
    by_name : (o : Option CommandWord) → word_refusal name o ≡ None
        → option_map (λ verb. command_by verb arguments rank) o ≡ Some command → (command ≡ Nothing) ⊎ IsAsking command
    by_name None free given = absurd (cc given)
    by_name (Some verb) free given =
        let same : command_by verb arguments rank ≡ command = cc given in
        inr (subst IsAsking same (asking verb name arguments rank free))

-- what holds of refusals, answers and silence holds of the reply to such a command ..
asking-all : (command : Command) (state : State) (P : Reply → Type 0) → ((why : Refusal) → P (refusal state why)) → P (silence state)
    → ((text : List ℕ) → P (record (silence state) { text = text ++ 10 ∷ [] })) → (reply : Reply) → (command ≡ Nothing) ⊎ IsAsking command
    → IsCommandReply command state reply → P reply
asking-all command state P refused silent answer reply which is = ⊎_elim
    (λ (e : command ≡ Nothing). let nothing : IsCommandReply Nothing state reply = subst (λ c. IsCommandReply c state reply) e is in
    subst P (sym nothing) silent)
    (λ (asks : IsAsking command). IsInquiryReply-all asks.0 state P refused answer reply
    (subst (λ c. IsCommandReply c state reply) asks.1 is)) which

-- .. and so of that to a line which may stand in a block
pub block_reply-all : (state : State) (content : List ℕ) (P : Reply → Type 0) → ((why : Refusal) → P (refusal state why))
    → P (silence state) → ((text : List ℕ) → P (record (silence state) { text = text ++ 10 ∷ [] })) → (reply : Reply)
    → block_refusal (tokens_of content) ≡ None → IsContentReply state content reply → P reply
unfolding IsContentReply
block_reply-all state content P refused silent answer reply free is = by_refusal (line_refusal (tokens_of content) (rank_of state)) is
  where
    by_command : (o : Option Command) → command_of (tokens_of content) (rank_of state) ≡ o
        → IsSomeAnd o (λ command. IsCommandReply command state reply) → P reply
    by_command None given is = absurd is
    by_command (Some command) given is = asking-all command state P refused silent answer reply
        (asking_tokens (tokens_of content) (rank_of state) command free given) is

    by_refusal : (o : Option Refusal)
        → MatchOption o (IsSomeAnd (command_of (tokens_of content) (rank_of state)) (λ command. IsCommandReply command state reply))
        (λ why. reply ≡ refusal state why) → P reply
    by_refusal None is = by_command (command_of (tokens_of content) (rank_of state)) refl is
    by_refusal (Some why) is = subst P (sym is) (refused why)

-- it leaves the state, and does not end the run
pub block_reply-state : (state : State) (content : List ℕ) (reply : Reply) → block_refusal (tokens_of content) ≡ None
    → IsContentReply state content reply → reply.after ≡ state
block_reply-state state content = block_reply-all state content (λ r. r.after ≡ state) (λ why. refl) refl (λ text. refl)

pub block_reply-going : (state : State) (content : List ℕ) (reply : Reply) → block_refusal (tokens_of content) ≡ None
    → IsContentReply state content reply → reply.quits ≡ false
block_reply-going state content = block_reply-all state content (λ r. r.quits ≡ false) (λ why. refl) refl (λ text. refl)

-- a command on elements leaves the state, whatever was said to it
pub inquiry_said-same : (result : Result Said AllocError) (inquiry : Inquiry) (state next : State) (before after : List ℕ)
    → IfOk result (λ said. (reply : Reply) × IsInquiryReply inquiry state reply × Says said reply next before after)
    → OnErr result ((reply : Reply) × IsInquiryReply inquiry state reply × SaysPrefix reply state next before after) → next ≡ state
inquiry_said-same (Ok said) inquiry state next before after ok err =
    ok.2.state_after ∙ IsInquiryReply-state inquiry state ok.0 ok.1
inquiry_said-same (Err error) inquiry state next before after ok err = err.2.same_state
