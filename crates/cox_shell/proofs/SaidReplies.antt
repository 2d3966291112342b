-- What the calls that answer say of a reply.
use Rattle.std.proofs.Common.{◌≡◌, ℕ, true, List, [], ◌∷◌, ◌++◌, Result, Ok, Err, IfOk, OnErr, Option, Some, None, IsSomeAnd, inl, inr}
use Rattle.std.proofs.Common.{refl, sym, ap, ◌∙◌}
use Rattle.std.proofs.lemmas.List.{append-nil}
use Rattle.std.specs.declared.alloc.AllocError.{AllocError}
use Rattle.cox_base.specs.Matrix.{CoxeterMatrix}
use Rattle.cox_command.specs.declared.inquiry.Inquiry.{Inquiry}
use Rattle.cox_poly.specs.Puts.{PutsPrefix}
use Rattle.cox_replies.specs.declared.unanswered.Unanswered.{Unanswered}
use Rattle.cox_replies.specs.declared.unanswered.Unanswered.TheVariants as unanswered
use Rattle.cox_shell.specs.declared.session.Said.{Said}
use Rattle.cox_shell.specs.declared.session.Said.TheVariants.{Answered, Quit}
use Rattle.cox_shell.specs.Reply.{State, Reply, refusal, silence}
use Rattle.cox_replies.specs.Question.{Question}
use Rattle.cox_command.specs.declared.command.Command.TheVariants.{Jobs}
use Rattle.cox_shell.specs.CommandReply.{IsDecided, IsCommandReply}
use Rattle.cox_replies.specs.InquiryQuestion.{question_of}
use Rattle.cox_shell.specs.CommandReply.{Answers, IsInquiryReply}
use Rattle.cox_replies.proofs.Unless.{PutsPrefix-none}
use Rattle.cox_shell.specs.Saying.{Says, SaysPrefix, SaysText, Concludes}
use Rattle.cox_replies.specs.Putting.{PutsUnless, IsEnded}

-- nothing is said to a line that is answered nothing
pub Says-silence : (state new : State) (out : List ℕ) → new ≡ state → Says Answered (silence state) new out out
Says-silence state new out same = record { is_said = (refl, refl); text = sym (append-nil out); state_after = same }

pub Says-quit : (state : State) (out : List ℕ) → Says Quit (record (silence state) { quits = true }) state out out
Says-quit state out = record { is_said = (refl, refl); text = sym (append-nil out); state_after = refl }

-- the reply to a command on elements, where a group is set
pub IsInquiryReply-decided : (inquiry : Inquiry) (state : State) (g : CoxeterMatrix) (reply : Reply) → state.group ≡ Some g
    → (let question = question_of inquiry state.limits g in IsDecided state question.Refuses (Answers state question) reply)
    → IsInquiryReply inquiry state reply
IsInquiryReply-decided inquiry state g reply set decided = of_group state.group _ set decided
  where
    of_group : (group : Option CoxeterMatrix) (Is : CoxeterMatrix → Type 0) → group ≡ Some g → Is g → IsSomeAnd group Is
    of_group group Is set is = rw set is

-- what is said after a line was put, or refused: the reply to the question ..
module _ (state : State) (question : Question) where
  pub Concludes-says : (put : Result Unit Unanswered) (result : Result Said AllocError) (before mid after : List ℕ)
      → PutsUnless put question.Refuses (IsEnded question.IsText) before mid → Concludes put state result mid after
      → IfOk result (λ said. (reply : Reply) × IsDecided state question.Refuses (Answers state question) reply
      × Says said reply state before after)
  Concludes-says (Ok done) result before mid after put end =
      let line = put.2 in
      rw end.0 (
        record (silence state) { text = line.0 ++ 10 ∷ [] },
        (None, put.0, (line.0, line.1, refl)),
        record { is_said = (refl, refl); text = end.1 ∙ put.3 ∙ ap (λ t. before ++ t) line.2; state_after = refl },
      )
  Concludes-says (Err (unanswered.Refused why)) (Ok said) before mid after put end =
      (refusal state why, (Some why, put.0, refl), rw put.1 at end.0)
  Concludes-says (Err unanswered.NoMemory) (Ok said) before mid after put end = absurd (cc end.0)
  Concludes-says (Err why) (Err error) before mid after put end = tt

  -- .. or a prefix of it, where memory ran out
  pub Concludes-breaks : (reply : Reply) × IsDecided state question.Refuses (Answers state question) reply
      → (put : Result Unit Unanswered) (result : Result Said AllocError) (before mid after : List ℕ)
      → PutsUnless put question.Refuses (IsEnded question.IsText) before mid → Concludes put state result mid after
      → OnErr result ((reply : Reply) × IsDecided state question.Refuses (Answers state question) reply
      × SaysPrefix reply state state before after)
  Concludes-breaks some (Ok done) result before mid after put end = rw end.0 tt
  Concludes-breaks some (Err (unanswered.Refused why)) (Err error) before mid after put end =
      (refusal state why, (Some why, put.0, refl), rw put.1 at end.1)
  Concludes-breaks some (Err unanswered.NoMemory) (Err error) before mid after (inl same) end =
      (some.0, some.1, record { puts_prefix = PutsPrefix-none some.0.text before after (end.1 ∙ same); same_state = refl })
  Concludes-breaks some (Err unanswered.NoMemory) (Err error) before mid after (inr part) end =
      let line = part.2 in (
        record (silence state) { text = line.0 ++ 10 ∷ [] },
        (None, part.0, (line.0, line.1, refl)),
        record { puts_prefix = rw (end.1, ← line.2) part.3; same_state = refl },
      )
  Concludes-breaks some (Err why) (Ok said) before mid after put end = tt

-- a reply that was said, by what follows for it
pub Says-follows : (result : Result Said AllocError) (Was Is : Reply → Type 0) (state : State) (before after : List ℕ)
    → ((reply : Reply) → Was reply → Is reply)
    → IfOk result (λ said. (reply : Reply) × Was reply × Says said reply state before after)
    → IfOk result (λ said. (reply : Reply) × Is reply × Says said reply state before after)
Says-follows (Ok said) Was Is state before after of (reply, was, says) = (reply, of reply was, says)
Says-follows (Err error) Was Is state before after of says = tt

-- the same where it was broken off
pub SaysPrefix-follows : (result : Result Said AllocError) (Was Is : Reply → Type 0) (old new : State) (before after : List ℕ)
    → ((reply : Reply) → Was reply → Is reply) → OnErr result ((reply : Reply) × Was reply × SaysPrefix reply old new before after)
    → OnErr result ((reply : Reply) × Is reply × SaysPrefix reply old new before after)
SaysPrefix-follows (Ok said) Was Is old new before after of says = tt
SaysPrefix-follows (Err error) Was Is old new before after of (reply, was, says) = (reply, of reply was, says)

-- what was said, by the one reply that is right
pub Says-reply : (result : Result Said AllocError) (Is : Reply → Type 0) (reply : Reply) (state : State) (before after : List ℕ) → Is reply
    → IfOk result (λ said. Says said reply state before after)
    → IfOk result (λ said. (is : Reply) × Is is × Says said is state before after)
Says-reply (Ok said) Is reply state before after is says = (reply, is, says)
Says-reply (Err error) Is reply state before after is says = tt

-- the same where it was broken off
pub SaysPrefix-reply : (result : Result Said AllocError) (Is : Reply → Type 0) (reply : Reply) (old new : State) (before after : List ℕ)
    → Is reply
    → OnErr result (SaysPrefix reply old new before after) → OnErr result ((is : Reply) × Is is × SaysPrefix is old new before after)
SaysPrefix-reply (Ok said) Is reply old new before after is says = tt
SaysPrefix-reply (Err error) Is reply old new before after is says = (reply, is, says)

-- a reply was broken off, which leaves the state as it was
pub SaysPrefix-broken : (result : Result Said AllocError) (reply : Reply) (state : State) (before after : List ℕ)
    → PutsPrefix reply.text before after
    → OnErr result (SaysPrefix reply state state before after)
SaysPrefix-broken (Ok said) reply state before after puts = tt
SaysPrefix-broken (Err error) reply state before after puts = record { puts_prefix = puts; same_state = refl }

-- nothing is said to a line that is kept, or that begins a block
pub silent-says : (result : Result Said AllocError) (next kept after : State) (Is : Reply → Type 0) (out : List ℕ) → Is (silence after)
    → kept ≡ after → IfOk result (λ said. (said ≡ Answered) × (next ≡ kept))
    → IfOk result (λ said. (reply : Reply) × Is reply × Says said reply next out out)
silent-says (Ok said) next kept after Is out is keeps done = (silence after, is, rw done.0 (Says-silence after next out (done.1 ∙ keeps)))
silent-says (Err error) next kept after Is out is keeps done = tt

pub silent-breaks : (result : Result Said AllocError) (old next after : State) (Is : Reply → Type 0) (out : List ℕ) → Is (silence after)
    → OnErr result (next ≡ old) → OnErr result ((reply : Reply) × Is reply × SaysPrefix reply old next out out)
silent-breaks (Ok said) old next after Is out is same = tt
silent-breaks (Err error) old next after Is out is same =
    (silence after, is, record { puts_prefix = PutsPrefix-none (silence after).text out out refl; same_state = same })

-- the same of the one reply that is right
pub silent-one : (result : Result Said AllocError) (next kept after : State) (reply : Reply) (out : List ℕ) → reply ≡ silence after
    → kept ≡ after → IfOk result (λ said. (said ≡ Answered) × (next ≡ kept))
    → IfOk result (λ said. Says said reply next out out)
silent-one (Ok said) next kept after reply out is keeps done = rw (done.0, is) (Says-silence after next out (done.1 ∙ keeps))
silent-one (Err error) next kept after reply out is keeps done = tt

-- a reply that was broken off, without the state
pub SaysPrefix-puts_reply : (result : Result Said AllocError) (Is : Reply → Type 0) (reply : Reply) (old new : State)
    (before after : List ℕ) → Is reply → OnErr result (SaysPrefix reply old new before after)
    → OnErr result ((reply : Reply) × Is reply × PutsPrefix reply.text before after)
SaysPrefix-puts_reply (Ok said) Is reply old new before after is says = tt
SaysPrefix-puts_reply (Err error) Is reply old new before after is says = (reply, is, says.puts_prefix)

-- a reply whose text was said, by what follows for it
pub SaysText-follows : (result : Result Said AllocError) (Was Is : Reply → Type 0) (before after : List ℕ)
    → ((reply : Reply) → Was reply → Is reply)
    → IfOk result (λ said. (reply : Reply) × Was reply × SaysText said reply before after)
    → IfOk result (λ said. (reply : Reply) × Is reply × SaysText said reply before after)
SaysText-follows (Ok said) Was Is before after of (reply, was, says) = (reply, of reply was, says)
SaysText-follows (Err error) Was Is before after of says = tt

-- a list was opened
pub opened-says : (result : Result Said AllocError) (state next : State) (out : List ℕ)
    → IfOk result (λ said. (said ≡ Answered) × IsCommandReply Jobs state (silence next))
    → IfOk result (λ said. (reply : Reply) × IsCommandReply Jobs state reply × Says said reply next out out)
opened-says (Ok said) state next out done = (silence next, done.1, rw done.0 (Says-silence next next out refl))
opened-says (Err error) state next out done = tt

-- nothing was put of a reply
pub nothing-put : (result : Result Said AllocError) (Is : Reply → Type 0) (reply : Reply) (before after : List ℕ) → Is reply
    → after ≡ before → OnErr result ((reply : Reply) × Is reply × PutsPrefix reply.text before after)
nothing-put (Ok said) Is reply before after is same = tt
nothing-put (Err error) Is reply before after is same = (reply, is, PutsPrefix-none reply.text before after same)

-- nothing was put of a reply to a line, and the state stayed
pub nothing-said : (result : Result Said AllocError) (Is : Reply → Type 0) (reply : Reply) (state : State) (out : List ℕ) → Is reply
    → OnErr result ((reply : Reply) × Is reply × SaysPrefix reply state state out out)
nothing-said (Ok said) Is reply state out is = tt
nothing-said (Err error) Is reply state out is =
    (reply, is, record { puts_prefix = PutsPrefix-none reply.text out out refl; same_state = refl })
