-- The reply of a command is one, and exists where each cause of a refusal is decided, for any question.
use Rattle.std.proofs.Common.{◌≡◌, ◌⊎◌, ℕ, List, [], ◌∷◌, ◌++◌, Option, None, Some, MatchOption, refl, sym, ap, ◌∙◌, subst}
use Rattle.cox_command.specs.declared.refusal.Refusal.{Refusal}
use Rattle.cox_replies.specs.Question.{Question, command_refusals, IsRefused}
use Rattle.cox_replies.specs.Answerable.{HasOneText, IsAnswerable}
use Rattle.cox_replies.proofs.Refusing.{IsFirstRefusal-unique, IsFirstRefusal-exists}
use Rattle.cox_shell.specs.Reply.{State, Reply, refusal, silence}
use Rattle.cox_shell.specs.CommandReply.{IsDecided, Answers}

module _ (Refuses : Refusal → Type 0) where
  module _ (state : State) (Is : Reply → Type 0) where
    -- a command has one reply, where it has one where it is not refused
    pub IsDecided-unique : ((one other : Reply) → Is one → Is other → one ≡ other) → (one other : Reply)
        → IsDecided state Refuses Is one → IsDecided state Refuses Is other → one ≡ other
    IsDecided-unique unique one other p q =
        by_found p.0 p.2 (subst (λ found. MatchOption found (Is other) (λ why. other ≡ refusal state why))
        (IsFirstRefusal-unique Refuses command_refusals q.0 p.0 q.1 p.1) q.2)
      where
        by_found : (found : Option Refusal) → MatchOption found (Is one) (λ why. one ≡ refusal state why)
            → MatchOption found (Is other) (λ why. other ≡ refusal state why) → one ≡ other
        by_found None p q = unique one other p q
        by_found (Some why) p q = p ∙ sym q

    -- a command has a reply, where it has one where it is not refused
    pub IsDecided-exists : ((why : Refusal) → Refuses why ⊎ (Refuses why → ⊥)) → (IsRefused Refuses None → (reply : Reply) × Is reply)
        → (reply : Reply) × IsDecided state Refuses Is reply
    IsDecided-exists decided answer =
        let first = IsFirstRefusal-exists Refuses decided command_refusals in by_found first.0 first.1
      where
        by_found : (found : Option Refusal) → IsRefused Refuses found → (reply : Reply) × IsDecided state Refuses Is reply
        by_found None is = let a = answer is in (a.0, (None, is, a.1))
        by_found (Some why) is = (refusal state why, (Some why, is, refl))

    -- what holds of refusals, and of its answers, holds of its reply
    pub IsDecided-all : (P : Reply → Type 0) → ((why : Refusal) → P (refusal state why)) → ((reply : Reply) → Is reply → P reply)
        → (reply : Reply) → IsDecided state Refuses Is reply → P reply
    IsDecided-all P refused answered reply is = by_found is.0 is.2
      where
        by_found : (found : Option Refusal) → MatchOption found (Is reply) (λ why. reply ≡ refusal state why) → P reply
        by_found None is = answered reply is
        by_found (Some why) is = subst P (sym is) (refused why)

-- the reply to a question is one ..
pub IsReply-unique : (state : State) (question : Question) → HasOneText question → (one other : Reply)
    → IsDecided state question.Refuses (Answers state question) one → IsDecided state question.Refuses (Answers state question) other → one
    ≡ other
IsReply-unique state question one_text = IsDecided-unique question.Refuses state (Answers state question)
    (λ one other p q. p.2 ∙ ap (λ (t : List ℕ). record (silence state) { text = t ++ 10 ∷ [] }) (one_text p.0 q.0 p.1 q.1) ∙ sym q.2)

-- .. and it exists
pub IsReply-exists : (state : State) (question : Question) → IsAnswerable question
    → (reply : Reply) × IsDecided state question.Refuses (Answers state question) reply
IsReply-exists state question can = IsDecided-exists question.Refuses state (Answers state question) can.decided
    (λ free. let line = can.answer free in (record (silence state) { text = line.0 ++ 10 ∷ [] }, (line.0, line.1, refl)))
