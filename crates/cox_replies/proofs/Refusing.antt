-- The refusal of a command is one, and where each cause is decided there is one or none.
use Rattle.std.proofs.Common.{◌≡◌, ◌⊎◌, List, [], ◌∷◌, Option, None, Some, inl, inr, refl, sym, ◌∙◌}
use Rattle.cox_command.specs.declared.refusal.Refusal.{Refusal}
use Rattle.cox_replies.specs.Question.{IsFirstRefusal}

module _ (Refuses : Refusal → Type 0) where
  -- the first refusal with a cause is one
  pub IsFirstRefusal-unique : (order : List Refusal) (one other : Option Refusal) → IsFirstRefusal Refuses order one
      → IsFirstRefusal Refuses order other → one ≡ other
  IsFirstRefusal-unique [] one other p q = p ∙ sym q
  IsFirstRefusal-unique (why ∷ later) one other (inl p) (inl q) = p.1 ∙ sym q.1
  IsFirstRefusal-unique (why ∷ later) one other (inl p) (inr q) = absurd (q.0 p.0)
  IsFirstRefusal-unique (why ∷ later) one other (inr p) (inl q) = absurd (p.0 q.0)
  IsFirstRefusal-unique (why ∷ later) one other (inr p) (inr q) = IsFirstRefusal-unique later one other p.1 q.1

  -- where each cause is decided, there is one or none
  pub IsFirstRefusal-exists : ((why : Refusal) → Refuses why ⊎ (Refuses why → ⊥)) → (order : List Refusal)
      → (found : Option Refusal) × IsFirstRefusal Refuses order found
  IsFirstRefusal-exists decided [] = (None, refl)
  IsFirstRefusal-exists decided (why ∷ later) = by_cause (decided why) (IsFirstRefusal-exists decided later)
    where
      by_cause : Refuses why ⊎ (Refuses why → ⊥) → (found : Option Refusal) × IsFirstRefusal Refuses later found
          → (found : Option Refusal) × IsFirstRefusal Refuses (why ∷ later) found
      by_cause (inl cause) rest = (Some why, inl (cause, refl))
      by_cause (inr none) rest = (rest.0, inr (none, rest.1))

  -- where none has a cause, there is none
  pub IsFirstRefusal-none : ((why : Refusal) → Refuses why → ⊥) → (order : List Refusal) → IsFirstRefusal Refuses order None
  IsFirstRefusal-none free [] = refl
  IsFirstRefusal-none free (why ∷ later) = inr (free why, IsFirstRefusal-none free later)
