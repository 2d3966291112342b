-- Questions that have one text at most, and questions that can be answered.
use Rattle.std.specs.Prelude.{◌≡◌, ◌⊎◌, ℕ, List, None}
use Rattle.cox_command.specs.declared.refusal.Refusal.{Refusal}
use Rattle.cox_replies.specs.Question.{Question, IsRefused}

-- a question has one right text at most
abbrev pub HasOneText : Question → Type 0
HasOneText question = (a b : List ℕ) → question.IsText a → question.IsText b → a ≡ b

-- a question can be answered: each cause of a refusal is decided, and there is a right text where nothing refuses
pub record IsAnswerable (question : Question) : Type 0 where
  pub decided : (why : Refusal) → question.Refuses why ⊎ (question.Refuses why → ⊥)
  pub answer : IsRefused question.Refuses None → (text : List ℕ) × question.IsText text
