-- Where an element stands among words.
use Rattle.std.specs.Prelude.{◌≡◌, ℕ, List, None, Some}
use Rattle.cox_context.specs.declared.standing.Standing.{Standing}
use Rattle.cox_context.specs.declared.standing.Standing.TheVariants.{Member, Outside}
use Rattle.cox_context.specs.Numbering.{IsNumberOf}

-- where the element with this normal form stands: that word has this number; or the list does not have it, and it is told
abbrev pub IsStandingOf : List (List ℕ) → List ℕ → Standing → Type 0
IsStandingOf words form (Member k) = IsNumberOf words form (Some k)
IsStandingOf words form (Outside word) = IsNumberOf words form None × (word.items ≡ form)
