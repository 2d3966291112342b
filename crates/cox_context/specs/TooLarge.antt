-- When elements are too many for a context, or too long.
use Rattle.std.specs.Prelude.{◌⊎◌, ℕ, ◌<◌, List, length}
use Rattle.cox_base.specs.declared.limits.TheConstants.{MAX_LETTERS}
use Rattle.cox_base.specs.SortedList.{HasMoreThan}

-- more words than the limit have a property, or one of more than MAX_LETTERS letters has it
abbrev pub IsTooLarge : (List ℕ → Type 0) → ℕ → Type 0
IsTooLarge P limit = HasMoreThan limit P ⊎ ((word : List ℕ) × P word × (MAX_LETTERS < length word))
