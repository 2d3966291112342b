-- Numbers of words in a list.
use Rattle.std.specs.Prelude.{◌≡◌, ℕ, ◌<◌, List, length, Option, None, Some, Contains}
use Rattle.cox_context.specs.Numbers.{word_at}

-- the number of a word; None exactly where the list does not have it
abbrev pub IsNumberOf : List (List ℕ) → List ℕ → Option ℕ → Type 0
IsNumberOf words word None = ¬ (Contains words word)
IsNumberOf words word (Some k) = (k < length words) × (word_at words k ≡ word)
