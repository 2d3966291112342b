-- Lists of elements in ShortLex order.
use Rattle.std.specs.Prelude.{◌≡◌, ℕ, ◌<◌, List, [], length, slice_index_or, All, Contains}
use Rattle.std.specs.declared.cmp.Ordering.TheVariants.{Less}
use Rattle.cox_base.specs.ShortLex.{shortlex_cmp}

-- each word of the list comes before each later one
abbrev pub IsRising : List (List ℕ) → Type 0
IsRising words = (i j : ℕ) → i < j → j < length words → shortlex_cmp (slice_index_or words i []) (slice_index_or words j []) ≡ Less

-- the list of the words with a property, in ShortLex order
pub record IsListOf (P : List ℕ → Type 0) (words : List (List ℕ)) : Type 0 where
  pub rising : IsRising words
  pub sound : (word : List ℕ) → Contains words word → P word
  pub whole : (word : List ℕ) → P word → Contains words word

-- there are more than so many words with a property: a list has more of them, each once
abbrev pub HasMoreThan : ℕ → (List ℕ → Type 0) → Type 0
HasMoreThan limit P = (words : List (List ℕ)) × IsRising words × All P words × (limit < length words)
