-- The number of a word in a list: its place, from 0.
use Rattle.std.specs.Prelude.{ℕ, List, [], slice_index_or}

-- the word with a number
abbrev pub word_at : List (List ℕ) → ℕ → List ℕ
word_at words i = slice_index_or words i []
