-- The table of the inverses of the members: one entry for each member, as in a table of shifts by one letter.
use Rattle.std.specs.Prelude.{◌≡◌, ℕ, ◌<◌, List, [], ◌∷◌, ◌++◌, length, reverse}
use Rattle.cox_base.specs.IntegerMatrix.{IntegerMatrix}
use Rattle.cox_base.specs.ShortLex.{normal_form}
use Rattle.cox_context.specs.Numbers.{word_at}
use Rattle.cox_context.specs.Numbering.{IsNumberOf}
use Rattle.cox_context.specs.Shifts.{entry}

-- the table has the number of x^-1 for each member x, as far as it goes
pub record AreInverses (A : IntegerMatrix) (members : List (List ℕ)) (table : List ℕ) : Type 0 where
  pub inverse : (i : ℕ) → i < length members → i < length table
      → IsNumberOf members (normal_form A (reverse (word_at members i))) (entry 1 table 1 i)

-- the table has the number of x^-1 for each member x, or it is empty: then inverses are not kept
pub record AreKeptInverses (A : IntegerMatrix) (members : List (List ℕ)) (table : List ℕ) : Type 0 where
  pub size : 0 < length table → length table ≡ length members
  pub inverses : AreInverses A members table

-- the same of each word x but the last one, where x^-1 is one of those words
pub record AreInversesOfOthers (A : IntegerMatrix) (words : List (List ℕ)) (table : List ℕ) : Type 0 where
  pub others : List (List ℕ)
  pub last : List ℕ
  pub is : words ≡ others ++ last ∷ []
  pub kept : AreKeptInverses A others table
