-- For code: members with their columns, and those of the prefixes of a word.
use Rattle.std.specs.Prelude.{◌≡◌, ℕ, ◌+◌, ◌<◌, ◌≤◌, List, length, take, slice_index_or}
use Rattle.arrayvec.specs.ArrayVec.{ArrayVec}
use Rattle.cox_base.specs.IntegerMatrix.{IntegerMatrix}
use Rattle.cox_base.specs.ShortLex.{normal_form}
use Rattle.cox_context.specs.Numbers.{word_at}
use Rattle.cox_rowcheck.specs.declared.column.Column.{Column}
use Rattle.cox_rowcheck.specs.Columns.{IsColumn}

-- the letters of a word
abbrev pub letters_of : ArrayVec ℕ → List ℕ
letters_of word = word.items

-- the member that v names, and its column
pub record IsColumnOf (A : IntegerMatrix) (members : List (List ℕ)) (v : List ℕ) (column : Column) : Type 0 where
  pub inside : column.number < length members
  pub named : word_at members column.number ≡ normal_form A v
  pub entries : IsColumn A members (word_at members column.number) column.entries

-- those of the first letters of a word: of none, of one, and so on, as far as the list goes
pub record ArePrefixes (A : IntegerMatrix) (members : List (List ℕ)) (word : List ℕ) (stack : List Column) : Type 0 where
  pub some : 1 ≤ length stack
  pub within : length stack ≤ length word + 1
  pub each : (d : ℕ) (column : Column) → d < length stack → IsColumnOf A members (take d word) (slice_index_or stack d column)
