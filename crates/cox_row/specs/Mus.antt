-- The values of mu that are not 0.
use Rattle.std.specs.Prelude.{◌≡◌, ◌≢◌, ℕ, ◌<◌, List, length, slice_index_or, ℤ, pos}
use Rattle.cox_base.specs.IntegerMatrix.{IntegerMatrix}
use Rattle.cox_hecke.specs.Row.{IsMu}
use Rattle.cox_context.specs.Numbers.{word_at}
use Rattle.cox_row.specs.Rising.{number_at, AreRising, AreWithin}

-- the value at a place
abbrev pub value_at : List ℤ → ℕ → ℤ
value_at values k = slice_index_or values k (pos 0)

-- the numbers of the members u for which mu(u,w) is not 0, rising, and the values
pub record AreMus (A : IntegerMatrix) (members : List (List ℕ)) (w : List ℕ) (numbers : List ℕ) (values : List ℤ) : Type 0 where
  pub size : length values ≡ length numbers
  pub rising : AreRising numbers
  pub within : AreWithin (length members) numbers
  pub value : (k : ℕ) → k < length numbers → IsMu A (word_at members (number_at numbers k)) w (value_at values k)
  pub some : (k : ℕ) → k < length numbers → value_at values k ≢ pos 0
  pub whole : (u : ℕ) (m : ℤ) → u < length members → IsMu A (word_at members u) w m → m ≢ pos 0
      → (k : ℕ) × (k < length numbers) × (number_at numbers k ≡ u)
