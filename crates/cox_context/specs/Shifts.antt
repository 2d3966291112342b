-- The tables of shifts: for each member, in order, one entry for each letter. And the sets of descents that are read off them.
use Rattle.std.specs.Prelude.{◌≡◌, ℕ, ◌+◌, ◌-◌, ◌*◌, ◌<◌, ◌==◌, List, [], ◌∷◌, ◌++◌, length, slice_index}
use Rattle.std.specs.Prelude.{Option, None, Some, if◌then◌else◌, IsBitSet, ◌↔◌}
use Rattle.cox_base.specs.Matrix.{IsLetter}
use Rattle.cox_base.specs.IntegerMatrix.{IntegerMatrix}
use Rattle.cox_base.specs.ShortLex.{normal_form}
use Rattle.cox_base.specs.Descents.{IsLeftDescent}
use Rattle.cox_context.specs.declared.shifts.TheConstants.{NO_MEMBER, NO_NARROW_MEMBER}
use Rattle.cox_context.specs.Numbers.{word_at}
use Rattle.cox_context.specs.Numbering.{IsNumberOf}

-- what an entry says: a number, or that there is no member
abbrev pub entry_number : ℕ → Option ℕ
entry_number n = if n == NO_MEMBER then None else Some n

-- what an entry of two bytes says: a number, or that there is no member
abbrev pub narrow_number : ℕ → Option ℕ
narrow_number n = if n == NO_NARROW_MEMBER then None else Some n

-- the entry of member i for the letter s
unfoldable pub entry : ℕ → List ℕ → ℕ → ℕ → Option ℕ
entry rank table s i = entry_number (slice_index table (i * rank + (s - 1)))

-- the table has the number of s x for each member x and each letter s
pub record AreLeftShifts (A : IntegerMatrix) (members : List (List ℕ)) (table : List ℕ) : Type 0 where
  pub size : length table ≡ length members * A.rank
  pub shift : (s i : ℕ) → IsLetter A.rank s → i < length members
      → IsNumberOf members (normal_form A (s ∷ word_at members i)) (entry A.rank table s i)

-- the table has the number of x s for each member x and each letter s, as far as it goes
pub record AreRightShifts (A : IntegerMatrix) (members : List (List ℕ)) (table : List ℕ) : Type 0 where
  pub shift : (s i : ℕ) → IsLetter A.rank s → i < length members → i * A.rank + (s - 1) < length table
      → IsNumberOf members (normal_form A (word_at members i ++ s ∷ [])) (entry A.rank table s i)

-- the table has the number of x s for each word x but the last one and each letter s, where x s is one of those words
pub record AreOfOthers (A : IntegerMatrix) (words : List (List ℕ)) (table : List ℕ) : Type 0 where
  pub others : List (List ℕ)
  pub last : List ℕ
  pub is : words ≡ others ++ last ∷ []
  pub size : length table ≡ length others * A.rank
  pub shifts : AreRightShifts A others table

-- the narrow table says what the table says, as far as it goes
abbrev pub AreNarrow : List ℕ → List ℕ → Type 0
AreNarrow table narrow = (k : ℕ) → k < length narrow → narrow_number (slice_index narrow k) ≡ entry_number (slice_index table k)

-- the number of s w, where s shortens w
abbrev pub IsLower : IntegerMatrix → List (List ℕ) → List ℕ → ℕ → Option ℕ → Type 0
IsLower A members w s None = ¬ (IsLeftDescent A w s)
IsLower A members w s (Some k) = IsLeftDescent A w s × (k < length members) × (word_at members k ≡ normal_form A (s ∷ w))

-- bit s - 1 of the set of each member is 1 exactly where s has the property for it
pub record AreSets (P : List ℕ → ℕ → Type 0) (members : List (List ℕ)) (sets : List ℕ) : Type 0 where
  pub size : length sets ≡ length members
  pub bit : (i k : ℕ) → i < length members → IsBitSet (slice_index sets i) k ↔ P (word_at members i) (k + 1)
