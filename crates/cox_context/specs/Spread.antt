-- Elements below an element, in the order in which they are found, and members that are marked while new ones are appended behind the
-- others.
use Rattle.std.specs.Prelude.{◌≡◌, ◌⊎◌, ℕ, ◌<◌, ◌≤◌, ◌↔◌, Bool, true, false, List, [], ◌∷◌, ◌++◌, length, map, slice_index, slice_index_or}
use Rattle.std.specs.Prelude.{Contains}
use Rattle.cox_base.specs.IntegerMatrix.{IntegerMatrix}
use Rattle.cox_base.specs.ShortLex.{normal_form}
use Rattle.cox_base.specs.Bruhat.{IsBelow}
use Rattle.cox_base.specs.Members.{IsElement}
use Rattle.cox_context.specs.Numbers.{word_at}

-- whether the member with a number is marked
abbrev pub mark_at : List Bool → ℕ → Bool
mark_at marks i = slice_index_or marks i false

-- the words of the one list have their numbers in the other, too
pub record AreKept (old new : List (List ℕ)) : Type 0 where
  pub size : length old ≤ length new
  pub word : (i : ℕ) → i < length old → word_at new i ≡ word_at old i

-- the words with these numbers
unfoldable pub listed_words : List (List ℕ) → List ℕ → List (List ℕ)
listed_words words numbers = map (λ i. word_at words i) numbers

-- each number is that of a word, and exactly the words with these numbers are marked
pub record AreMarked (words : List (List ℕ)) (marks : List Bool) (numbers : List ℕ) : Type 0 where
  pub size : length marks ≡ length words
  pub within : (p : ℕ) → p < length numbers → slice_index numbers p < length words
  pub mark : (i : ℕ) → i < length words → (mark_at marks i ≡ true) ↔ Contains (listed_words words numbers) (word_at words i)

-- exactly the elements below v, each behind all others that are below it
pub record AreFound (A : IntegerMatrix) (v : List ℕ) (found : List (List ℕ)) : Type 0 where
  pub element : (p : ℕ) → p < length found → IsElement A (word_at found p)
  pub upward : (p q : ℕ) → p < length found → q < length found → IsBelow A (word_at found p) (word_at found q) → p ≤ q
  pub sound : (p : ℕ) → p < length found → IsBelow A (word_at found p) v
  pub whole : (word : List ℕ) → IsElement A word → IsBelow A word v → Contains found word

-- a word at one of the first places
pub record IsAmong (found : List (List ℕ)) (size : ℕ) (word : List ℕ) : Type 0 where
  pub p : ℕ
  pub before : p < size
  pub is : word_at found p ≡ word

-- a word that is not below v, but is s x for the word x at one of the first j places
pub record IsShifted (A : IntegerMatrix) (s : ℕ) (v : List ℕ) (j : ℕ) (found : List (List ℕ)) (word : List ℕ) : Type 0 where
  pub above : IsBelow A word v → ⊥
  pub i : ℕ
  pub before : i < j
  pub is : word ≡ normal_form A (s ∷ word_at found i)

-- On the way from v to s v: the first words, so many, are those below v, and for the first j of them s x was found, too.
pub record IsSpreading (A : IntegerMatrix) (s : ℕ) (v : List ℕ) (size j : ℕ) (found : List (List ℕ)) : Type 0 where
  pub many : size ≤ length found
  pub element : (p : ℕ) → p < length found → IsElement A (word_at found p)
  pub upward : (p q : ℕ) → p < length found → q < length found → IsBelow A (word_at found p) (word_at found q) → p ≤ q
  pub first : (p : ℕ) → p < size → IsBelow A (word_at found p) v
  pub whole : (word : List ℕ) → IsElement A word → IsBelow A word v → IsAmong found size word
  pub later : (p : ℕ) → size ≤ p → p < length found → IsShifted A s v j found (word_at found p)
  pub done : (p : ℕ) → p < j → Contains found (normal_form A (s ∷ word_at found p))

-- a word was there, or was added behind the others
pub data IsFound (word : List ℕ) (old new : List (List ℕ)) : Type 0 where
  was_there : Contains old word → new ≡ old → IsFound word old new
  was_added : (Contains old word → ⊥) → new ≡ old ++ word ∷ [] → IsFound word old new

-- the old words keep their numbers, and each new one is below v
pub record AreAppended (A : IntegerMatrix) (v : List ℕ) (old new : List (List ℕ)) : Type 0 where
  pub kept : AreKept old new
  pub below : (word : List ℕ) → Contains new word → Contains old word ⊎ IsBelow A word v

-- the list is as it was, or has this word behind the others
pub data IsGrownBy (word : List ℕ) (old new : List (List ℕ)) : Type 0 where
  no_more : new ≡ old → IsGrownBy word old new
  one_more : new ≡ old ++ word ∷ [] → IsGrownBy word old new
