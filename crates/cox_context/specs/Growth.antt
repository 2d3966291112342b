-- A list of members as it grows by length: the members of the next length are the s x for s = 1, 2, .. and for each s the members
-- x of this length, in order.
use Rattle.std.specs.Prelude.{◌≡◌, ◌⊎◌, ℕ, ◌<◌, ◌≤◌, List, ◌∷◌, length, Contains, Option, None, Some}
use Rattle.arrayvec.specs.ArrayVec.{ArrayVec}
use Rattle.cox_base.specs.Matrix.{IsLetter}
use Rattle.cox_base.specs.IntegerMatrix.{IntegerMatrix}
use Rattle.cox_base.specs.ShortLex.{normal_form}
use Rattle.cox_base.specs.Bruhat.{IsBelow}
use Rattle.cox_base.specs.Members.{IsElement}
use Rattle.cox_context.specs.WantedMembers.{IsBelowTop}
use Rattle.cox_base.specs.SortedList.{IsRising}
use Rattle.cox_context.specs.Numbers.{word_at}
use Rattle.cox_context.specs.Shifts.{entry, IsLower}

-- the list is that of the members of at most k letters, and those of k letters begin at low
pub record IsGrown (rank : ℕ) (P : List ℕ → Type 0) (k low : ℕ) (words : List (List ℕ)) : Type 0 where
  pub start : low ≤ length words
  pub rising : IsRising words
  pub sound : (i : ℕ) → i < length words → P (word_at words i)
  pub shorter : (i : ℕ) → i < low → length (word_at words i) < k
  pub level : (i : ℕ) → low ≤ i → i < length words → length (word_at words i) ≡ k
  pub whole : (word : List ℕ) → P word → length word ≤ k → (i : ℕ) × (i < length words) × (word_at words i ≡ word)

-- t with the parent i comes before s with the parent j
abbrev pub IsEarlier : ℕ → ℕ → ℕ → ℕ → Type 0
IsEarlier t i s j = (t < s) ⊎ ((t ≡ s) × (i < j))

-- the word m is t x with x the word i from low on, and t with i comes before s with j
pub record IsChild (words : List (List ℕ)) (low s j m : ℕ) : Type 0 where
  pub t : ℕ
  pub i : ℕ
  pub from : low ≤ i
  pub earlier : IsEarlier t i s j
  pub is : word_at words m ≡ t ∷ word_at words i

-- Beside the members of at most k letters, which end at high, the list has those of k + 1 letters up to s with the parent j.
pub record IsGrowing (rank : ℕ) (P : List ℕ → Type 0) (k low high s j : ℕ) (words : List (List ℕ)) : Type 0 where
  pub start : low ≤ j
  pub stop : j ≤ high
  pub end : high ≤ length words
  pub rising : IsRising words
  pub sound : (i : ℕ) → i < length words → P (word_at words i)
  pub shorter : (i : ℕ) → i < low → length (word_at words i) < k
  pub level : (i : ℕ) → low ≤ i → i < high → length (word_at words i) ≡ k
  pub whole : (word : List ℕ) → P word → length word ≤ k → (i : ℕ) × (i < high) × (word_at words i ≡ word)
  pub made : (m : ℕ) → high ≤ m → m < length words → (i : IsChild words low s j m) × (i.i < high)
  pub found : (t i : ℕ) → IsLetter rank t → low ≤ i → i < high → IsEarlier t i s j → P (t ∷ word_at words i)
      → (m : ℕ) × (m < length words) × (word_at words m ≡ t ∷ word_at words i)

-- an element below y with no more than so many letters is not among the words
pub record IsOutside (A : IntegerMatrix) (words : List (List ℕ)) (y : List ℕ) (k : ℕ) : Type 0 where
  pub word : List ℕ
  pub element : IsElement A word
  pub below : IsBelow A word y
  pub short : length word ≤ k
  pub absent : ¬ (Contains words word)

-- For each letter t that shortens y the number of t y, in the order of the letters.
pub record AreLower (A : IntegerMatrix) (words : List (List ℕ)) (y : List ℕ) (lower : List ℕ) : Type 0 where
  pub size : A.rank ≤ length lower
  pub each : (t : ℕ) → IsLetter A.rank t → IsLower A words y t (entry A.rank lower t 0)

-- a word that is to be the next member
pub record IsNext (A : IntegerMatrix) (words : List (List ℕ)) (top : Option (ArrayVec ℕ)) (y lower : List ℕ) : Type 0 where
  pub new : ¬ (Contains words (normal_form A y))
  pub meant : IsBelowTop A top y
  pub numbers : AreLower A words y lower

-- a word y = s x that is not: its element is among the words, or is not below the top, or an element below it that is no longer than x is
-- not among the words
pub data IsNoNext (A : IntegerMatrix) (words : List (List ℕ)) (top : Option (ArrayVec ℕ)) (y : List ℕ) (k : ℕ) : Type 0 where
  known : Contains words (normal_form A y) → IsNoNext A words top y k
  above : ¬ (IsBelowTop A top y) → IsNoNext A words top y k
  outside : IsOutside A words y k → IsNoNext A words top y k

-- the words are below the top
abbrev pub AreBelowTop : IntegerMatrix → Option (ArrayVec ℕ) → List (List ℕ) → Type 0
AreBelowTop A top words = (i : ℕ) → i < length words → IsBelowTop A top (word_at words i)

-- what is left of y: y itself, or the member with a number
abbrev pub remaining_word : List (List ℕ) → List ℕ → Option ℕ → List ℕ
remaining_word words y None = y
remaining_word words y (Some i) = word_at words i
