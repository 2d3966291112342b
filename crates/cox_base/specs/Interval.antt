-- Bruhat intervals: the elements between two, the elements that one covers, and how many there are of each length.
use Rattle.std.specs.Prelude.{◌≡◌, ℕ, ℤ, pos, ◌+◌, ◌==◌, List, length, map, filter}
use Rattle.std.specs.List.{range_with_len}
use Rattle.cox_base.specs.IntegerMatrix.{IntegerMatrix}
use Rattle.cox_base.specs.Length.{word_length}
use Rattle.cox_base.specs.Bruhat.{IsBelow}
use Rattle.cox_base.specs.Members.{IsElement}

-- an element x with y ≤ x ≤ w
abbrev pub IsBetween : IntegerMatrix → List ℕ → List ℕ → List ℕ → Type 0
IsBetween A y w word = record { element : IsElement A word; above : IsBelow A y word; below : IsBelow A word w }

-- an element x < w with l(x) = l(w) - 1
abbrev pub IsCoatom : IntegerMatrix → List ℕ → List ℕ → Type 0
IsCoatom A w word = record { element : IsElement A word; below : IsBelow A word w; letters : length word + 1 ≡ word_length A w }

-- how many words of a list have k letters
abbrev pub count_of_length : List (List ℕ) → ℕ → ℕ
count_of_length words k = length (filter (λ word. length word == k) words)

-- the same for k = 0 to n
abbrev pub counts_by_length : List (List ℕ) → ℕ → List ℤ
counts_by_length words n = map (λ k. pos (count_of_length words k)) (range_with_len 0 (n + 1))
