-- Coxeter matrices (Humphreys, "Reflection Groups and Coxeter Groups", 5.1), with the labels 2, 3, 4, 6 and infinity.
use Rattle.std.specs.Prelude.{ℕ, zero, suc, ◌+◌, ◌-◌, ◌≤◌, ◌==◌, Bool, ◌&&◌, ◌||◌, if◌then◌else◌, nat_lt, nat_le, List, slice_index, All}

-- A Coxeter matrix is symmetric, with 1 on its diagonal. So it is given by its rank n and by the labels above the diagonal, row by row:
-- m(1,2), m(1,3), .., m(1,n), m(2,3), .., m(n-1,n). Infinity is written 0.
pub record CoxeterMatrix : Type 0 where
  pub rank : ℕ
  pub labels : List ℕ

-- a letter, or node: 1 to the rank
pub record IsLetter (rank s : ℕ) : Type 0 where
  pub from_one : 1 ≤ s
  pub to_rank : s ≤ rank

-- low ≤ n ≤ high
abbrev pub is_between : ℕ → ℕ → ℕ → Bool
is_between low high n = nat_le low n && nat_le n high

-- each letter of a word is one of the rank
abbrev pub IsWord : ℕ → List ℕ → Type 0
IsWord rank word = All (λ s. IsLetter rank s) word

-- the labels that are admitted: 2, 3, 4, 6 and infinity, written 0
abbrev pub is_label : ℕ → Bool
is_label m = (m == 0) || (m == 2) || (m == 3) || (m == 4) || (m == 6)

-- how many labels stand in the first rows: row r has n - r of them
unfoldable pub labels_before : ℕ → ℕ → ℕ
labels_before n zero = 0
labels_before n (suc r) = labels_before n r + (n - suc r)

-- the place of the label of s and t, s < t, in the list of labels, counted from 0
unfoldable pub place : ℕ → ℕ → ℕ → ℕ
place n s t = labels_before n (s - 1) + (t - s - 1)

-- m(s,t)
unfoldable pub label : CoxeterMatrix → ℕ → ℕ → ℕ
label g s t = if s == t then 1 else if nat_lt s t then slice_index g.labels (place g.rank s t) else slice_index g.labels (place g.rank t s)
