-- The integer matrix a(s,t) of a Coxeter matrix: a generalized Cartan matrix, by which the group acts on integer vectors (compare
-- Humphreys 5.3).
use Rattle.std.specs.Prelude.{ℕ, ◌==◌, ◌&&◌, if◌then◌else◌, nat_lt, ℤ, pos, negsuc}
use Rattle.cox_base.specs.Matrix.{CoxeterMatrix, is_between, label}

-- a(s,t) is the entry at s and t, which are letters of the rank
pub record IntegerMatrix : Type 0 where
  pub rank : ℕ
  pub entry : ℕ → ℕ → ℤ

-- For s < t, a(s,t) and a(t,s) are 0 and 0 for the label 2, -1 and -1 for 3, -1 and -2 for 4, -1 and -3 for 6, -2 and -2 for infinity.
-- (`negsuc k` is -(k + 1).)
abbrev pub entry_above : ℕ → ℤ
entry_above m = if m == 2 then pos 0 else if m == 0 then negsuc 1 else negsuc 0

abbrev pub entry_below : ℕ → ℤ
entry_below m = if m == 2 then pos 0 else if m == 3 then negsuc 0 else if m == 6 then negsuc 2 else negsuc 1

-- a(s,t) of a Coxeter matrix: 2 on the diagonal; 0 where s or t is no letter
unfoldable pub entry_of : CoxeterMatrix → ℕ → ℕ → ℤ
entry_of g s t = if is_between 1 g.rank s && is_between 1 g.rank t
    then (if s == t then pos 2 else if nat_lt s t then entry_above (label g s t) else entry_below (label g t s)) else pos 0

abbrev pub integer_matrix : CoxeterMatrix → IntegerMatrix
integer_matrix g = record { rank = g.rank; entry = entry_of g }
