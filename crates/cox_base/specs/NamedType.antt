-- The named types: a letter, as the code of its character, and a number, as A 4 or E 6. A small a stands for the
-- affine types of A. The nodes are numbered along the diagram as in Bourbaki (Lie groups and Lie algebras, chapters 4
-- to 6, the plates), so the double bond of B stands at its last two nodes; those of the affine types go round the
-- cycle.
use Rattle.std.specs.Prelude.{ℕ, zero, suc, ◌+◌, ◌-◌, ◌==◌, Bool, ◌&&◌, ◌||◌, if◌then◌else◌, nat_le, List, [], ◌++◌, map}
use Rattle.std.specs.List.{range_with_len}
use Rattle.cox_base.specs.declared.limits.TheConstants.{MAX_RANK}
use Rattle.cox_base.specs.Matrix.{CoxeterMatrix, is_between}

-- Which types there are, up to the greatest rank: A from 1, B from 2, D from 4, E 6 to 8, F 4, G 2 and a from 1 (65 is the code of A, 66
-- of B, and so on; 97 that of a).
abbrev pub is_type : ℕ → ℕ → Bool
is_type letter n = (letter == 65 && is_between 1 MAX_RANK n) || (letter == 66 && is_between 2 MAX_RANK n)
    || (letter == 68 && is_between 4 MAX_RANK n) || (letter == 69 && is_between 6 8 n) || (letter == 70 && n == 4)
    || (letter == 71 && n == 2) || (letter == 97 && is_between 1 (MAX_RANK - 1) n)

-- the number of nodes: n, but n + 1 for the affine types
abbrev pub type_rank : ℕ → ℕ → ℕ
type_rank letter n = if letter == 97 then n + 1 else n

-- The label between nodes s < t. A chain has 3 between neighbours s and s + 1, else 2. A is a chain; B too, but for 4 between the last two
-- nodes; D has 3 between n-2 and n, and is a chain up to n-1; E has 3 between 1 and 3, 2 and 4, 3 and 4, and is a chain from 4 on; F is a
-- chain but for 4 between 2 and 3; G has 6. The affine types are infinity for a 1, else a cycle: a chain with 3 between 1 and n+1.
abbrev pub type_label : ℕ → ℕ → ℕ → ℕ → ℕ
type_label letter n s t = let chain = if t == s + 1 then 3 else 2 in
    if letter == 65 then chain
    else if letter == 66 then (if s + 1 == n && t == n then 4 else chain)
    else if letter == 68 then (if t == n then (if s + 2 == n then 3 else 2) else chain)
    else if letter == 69 then (if (s == 1 && t == 3) || (s == 2 && t == 4) then 3 else if nat_le s 2 then 2 else chain)
    else if letter == 70 then (if s == 2 && t == 3 then 4 else chain)
    else if letter == 71 then 6 else if n == 1 then 0 else if s == 1 && t == n + 1 then 3 else chain

-- f s t for s < t ≤ n, in the first rows, row by row
unfoldable pub rows_above : ℕ → (ℕ → ℕ → ℕ) → ℕ → List ℕ
rows_above n f zero = []
rows_above n f (suc r) = rows_above n f r ++ map (λ t. f (suc r) t) (range_with_len (suc r + 1) (n - suc r))

-- the Coxeter matrix of a type
unfoldable pub type_matrix : ℕ → ℕ → CoxeterMatrix
type_matrix letter n = let rank = type_rank letter n in record { rank = rank; labels = rows_above rank (type_label letter n) rank }
