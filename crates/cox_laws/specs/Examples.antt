-- The groups of the examples, and cells.
use Rattle.std.specs.Prelude.{ℕ, List, [], ◌∷◌}
use Rattle.cox_base.specs.NamedType.{type_matrix}
use Rattle.cox_base.specs.IntegerMatrix.{IntegerMatrix, integer_matrix}

-- those of types A 2 and A 3, by their integer matrices (65 is the code of A)
abbrev pub a2 : IntegerMatrix
a2 = integer_matrix (type_matrix 65 2)

abbrev pub a3 : IntegerMatrix
a3 = integer_matrix (type_matrix 65 3)

-- the left cells of A 2: e alone, 1 with 21, 2 with 12, and 121 alone
abbrev pub left_cells_of_a2 : List (List (List ℕ))
left_cells_of_a2 = ([] ∷ []) ∷ ((1 ∷ []) ∷ (2 ∷ 1 ∷ []) ∷ []) ∷ ((2 ∷ []) ∷ (1 ∷ 2 ∷ []) ∷ []) ∷ ((1 ∷ 2 ∷ 1 ∷ []) ∷ []) ∷ []
