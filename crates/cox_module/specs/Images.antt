-- The module of a left cell (Kazhdan and Lusztig 1979, section 1 and theorem 1.3). Its basis are the elements of the cell, by their words
-- in ShortLex order. For a left descent s of x, t(s) x is -x. For any other letter s it is the sum of v^2 x and of all v m y, where y is an
-- element of the cell that has the left descent s and is joined to x in the W-graph, m is the value of the edge, and v = q^(1/2).
use Rattle.std.specs.Prelude.{◌≡◌, ℕ, ◌<◌, List, length, All, slice_index_or}
use Rattle.cox_base.specs.Matrix.{IsLetter}
use Rattle.cox_base.specs.IntegerMatrix.{IntegerMatrix}
use Rattle.cox_base.specs.Descents.{IsLeftDescent}
use Rattle.cox_context.specs.Numbers.{word_at}
use Rattle.cox_wgraph.specs.Edges.{IsEdge}
use Rattle.cox_module.specs.declared.term.Entry.{Entry}
use Rattle.cox_module.specs.declared.term.Entry.TheVariants.{Minus, Square, Half}
use Rattle.cox_module.specs.declared.term.Term.{Term}

-- the coefficient at y of t(s) x is this one, which is not 0
abbrev pub IsEntry : IntegerMatrix → ℕ → List ℕ → List ℕ → Entry → Type 0
IsEntry A s x y Minus = (x ≡ y) × IsLeftDescent A x s
IsEntry A s x y Square = (x ≡ y) × ¬ IsLeftDescent A x s
IsEntry A s x y (Half m) = ¬ IsLeftDescent A x s × IsLeftDescent A y s × IsEdge A x y m

-- a term of t(s) x, at a place of the cell
abbrev pub IsTerm : IntegerMatrix → List (List ℕ) → ℕ → List ℕ → Term → Type 0
IsTerm A cell s x term = IsEntry A s x (word_at cell term.place) term.entry

-- a term by its place and its entry
abbrev pub term : ℕ → Entry → Term
term place entry = record { place = place; entry = entry }

-- the i-th term
abbrev pub term_at : List Term → ℕ → Term
term_at terms i = slice_index_or terms i (term 0 Minus)

-- the terms of t(s) x at the places before the n-th: all that there are, by rising place
pub record AreTermsBefore (A : IntegerMatrix) (cell : List (List ℕ)) (s : ℕ) (x : List ℕ) (n : ℕ) (terms : List Term) : Type 0 where
  pub rising : (i j : ℕ) → i < j → j < length terms → (term_at terms i).place < (term_at terms j).place
  pub before : All (λ (t : Term). t.place < n) terms
  pub each : All (IsTerm A cell s x) terms
  pub whole : (j : ℕ) (entry : Entry) → j < n → IsEntry A s x (word_at cell j) entry
      → (i : ℕ) × (i < length terms) × ((term_at terms i).place ≡ j)

-- t(s) x, for the k-th element x of the cell
abbrev pub IsImage : IntegerMatrix → List (List ℕ) → ℕ → ℕ → List Term → Type 0
IsImage A cell s k image = AreTermsBefore A cell s (word_at cell k) (length cell) image

-- the images of all elements of the cell, for each letter
abbrev pub AreImages : IntegerMatrix → List (List ℕ) → (ℕ → ℕ → List Term) → Type 0
AreImages A cell images = (s k : ℕ) → IsLetter A.rank s → k < length cell → IsImage A cell s k (images s k)
