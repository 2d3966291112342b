-- Coordinates of positive roots and coroots, as lists of numbers, and what a letter does to them.
use Rattle.std.specs.Prelude.{ℕ, zero, suc, ◌+◌, ◌-◌, ◌*◌, ◌^◌, ◌<◌, ◌≤◌, List, slice_index, nat_abs, pos}
use Rattle.cox_base.specs.IntegerMatrix.{IntegerMatrix}
use Rattle.cox_reflect.specs.Action.{Vector}
use Rattle.cox_reflect.specs.Transpose.{transposed}
use Rattle.cox_minroots.specs.declared.root.Kind.{Kind}
use Rattle.cox_minroots.specs.declared.root.Kind.TheVariants.{OfRoot, OfCoroot}

-- the vector with these coordinates, that of e(1) first
unfoldable pub vector_of : List ℕ → Vector
vector_of xs zero = pos 0
vector_of xs (suc k) = pos (slice_index xs k)

-- the matrix that moves roots, or coroots
abbrev pub matrix_of_kind : Kind → IntegerMatrix → IntegerMatrix
matrix_of_kind OfRoot A = A
matrix_of_kind OfCoroot A = transposed A

-- f 1 + .. + f n
unfoldable pub nat_sum_to : ℕ → (ℕ → ℕ) → ℕ
nat_sum_to zero f = 0
nat_sum_to (suc n) f = nat_sum_to n f + f (suc n)

-- |a(s,1)| x(1) + .. + |a(s,n)| x(n). As a(s,s) is 2 and no other entry of the row is above 0, p is 4 x(s) less this number.
unfoldable pub weight : IntegerMatrix → ℕ → List ℕ → ℕ
weight A s xs = nat_sum_to A.rank (λ t. nat_abs (A.entry s t) * slice_index xs (t - 1))

-- -p where p is negative, else 0
abbrev pub rise : IntegerMatrix → ℕ → List ℕ → ℕ
rise A s xs = weight A s xs - 4 * slice_index xs (s - 1)

-- s takes the coordinates to nonnegative ones that are below 2^16: it changes that of e(s) to x(s) - p
pub record CanTurn (A : IntegerMatrix) (s : ℕ) (xs : List ℕ) : Type 0 where
  pub positive : 3 * slice_index xs (s - 1) ≤ weight A s xs
  pub room : weight A s xs - 3 * slice_index xs (s - 1) < 2 ^ 16
