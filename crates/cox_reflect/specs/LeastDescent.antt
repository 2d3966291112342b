-- The least left descent.
use Rattle.std.specs.Prelude.{ℕ, ◌≤◌, List}
use Rattle.cox_base.specs.declared.side.Side.TheVariants.{Left}
use Rattle.cox_base.specs.IntegerMatrix.{IntegerMatrix}
use Rattle.cox_base.specs.SideDescents.{IsDescent}

-- s is the least of the left descents of u
abbrev pub IsLeastLeftDescent : IntegerMatrix → List ℕ → ℕ → Type 0
IsLeastLeftDescent A u s = record { descent : IsDescent Left A u s; least : (t : ℕ) → IsDescent Left A u t → s ≤ t }
