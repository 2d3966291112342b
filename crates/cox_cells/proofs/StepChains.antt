-- Chains of steps are joined; and elements of one cell.
use Rattle.std.proofs.Common.{ℕ, List}
use Rattle.cox_base.specs.IntegerMatrix.{IntegerMatrix}
use Rattle.cox_base.specs.Members.{IsElement}
use Rattle.cox_cells.specs.declared.kind.CellKind.{CellKind}
use Rattle.cox_cells.specs.Cells.{IsStep, Precedes, IsInCell}

module _ (kind : CellKind) (A : IntegerMatrix) where
  pub precedes-trans : {x y z : List ℕ} → Precedes kind A x y → Precedes kind A y z → Precedes kind A x z
  precedes-trans (Precedes.itself x) d = d
  precedes-trans (Precedes.onward x y w s c) d = Precedes.onward x y _ s (precedes-trans c d)

  pub chain-step : (x y : List ℕ) → IsStep kind A x y → Precedes kind A x y
  chain-step x y s = Precedes.onward x y y s (Precedes.itself y)

  pub cell-itself : (x : List ℕ) → IsElement A x → IsInCell kind A x x
  cell-itself x e = record { element = e; forth = Precedes.itself x; back = Precedes.itself x }

  pub cell-back : (x y : List ℕ) → IsElement A x → IsInCell kind A x y → IsInCell kind A y x
  cell-back x y e c = record { element = e; forth = c.back; back = c.forth }

  pub cell-join : (x y z : List ℕ) → IsInCell kind A x y → IsInCell kind A y z → IsInCell kind A x z
  cell-join x y z c d = record { element = d.element; forth = precedes-trans c.forth d.forth; back = precedes-trans d.back c.back }
