-- How the rows that are held change while those of Need(w) are made.
use Rattle.std.specs.Prelude.{◌≡◌, ◌⊎◌, ℕ, List, length, ◌<◌, Bool, true, false, slice_index_or, Option, IfSome}
use Rattle.cox_base.specs.IntegerMatrix.{integer_matrix}
use Rattle.cox_hecke.specs.Needs.{IsNeeded}
use Rattle.cox_context.specs.Closed.{Elements}
use Rattle.cox_context.specs.Numbers.{word_at}
use Rattle.cox_row.specs.Rising.{number_at}
use Rattle.cox_klstep.specs.declared.tables.Tables.{Tables}
use Rattle.cox_klstep.specs.TablesOf.{AreTables}
use Rattle.cox_rows.specs.Beyond.{NeedsBeyond}
use Rattle.cox_rows.specs.CountedRows.{AreRowsCounted}
use Rattle.cox_rows.specs.Holding.{Holding, HasRow}

-- all rows of Need(w) are held
abbrev pub HoldsNeed : Holding → List ℕ → Type 0
HoldsNeed h w = (j : ℕ) → j < length h.elements.members
    → IsNeeded (integer_matrix h.elements.matrix) w (word_at h.elements.members j) → HasRow h j

-- the context and the limit stay, what is held stays, and what is new is needed by w; what is added up is counted, and nothing is where all
-- that w needs is held
pub record IsEnsured (w : List ℕ) (old new : Holding) : Type 0 where
  pub elements : new.elements ≡ old.elements
  pub limit : new.limit ≡ old.limit
  pub kept : (j : ℕ) → HasRow old j → HasRow new j
  pub needed : (j : ℕ) → HasRow new j
      → HasRow old j ⊎ IsNeeded (integer_matrix old.elements.matrix) w (word_at old.elements.members j)
  pub counted : AreRowsCounted old new
  pub again : HoldsNeed old w → new.steps ≡ old.steps

-- the row of the member i needs those of the members with these numbers, and they come before it
pub record AreNeededBefore (e : Elements) (i : ℕ) (numbers : List ℕ) : Type 0 where
  pub member : i < length e.members
  pub before : (k : ℕ) → k < length numbers → number_at numbers k < i
  pub needed : (k : ℕ) → k < length numbers
      → IsNeeded (integer_matrix e.matrix) (word_at e.members i) (word_at e.members (number_at numbers k))

-- no row of the Need of the member with the number i is beyond the limits, and all of them are held
pub record IsSettled (h : Holding) (i : ℕ) : Type 0 where
  pub member : i < length h.elements.members
  pub small : ¬ NeedsBeyond (integer_matrix h.elements.matrix) h.limit (word_at h.elements.members i)
  pub held : HoldsNeed h (word_at h.elements.members i)

-- which members are known to be settled, and the tables of the context, where there are some
pub record IsStore (h : Holding) (settled : List Bool) (tables : Option Tables) : Type 0 where
  pub known : (i : ℕ) → slice_index_or settled i false ≡ true → IsSettled h i
  pub usable : IfSome tables (AreTables h.elements)
