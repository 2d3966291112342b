-- What the tables of a context have.
use Rattle.std.specs.Prelude.{◌≡◌}
use Rattle.cox_context.specs.Closed.{Elements}
use Rattle.cox_context.specs.Spread.{AreKept}
use Rattle.cox_row_symmetry.specs.BruhatSymmetries.{AreBruhatSymmetries}
use Rattle.cox_klstep.specs.DescentBits.{AreDescentBits}
use Rattle.cox_klstep.specs.declared.tables.Tables.{Tables}

-- the tables are those of a context: symmetries as they take its members, and which members each letter shortens
pub record AreTables (e : Elements) (tables : Tables) : Type 0 where
  pub symmetries : AreBruhatSymmetries e tables.symmetries.list.items
  pub descents : AreDescentBits e tables.descents

-- the tables are those of an earlier context, whose members have the numbers that they had
pub record AreEarlierTables (e : Elements) (tables : Tables) : Type 0 where
  pub earlier : Elements
  pub matrix : e.matrix ≡ earlier.matrix
  pub kept : AreKept earlier.members e.members
  pub were : AreTables earlier tables
