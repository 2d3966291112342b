-- What makes a row ready for many look-ups.
use Rattle.std.specs.Prelude.{◌≡◌, ℕ, ◌<◌, length, Option, None, Some, IfSome}
use Rattle.std.specs.Borrow.{Bor}
use Rattle.cox_base.specs.IntegerMatrix.{integer_matrix}
use Rattle.cox_context.specs.Closed.{Elements}
use Rattle.cox_context.specs.Numbers.{word_at}
use Rattle.cox_row.specs.declared.reader.RowReader.{RowReader}
use Rattle.cox_row.specs.declared.row.SharedPolynomials.{SharedPolynomials}
use Rattle.cox_row.specs.Index.{IsIndexOf}
use Rattle.cox_row.specs.LetterSets.{AreLeftDescents, AreRightDescents}
use Rattle.cox_row.specs.RowOf.{AreValuesOf}
use Rattle.cox_row.specs.Views.{IsViewOf}

-- the polynomials of the member with the number v serve for the member with the number i: v is i, or the member of the view
abbrev pub ServesAt : Elements → ℕ → Option (Bor SharedPolynomials) → ℕ → Type 0
ServesAt e i None v = v ≡ i
ServesAt e i (Some view) v = IsViewOf (integer_matrix e.matrix) e.members (word_at e.members i) view.now × (v ≡ view.now.member)

-- the reader has the polynomials of the row of the member with its number, their index, and the descents of the member to which they belong
pub record IsReader (e : Elements) (reader : RowReader) : Type 0 where
  pub number : reader.number < length e.members
  pub member : reader.member < length e.members
  pub serves : ServesAt e reader.number reader.view reader.member
  pub values : AreValuesOf (integer_matrix e.matrix) e.members (word_at e.members reader.member) reader.values.now
  pub index : IfSome reader.index (λ index. IsIndexOf reader.values.now.extremal.items index.now)
  pub left : AreLeftDescents (integer_matrix e.matrix) (word_at e.members reader.member) reader.left
  pub right : AreRightDescents (integer_matrix e.matrix) (word_at e.members reader.member) reader.right
