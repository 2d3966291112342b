-- The rows of a store that is ended: each is that of its member, and what was seen Published is there.
use Rattle.std.proofs.Common.{◌≡◌, ℕ, ◌<◌, List, length, Option, IfSome, subst, ℤ}
use Rattle.std.proofs.Common.{arith}
use Rattle.cox_context.specs.Closed.{Elements}
use Rattle.cox_claims.specs.declared.view.View.{View}
use Rattle.cox_row.specs.declared.row.Row.{Row}
use Rattle.cox_rowcell.specs.Place.{Place}
use Rattle.cox_rowcell.specs.RowFor.{IsRowFor}
use Rattle.cox_row_store.specs.Places.{place_at, ArePlaces}
use Rattle.cox_row.specs.RowLists.{row_at}
use Rattle.cox_row_store.specs.Taken.{AreTaken, TakesRows}

pub are_taken : (e : Elements) (bound : ℤ) (v w : View) (rows : ℕ) (places : List Place) (out : List (Option Row))
    → length e.members ≡ rows → length places ≡ rows → ArePlaces e bound places → TakesRows places v w out → AreTaken e bound v out
are_taken e bound v w rows places out members cells placed taken = record {
  count = omega (arith, taken.count, cells, members);
  each = λ i l.
      let within : i < length places = omega (arith, l, cells, members)
      in subst (λ p. IfSome (row_at out i) (IsRowFor p)) (placed i within) (taken.each i (place_at e bound 0) within);
  whole = λ i l seen. taken.whole i (omega (arith, l, cells, members)) seen;
}
