-- The cells of a store: one for each member, under its number.
use Rattle.std.specs.Prelude.{◌≡◌, ℕ, ◌<◌, List, length, slice_index_or, ℤ}
use Rattle.cox_context.specs.Closed.{Elements}
use Rattle.cox_rowcell.specs.Place.{Place}

-- the row of member i, with coefficients within the limit
abbrev pub place_at : Elements → ℤ → ℕ → Place
place_at e bound i = record { elements = e; member = i; limit = bound }

-- each cell is for the row of the member that has its number
abbrev pub ArePlaces : Elements → ℤ → List Place → Type 0
ArePlaces e bound places = (i : ℕ) → i < length places → slice_index_or places i (place_at e bound 0) ≡ place_at e bound i
