-- A seat waits only for rows whose numbers are less than those of all rows that it holds.
use Rattle.std.proofs.Common.{◌≡◌, ℕ, ◌<◌, sym, ap, ◌∙◌, arith}
use Rattle.cox_claims.specs.declared.seat.Seat.{Seat}
use Rattle.cox_claims.specs.Knowledge.{among}
use Rattle.cox_claims.specs.Seats.{view_of, Holds, HoldsBeyond}
use Rattle.cox_workers.specs.SeatChanges.{HoldsFrom}

-- what holds of each row that a seat holds holds of them later too, while it holds the same
held-still : (P : ℕ → Type 0) (a b : Seat) → (view_of b).held ≡ (view_of a).held → ((j : ℕ) → Holds a j → P j) → (j : ℕ) → Holds b j → P j
held-still P a b same all j held = all j (sym (ap (among j) same) ∙ held)

pub beyond-still : (i : ℕ) (a b : Seat) → (view_of b).held ≡ (view_of a).held → HoldsBeyond a i → HoldsBeyond b i
beyond-still i a b same beyond = held-still (λ j. i < j) a b same beyond

-- of a seat that holds no row but from i on, the same for each lesser number
pub from-beyond : (i u : ℕ) (a b : Seat) → u < i → (view_of b).held ≡ (view_of a).held → HoldsFrom a i → HoldsBeyond b u
from-beyond i u a b less same from = held-still (λ j. u < j) a b same (λ j held. let at = from j held in omega (arith, at, less))
