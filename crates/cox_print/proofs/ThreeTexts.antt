-- Three texts, one behind another.
use Rattle.std.proofs.Common.{◌≡◌, ℕ, List, ◌++◌, Result, IsErr}
use Rattle.std.specs.declared.alloc.AllocError.{AllocError}
use Rattle.cox_poly.specs.Puts.{PutsPrefix, Puts}
use Rattle.cox_poly.proofs.Behind.{PutsPrefix-first, PutsPrefix-second, Puts-first, Puts-second, append-second}

-- out of memory at the first
pub Puts-first_of_three : (result : Result Unit AllocError) (a b c old new : List ℕ) → IsErr result → PutsPrefix a old new
    → Puts result (a ++ b ++ c) old new
Puts-first_of_three result a b c old new failed put = Puts-first result (a ++ b) c old new failed (PutsPrefix-first a b old new put)

-- out of memory at the second
pub Puts-second_of_three : (result : Result Unit AllocError) (a b c old mid new : List ℕ) → mid ≡ old ++ a → IsErr result
    → PutsPrefix b mid new → Puts result (a ++ b ++ c) old new
Puts-second_of_three result a b c old mid new first failed put =
    Puts-first result (a ++ b) c old new failed (PutsPrefix-second a b old mid new first put)

-- the third
pub Puts-third_of_three : (result : Result Unit AllocError) (a b c old mid low new : List ℕ) → mid ≡ old ++ a → low ≡ mid ++ b
    → Puts result c low new → Puts result (a ++ b ++ c) old new
Puts-third_of_three result a b c old mid low new first second put =
    Puts-second result (a ++ b) c old low new (append-second a b old mid low first second) put
