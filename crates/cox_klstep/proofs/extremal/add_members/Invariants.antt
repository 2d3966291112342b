-- The members up to the bit at hand are listed, and the bits of the rest are those of the word.
use Rattle.std.proofs.Common.{◌≡◌, ℕ, ◌+◌, ◌-◌, ◌<◌, ◌≤◌}
use Rattle.std.specs.Int.{bit_at}
use Rattle.cox_row.specs.Rising.{number_at}
use Rattle.cox_klstep.specs.DescentBits.{AreNumbersOf}
use Rattle.cox_klstep.proofs.extremal.add_members.Given as goal

abbrev pub invariant-loop-rest : goal.invariant-loop-rest
invariant-loop-rest l = record {
  bound : l.from ≤ 64;
  before : l.first + l.from ≤ l.last + 1;
  low : (j : ℕ) → j < l.from → bit_at l.rest j ≡ 0;
  high : (j : ℕ) → l.from ≤ j → j < 64 → bit_at l.rest j ≡ bit_at (number_at l.words l.place) j;
  listed : AreNumbersOf l.words (l.first + l.from) l.members.items;
}

abbrev pub decreases-loop-rest : goal.decreases-loop-rest
decreases-loop-rest l = 64 - l.from
