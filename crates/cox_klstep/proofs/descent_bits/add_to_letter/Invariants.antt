-- The members before the one at hand have their bits.
use Rattle.std.proofs.Common.{◌-◌, ◌≤◌, length}
use Rattle.cox_klstep.specs.DescentBits.{AreBits}
use Rattle.cox_klstep.proofs.descent_bits.add_to_letter.Given as goal

abbrev pub invariant-loop-x : goal.invariant-loop-x
invariant-loop-x l = record {
  ahead : l.from ≤ l.x;
  within : l.x ≤ length l.ctx.members;
  bits : AreBits l.ctx l.side l.s l.x l.words.items;
}

abbrev pub decreases-loop-x : goal.decreases-loop-x
decreases-loop-x l = length l.ctx.members - l.x
