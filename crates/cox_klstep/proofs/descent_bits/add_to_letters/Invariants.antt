-- The letters before the one at hand have all members.
use Rattle.std.proofs.Common.{length}
use Rattle.cox_klstep.proofs.WordBits.{AreAddedTo}
use Rattle.cox_klstep.proofs.descent_bits.add_to_letters.Given as goal

abbrev pub invariant-loop-k : goal.invariant-loop-k
invariant-loop-k l = AreAddedTo l.ctx l.side l.from (length l.ctx.members) l.k l.letters.items
