-- What was found stays.
use Rattle.std.proofs.Common.{◌≡◌, ◌-◌, length}
use Rattle.cox_klstep.proofs.parallel.FoundCursor.come_to.Given as goal

abbrev pub invariant-loop-self : goal.invariant-loop-self
invariant-loop-self l = l.self.found ≡ l.initial.self.found

abbrev pub decreases-loop-self : goal.decreases-loop-self
decreases-loop-self l = length l.self.found.items - l.self.place
