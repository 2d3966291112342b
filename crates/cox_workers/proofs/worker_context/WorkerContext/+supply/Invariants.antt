-- The row of a member needs those of members with smaller numbers; and what is known while these are provided, one after another.
use Rattle.std.proofs.Common.{◌+◌, ◌*◌}
use Rattle.cox_workers.specs.Ready.{IsWorkFor}
use Rattle.cox_claims.specs.Seats.{HasSeenClaimed, HasSeenEnd}
use Rattle.std.specs.Prelude.{◌<◌, length, IfSome}
use Rattle.cox_workers.proofs.worker_context.WorkerContext.+supply.Given as goal

abbrev pub decreases-supply : goal.decreases-supply
decreases-supply g l = 2 * l.i

abbrev pub decreases-provide : goal.decreases-provide
decreases-provide g l = 2 * l.u + 1

abbrev pub invariant-supply-corrections : goal.invariant-supply-corrections
invariant-supply-corrections g l = record {
  work : IsWorkFor l.self l.i l.fn.seat l.seat l.fn.scratch l.scratch;
  claimed : IfSome l.claimed (λ j. j < length l.self.context.now.members);
  seen : IfSome l.claimed (HasSeenClaimed l.seat);
  fresh : IfSome l.claimed (λ j. ¬ HasSeenEnd l.fn.seat j);
}
