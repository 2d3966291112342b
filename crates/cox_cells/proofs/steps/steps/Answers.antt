-- The last vertex has been met.
use Rattle.std.proofs.Common.{◌≡◌, length, arith}
use Rattle.cox_cells.proofs.steps.steps.Goals as goal

pub returns-clause-steps : goal.returns-clause-steps
returns-clause-steps g c =
    let last : c.loop-j.j ≡ length c.args.context.now.members = omega arith
    in rw (← last) c.loop-j.invariant.steps
