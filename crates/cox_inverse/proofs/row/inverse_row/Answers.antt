-- The polynomials of all members between y and w; or a fault.
use Rattle.std.proofs.Common.{w64}
use Rattle.std.proofs.lemmas.Int.{to_z-of_z}
use Rattle.cox_inverse.proofs.LastInverses.{all-within}
use Rattle.cox_inverse.proofs.row.inverse_row.Goals as goal

pub returns-in-Some-clause-fault : goal.returns-in-Some-clause-fault
returns-in-Some-clause-fault g c =
    rw (c.in_ok-interval.ensures.bottom, c.in_ok-interval.ensures.top) at (c.in-Some.ensures.some c.args.limit)

pub returns-clause-within : goal.returns-clause-within
returns-clause-within g c =
    let interval = c.in_ok-interval.ensures.interval
    in let inverses = rw (to_z-of_z w64 c.args.limit c.ranges.limit) at c.in_ok-polynomials.ensures.inverses
    in rw (← c.in_ok-interval.ensures.bottom, ← c.in_ok-interval.ensures.top)
    (all-within c.args.ctx.now c.len-len.ensures.admissible c.len-len.ensures.closed c.in_ok-interval.interval.bottom
    c.in_ok-interval.interval.top interval.top_member c.in_ok-interval.interval.members.items interval.between c.args.limit
    c.in_default.ensures.none c.in_ok-polynomials.polynomials.items c.in_ok-polynomials.ensures.all inverses)
