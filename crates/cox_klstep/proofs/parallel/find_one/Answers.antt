-- The polynomial has the sums of P(x,w).
use Rattle.std.specs.Result.{is_ok}
use Rattle.cox_klstep.proofs.FoundLists.{found-by_sums, found-more}
use Rattle.cox_klstep.proofs.parallel.find_one.Goals as goal

pub put_polynomial-requires-clause-extremal : goal.put_polynomial-requires-clause-extremal
put_polynomial-requires-clause-extremal c = rw c.at-next.ensures.member (c.requires.task.lowered.members.extremal c.args.k c.requires.place)

pub put_polynomial-requires-clause-below : goal.put_polynomial-requires-clause-below
put_polynomial-requires-clause-below c = rw c.at-next.ensures.member (c.requires.task.lowered.members.below c.args.k c.requires.place)

pub returns : goal.returns
returns c = found-more c.args.task.now.ctx.now c.args.task.now.member c.args.found.now.items c.push.new.self.items
    (record { member = c.at-next.result.member; polynomial = c.in-Ok.polynomial }) (is_ok c.push.result) c.push.ensures.items
    c.requires.found
    (found-by_sums _ _ c.at-next.result.member c.in-Ok.polynomial c.put_polynomial.new.sums c.in-Ok.ensures.sum
    (rw c.at-next.ensures.member (c.requires.task.lowered.members.below c.args.k c.requires.place)) c.put_polynomial.ensures.value)
