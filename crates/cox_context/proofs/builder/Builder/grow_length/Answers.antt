-- After the last letter the builder has all members of the next length.
use Rattle.std.proofs.Common.{rules, ◌+◌, ◌≡◌, arith}
use Rattle.cox_context.specs.Building.{IsWanted}
use Rattle.cox_context.proofs.Ideals.{member-tailed}
use Rattle.cox_context.proofs.GrowingMembers.{grown-end}
use Rattle.cox_context.proofs.builder.Builder.grow_length.Goals as goal

pub returns-in_err-self-clause-fault : goal.returns-in_err-self-clause-fault
returns-in_err-self-clause-fault c = rw (← c.loop-s.invariant.search) (search rules)

pub returns-clause-grown : goal.returns-clause-grown
returns-clause-grown c =
    let v = c.loop-s.self
    in let stop : c.loop-s.s ≡ c.args.self.search.matrix.rank + 1 = omega (arith, c.rank-rank.ensures.rank)
    in let last = rw (← c.loop-s.invariant.search) at stop
    in let matrix = rw (← c.loop-s.invariant.search) at c.rank-rank.ensures.matrix
    in rw (← c.len-high.ensures.len) (grown-end v.search.matrix.rank (IsWanted v.search)
    (member-tailed v.search.matrix matrix v.search.top) c.args.letters c.args.low c.len-high.result c.loop-s.s
    v.members last c.loop-s.invariant.growing)
