-- One row more.
use Rattle.std.proofs.Common.{◌≡◌, ◌<◌, ◌≤◌, length, ⊎_elim, arith}
use Rattle.std.proofs.lemmas.Bool.{cases_lt}
use Rattle.cox_inverse.proofs.FirstPairs.{rows-before, rows-all}
use Rattle.cox_inverse.proofs.large.first_large.Goals as goal

pub returns-in-Some-clause-some : goal.returns-in-Some-clause-some
returns-in-Some-clause-some g c = λ limit.
    let l : c.loop-k.k < length c.args.interval.now.members.items
    = omega (arith, c.loop-k-test.true, c.len-k-end.ensures, c.args.interval.now.members.ok)
    in c.in-Some.ensures.some limit (rows-before c.args.ctx.now c.len-len.ensures.admissible c.len-len.ensures.closed
    c.args.interval.now.bottom c.args.interval.now.top c.args.interval.now.members.items c.requires.interval.between c.loop-k.k l
    c.loop-k.invariant)

pub loop-k-preserved : goal.loop-k-preserved
loop-k-preserved g c = λ i less within u. ⊎_elim (λ (before : i < c.loop-k.k). c.loop-k.invariant i before within u)
    (λ (more : c.loop-k.k ≤ i). let is : i ≡ c.loop-k.k = omega (arith, less, more) in rw is (c.in_default.ensures.none u))
    (cases_lt i c.loop-k.k)

pub returns-clause-none : goal.returns-clause-none
returns-clause-none g c =
    rows-all c.args.ctx.now c.len-len.ensures.admissible c.len-len.ensures.closed
    c.args.interval.now.bottom c.args.interval.now.top c.args.interval.now.members.items c.requires.interval.between c.loop-k.k
    (omega (arith, c.loop-k-test.false, c.len-k-end.ensures, c.args.interval.now.members.ok)) c.loop-k.invariant
