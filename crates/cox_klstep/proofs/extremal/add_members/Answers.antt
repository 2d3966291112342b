-- The lowest bit of the rest is that of the next member.
use Rattle.std.proofs.Common.{◌<◌, ◌^◌, arith}
use Rattle.cox_klstep.proofs.WordBits.{listed-past, listed-next, lowest-within, lowest-ahead, cleared-low, cleared-high}
use Rattle.cox_klstep.proofs.extremal.add_members.Goals as goal

pub returns-then-first-lowest : goal.returns-then-first-lowest
returns-then-first-lowest c =
    let was = c.loop-rest.invariant
    in listed-past c.args.words.now c.args.place c.args.last c.loop-rest.from c.loop-rest.rest c.loop-rest.members.items was.listed
    was.bound was.before was.low was.high (omega (arith, c.loop-rest-test.true)) (omega (arith, c.loop-rest.auto.rest-fits))
    (omega (arith, c.if-first-lowest.true))

pub loop-rest-smaller : goal.loop-rest-smaller
loop-rest-smaller c =
    let was = c.loop-rest.invariant
    in let some : 0 < c.loop-rest.rest = omega (arith, c.loop-rest-test.true)
    in let within = lowest-within c.args.words.now c.args.place c.args.last c.loop-rest.from c.loop-rest.rest c.loop-rest.members.items
    was.listed was.bound was.before was.low was.high some (omega (arith, c.loop-rest.auto.rest-fits))
    in let ahead = lowest-ahead c.args.words.now c.args.place c.args.last c.loop-rest.from c.loop-rest.rest c.loop-rest.members.items
    was.listed was.bound was.before was.low was.high some (omega (arith, c.loop-rest.auto.rest-fits))
    in omega (arith, within, ahead)

pub loop-rest-preserved : goal.loop-rest-preserved
loop-rest-preserved c =
    let was = c.loop-rest.invariant
    in let words = c.args.words.now
    in let place = c.args.place
    in let last = c.args.last
    in let from = c.loop-rest.from
    in let rest = c.loop-rest.rest
    in let numbers = c.loop-rest.members.items
    in let some : 0 < rest = omega (arith, c.loop-rest-test.true)
    in let fits : c.loop-rest.rest < 2 ^ 64 = omega (arith, c.loop-rest.auto.rest-fits)
    in let within = lowest-within words place last from rest numbers was.listed was.bound was.before was.low was.high some fits
    in record {
      bound = omega (arith, within);
      before = omega (arith, c.if-first-lowest.false);
      low = cleared-low words place last from rest numbers was.listed was.bound was.before was.low was.high some fits;
      high = cleared-high words place last from rest numbers was.listed was.bound was.before was.low was.high some fits;
      listed = rw c.in_ok-push.ensures.items
          (listed-next words place last from rest numbers was.listed was.bound was.before was.low was.high some fits);
    }
