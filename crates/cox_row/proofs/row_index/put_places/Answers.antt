-- One number more has its place.
use Rattle.std.proofs.Common.{length-set, arith}
use Rattle.cox_row.specs.Rising.{number_at}
use Rattle.cox_row.proofs.PlacedNumbers.{placed-next}
use Rattle.cox_row.proofs.row_index.put_places.Goals as goal

pub loop-k-preserved : goal.loop-k-preserved
loop-k-preserved c = record {
  size = omega (
    arith,
    length-set c.loop-k.entries (number_at c.args.numbers.now c.loop-k.k) c.loop-k.k,
    c.loop-k.invariant.size,
  );
  placed = placed-next c.args.numbers.now c.loop-k.entries c.loop-k.k c.requires.rising c.loop-k-test.true
      (omega (arith, c.requires.within c.loop-k.k c.loop-k-test.true, c.loop-k.invariant.size)) c.loop-k.invariant.placed;
}

pub returns : goal.returns
returns c = record {
  within = λ k l. omega (arith, c.requires.within k l, c.loop-k.invariant.size);
  place = λ k l. c.loop-k.invariant.placed k (omega (arith, l, c.loop-k-test.false));
}
