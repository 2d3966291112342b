-- The one at hand has another fingerprint.
use Rattle.std.proofs.Common.{◌≡◌, ◌-◌, ◌<◌, ◌≤◌, ⊎_elim, arith}
use Rattle.std.proofs.lemmas.Bool.{cases_lt}
use Rattle.cox_row_builder.proofs.PoolPrints.{other-print}
use Rattle.cox_row_builder.proofs.pool.place_among.Goals as goal

pub loop-k-preserved : goal.loop-k-preserved
loop-k-preserved c = record {
  from = omega arith;
  within = omega arith;
  none = λ j l m same. ⊎_elim
      (λ (low : j < c.loop-k.k). let here : j ≡ c.loop-k.k - 1 = omega (arith, l, low)
      in other-print c.args.polynomials.now c.args.prints.now c.args.sums.now c.args.print j c.requires.prints c.requires.print
      (omega (arith, m, c.requires.within)) (rw here c.if-prints-k.false) same)
      (λ (high : c.loop-k.k ≤ j). c.loop-k.invariant.none j high m same)
      (cases_lt j c.loop-k.k);
}
