-- Each one of the block has another fingerprint.
use Rattle.std.proofs.Common.{refl, arith}
use Rattle.cox_row_builder.proofs.PoolPrints.{other-print}
use Rattle.cox_row_builder.proofs.pool.place_in_block.Goals as goal

pub returns-then-not-has-clause-none : goal.returns-then-not-has-clause-none
returns-then-not-has-clause-none c = λ j l m same.
    other-print c.args.polynomials.now c.args.prints.now c.args.sums.now c.args.print j c.requires.prints c.requires.print
    (omega (arith, m, c.requires.within)) (c.if-not-has.ensures refl j l m) same
