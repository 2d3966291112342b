-- Each member up to w is done, so the parts are the row of w.
use Rattle.std.proofs.Common.{◌+◌, ◌≤◌, refl, arith}
use Rattle.cox_base.specs.IntegerMatrix.{integer_matrix}
use Rattle.cox_context.specs.Numbers.{word_at}
use Rattle.cox_row_builder.proofs.Finished.{finished, finished-mus, noted-fault}
use Rattle.cox_row_builder.proofs.builder.RowBuilder.finish.Goals as goal

pub fault-requires-clause-within : goal.fault-requires-clause-within
fault-requires-clause-within c = λ k l. omega (arith, c.requires.underway.large.before k l, c.requires.done)

pub fault-requires-clause-size : goal.fault-requires-clause-size
fault-requires-clause-size c = c.requires.underway.large.size

pub narrow-requires : goal.narrow-requires
narrow-requires c = c.requires.underway.noted.size

pub returns-in-Some-clause-fault : goal.returns-in-Some-clause-fault
returns-in-Some-clause-fault c = c.in-Some.ensures.some c.args.limit c.requires.limit (rw c.requires.done at c.requires.underway.large)

pub returns-in-Err-clause-fault : goal.returns-in-Err-clause-fault
returns-in-Err-clause-fault c =
    let row = finished _ c.len-len.ensures.admissible c.len-len.ensures.closed _ c.requires.i c.args.limit c.requires.limit
    c.args.self (omega (arith, c.requires.done)) (omega (arith, c.requires.done)) c.in_default.ensures.none c.requires.underway
    in noted-fault _ c.len-len.ensures.admissible c.args.ctx.now.members c.args.i c.args.limit c.args.self.done
    c.args.self.mus.numbers.items c.args.self.mus.values.items c.in-Err.fault c.requires.underway.noted row.within c.in-Err.ensures.fault

pub returns-clause-row : goal.returns-clause-row
returns-clause-row c =
    let last : c.args.self.done ≤ c.args.i + 1 = omega (arith, c.requires.done)
    in let row = finished _ c.len-len.ensures.admissible c.len-len.ensures.closed _ c.requires.i c.args.limit c.requires.limit
    c.args.self (omega (arith, c.requires.done)) last c.in_default.ensures.none c.requires.underway
    in record {
      kept = word_at c.args.ctx.now.members c.args.i;
      serves = rw c.in_ok-own.ensures.view refl;
      values = record {
        extremal = rw (c.in_ok-own.ensures.extremal, c.shrink.ensures.extremal) row.extremal;
        polynomials = rw (
          c.in_ok-own.ensures.extremal,
          c.in_ok-own.ensures.places,
          c.in_ok-own.ensures.pool,
          c.into_list.ensures,
          c.shrink.ensures.extremal,
          c.shrink.ensures.places,
          c.shrink.ensures.pool,
        )
            c.requires.underway.begun.polynomials;
      };
      mus = rw (c.in_ok-own.ensures.neighbours, c.in_ok-own.ensures.mu, c.in-Ok.ensures.values, c.shrink.ensures.numbers)
          (finished-mus (integer_matrix c.args.ctx.now.matrix) c.len-len.ensures.admissible c.args.ctx.now.members
          c.len-len.ensures.closed c.args.i c.requires.i c.args.self.done row.done last c.args.limit
          c.args.self.mus.numbers.items c.args.self.mus.values.items row.within c.requires.underway.noted);
    }

pub returns-clause-within : goal.returns-clause-within
returns-clause-within c = record {
  coefficients = rw (c.in_ok-own.ensures.pool, c.into_list.ensures, c.shrink.ensures.pool) c.requires.underway.begun.small;
  mu = rw c.in_ok-own.ensures.mu c.in-Ok.ensures.small;
}
