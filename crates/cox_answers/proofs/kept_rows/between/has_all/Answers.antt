-- The proof of `has_all`.
use Rattle.std.proofs.Common.{refl, below_more, arith}
use Rattle.cox_base.specs.IntegerMatrix.{integer_matrix}
use Rattle.cox_rows.proofs.RowBeyond.{not_beyond}
use Rattle.cox_answers.proofs.kept_rows.between.has_all.Goals as goal

pub loop-i-preserved : goal.loop-i-preserved
loop-i-preserved c =
    let rows = c.args.rows.now in
    let found = c.in-Some.ensures {u = tt} in
    record {
      there = below_more _ _ c.loop-i.invariant.there (found.exactly.0 refl);
      small = below_more _ _ c.loop-i.invariant.small
          (not_beyond (integer_matrix rows.elements.matrix) c.context.ensures.admissible rows.elements.members c.context.ensures.closed
          c.loop-i.i found.row.member rows.limit c.context.ensures.least c.in-Some.field-0.now found.row.is found.row.within);
    }

pub returns-clause-all : goal.returns-clause-all
returns-clause-all c =
    let end = rw c.context.ensures.context at c.len-i-end.ensures.len in
    λ done. record {
      there = λ i within. c.loop-i.invariant.there i (omega (arith, within, end, c.loop-i-test.false));
      small = λ i within. c.loop-i.invariant.small i (omega (arith, within, end, c.loop-i-test.false));
    }
