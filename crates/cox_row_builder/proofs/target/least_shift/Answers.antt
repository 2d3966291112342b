-- One letter more, on both sides.
use Rattle.std.proofs.Common.{◌≡◌, ap, ◌∙◌, arith}
use Rattle.cox_base.specs.Matrix.{CoxeterMatrix, IsLetter}
use Rattle.cox_base.specs.IntegerMatrix.{integer_matrix}
use Rattle.cox_row_builder.proofs.Shifts.{least-start, least-next, least-end}
use Rattle.cox_row_builder.proofs.target.least_shift.Goals as goal

pub loop-s-init : goal.loop-s-init
loop-s-init c = least-start (integer_matrix c.args.ctx.now.matrix) c.len-len.ensures.admissible c.args.ctx.now.members
    c.len-len.ensures.closed
    c.args.i c.requires c.args.from

pub loop-s-preserved : goal.loop-s-preserved
loop-s-preserved c =
    let rank : c.rank-rank.result ≡ c.args.ctx.now.matrix.rank = c.rank-rank.ensures.rank ∙ ap (λ (m : CoxeterMatrix). m.rank)
    c.matrix.ensures
    in let letter : IsLetter c.args.ctx.now.matrix.rank c.loop-s.s = record {
      from_one = c.loop-s.auto.s;
      to_rank = omega (arith, c.loop-s-test.true, rank);
    }
    in least-next (integer_matrix c.args.ctx.now.matrix) c.len-len.ensures.admissible c.args.ctx.now.members c.len-len.ensures.closed
    c.args.i c.requires c.loop-s.s c.args.from c.loop-s.least c.lesser-least.result c.lesser-least-in-loop-s.result c.left.result
    c.right.result letter c.left.ensures c.right.ensures c.lesser-least.ensures c.lesser-least-in-loop-s.ensures c.loop-s.invariant

pub returns : goal.returns
returns c =
    let rank : c.rank-rank.result ≡ c.args.ctx.now.matrix.rank = c.rank-rank.ensures.rank ∙ ap (λ (m : CoxeterMatrix). m.rank)
    c.matrix.ensures
    in least-end (integer_matrix c.args.ctx.now.matrix) c.len-len.ensures.admissible c.args.ctx.now.members c.len-len.ensures.closed
    c.args.i c.requires c.args.from c.loop-s.s c.loop-s.least (omega (arith, c.loop-s-test.false, rank)) c.loop-s.invariant
