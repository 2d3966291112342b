-- No member is done.
use Rattle.cox_base.specs.IntegerMatrix.{integer_matrix}
use Rattle.cox_context.specs.Numbers.{word_at}
use Rattle.cox_row_builder.proofs.builder.RowBuilder.with_capacity.Goals as goal

pub returns-clause-underway : goal.returns-clause-underway
returns-clause-underway c = λ limit. record {
  begun = c.in_ok-with_capacity.ensures (integer_matrix c.args.ctx.now.matrix) c.args.ctx.now.members
      (word_at c.args.ctx.now.members c.args.i) limit;
  noted = c.in_ok-with_capacity-2.ensures (integer_matrix c.args.ctx.now.matrix) c.args.ctx.now.members
      (word_at c.args.ctx.now.members c.args.i) limit;
  large = c.new.ensures (integer_matrix c.args.ctx.now.matrix) c.args.ctx.now.members (word_at c.args.ctx.now.members c.args.i) limit;
  next = c.least_shift-next.ensures;
}
