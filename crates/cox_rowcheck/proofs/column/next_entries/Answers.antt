-- Each turn adds one entry, and behind the last one R is 0.
use Rattle.std.proofs.Common.{◌∷◌, [], ◌++◌, arith}
use Rattle.cox_base.specs.IntegerMatrix.{integer_matrix}
use Rattle.cox_context.specs.Numbers.{word_at}
use Rattle.cox_rowcheck.proofs.WordColumns.{entries-none, entries-more, column-next}
use Rattle.cox_rowcheck.proofs.column.next_entries.Goals as goal

pub loop-i-init : goal.loop-i-init
loop-i-init c = rw (c.in_ok-entries.ensures {u = tt}) (entries-none (integer_matrix c.args.ctx.now.matrix) c.args.ctx.now.members
    (word_at c.args.ctx.now.members c.args.at ++ c.args.t ∷ []))

pub loop-i-preserved : goal.loop-i-preserved
loop-i-preserved c = entries-more (integer_matrix c.args.ctx.now.matrix) c.args.ctx.now.members
    (word_at c.args.ctx.now.members c.args.at ++ c.args.t ∷ []) c.loop-i.i c.loop-i.entries c.push_next.new.entries c.loop-i.invariant
    (c.in_ok-push_next.ensures {u = tt})

pub returns : goal.returns
returns c = column-next (integer_matrix c.args.ctx.now.matrix) c.len-len.ensures.admissible c.args.ctx.now.members c.len-len.ensures.closed
    c.args.at c.args.t c.args.next c.requires.next c.requires.leads c.loop-i.entries
    (omega (arith, c.loop-i.invariant.size))
    (λ j k l. c.loop-i.invariant.each j k (omega (arith, l)))
