-- Where there is no value, mu is 0.
use Rattle.cox_base.specs.IntegerMatrix.{integer_matrix}
use Rattle.cox_context.specs.Numbers.{word_at}
use Rattle.cox_row.proofs.LookUps.{mu-absent}
use Rattle.cox_row.proofs.look_up.mu.Goals as goal

pub returns-in-None : goal.returns-in-None
returns-in-None c = mu-absent (integer_matrix c.args.ctx.now.matrix) c.args.ctx.now.members
    (word_at c.args.ctx.now.members c.args.i) c.len-len.ensures.admissible c.args.u c.args.row.now.neighbours.items
    c.args.row.now.mu.items c.requires.row.mus c.requires.u (rw c.neighbours.ensures at c.in-None.ensures.none)
