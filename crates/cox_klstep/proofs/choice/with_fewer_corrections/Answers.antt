-- A letter that shortens a member leads to a member.
use Rattle.cox_base.specs.IntegerMatrix.{integer_matrix}
use Rattle.cox_row_symmetry.proofs.DescentsOnSides.{lowered-member}
use Rattle.cox_klstep.proofs.choice.with_fewer_corrections.Goals as goal

pub returns-in_default-clause-fewest : goal.returns-in_default-clause-fewest
returns-in_default-clause-fewest g c = λ h. absurd (c.in_default.ensures {u = tt} (lowered-member c.args.side
    (integer_matrix c.args.ctx.now.matrix) c.len-len.ensures.admissible c.args.ctx.now.members c.len-len.ensures.closed c.args.s c.args.i
    c.requires.i h.descent))
