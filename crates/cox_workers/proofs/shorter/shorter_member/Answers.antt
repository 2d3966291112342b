-- The shorter element comes before the member.
use Rattle.std.proofs.Common.{◌<◌}
use Rattle.cox_row_symmetry.proofs.LowerMembers.{lower-before}
use Rattle.cox_workers.proofs.shorter.shorter_member.Goals as goal

pub returns-clause-before : goal.returns-clause-before
returns-clause-before c =
    let less : c.of-descent.result.lower < c.of-descent.result.member =
    lower-before c.args.context.now c.len-len.ensures.admissible c.len-len.ensures.closed c.of-descent.result c.of-descent.ensures.descent
    in rw c.of-descent.ensures.number at less
