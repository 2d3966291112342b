-- The identity alone has no shift.
use Rattle.std.proofs.Common.{rules, ◌≡◌}
use Rattle.std.proofs.Math.ListN.{replicate}
use Rattle.cox_base.specs.IntegerMatrix.{integer_matrix}
use Rattle.cox_reflect.proofs.Admissible.{IsAdmissible-integer_matrix}
use Rattle.cox_context.specs.declared.shifts.TheConstants.{NO_MEMBER}
use Rattle.cox_context.proofs.ShiftRows.{shifts-start}
use Rattle.cox_context.proofs.builder.Listing.new.Goals as goal

pub returns-clause-left : goal.returns-clause-left
returns-clause-left c =
    let all : c.in_ok-left.left.items ≡ replicate c.rank-rank.result NO_MEMBER = c.in_ok-left.ensures.items_if_clones_equal (search rules)
    in rw (c.in_ok-members.ensures, all, c.rank-rank.ensures.rank) (shifts-start (integer_matrix c.args.g.now)
    (IsAdmissible-integer_matrix c.args.g.now c.rank-rank.ensures.matrix))
