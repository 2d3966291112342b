-- The numbers of so few members fit into two bytes.
use Rattle.std.proofs.Common.{◌≤◌, length, ap, arith}
use Rattle.cox_base.specs.IntegerMatrix.{integer_matrix}
use Rattle.cox_context.specs.Closed.{Elements}
use Rattle.cox_context.specs.declared.shifts.TheConstants.{NO_NARROW_MEMBER}
use Rattle.cox_context.proofs.NarrowTables.{left-small, right-small}
use Rattle.cox_context.proofs.context.Context.keep_narrow_shifts.Goals as goal

pub narrowed-requires : goal.narrowed-requires
narrowed-requires c =
    let few : length c.self.inside.listing.members ≤ NO_NARROW_MEMBER = omega
    (arith, c.if-len-gt-MAX_NARROW_MEMBERS.false, c.len.ensures.len, ap (λ (e : Elements). length e.members) c.self.view_is)
    in rw c.as_slice.ensures.value (left-small (integer_matrix c.self.inside.group) c.self.inside.listing.members
    c.self.inside.listing.left.items few c.self.invariant.left_shifts)

pub narrowed-requires-2 : goal.narrowed-requires-2
narrowed-requires-2 c =
    let few : length c.self.inside.listing.members ≤ NO_NARROW_MEMBER = omega
    (arith, c.if-len-gt-MAX_NARROW_MEMBERS.false, c.len.ensures.len, ap (λ (e : Elements). length e.members) c.self.view_is)
    in rw c.as_slice-2.ensures.value (right-small (integer_matrix c.self.inside.group) c.self.inside.listing.members
    c.self.inside.tables.right.items few c.self.invariant.tables.right_size c.self.invariant.tables.right_shifts)
