-- Each table is that of the first members.
use Rattle.std.proofs.Common.{◌≡◌, ◌≤◌, length, ap, arith}
use Rattle.cox_base.specs.IntegerMatrix.{integer_matrix}
use Rattle.cox_context.specs.Closed.{Elements}
use Rattle.cox_context.proofs.CutTables.{elements-whole, context-cut}
use Rattle.cox_context.proofs.context.Context.cut_back.Goals as goal

pub invariant_of-self : goal.invariant_of-self
invariant_of-self c =
    let v = c.self.inside
    in let within : c.args.count ≤ length v.listing.members = rw (← c.self.view_is) at c.requires.within
    in let closed = rw (← c.self.view_is) at c.requires.closed
    in rw (c.cut_back.ensures.members, c.truncate.ensures.items, c.truncate-2.ensures.items, c.clear.ensures.items, c.clear-2.ensures.items)
    (context-cut (integer_matrix v.group) v.listing.members c.self.invariant.closed c.args.count within
    v.listing.left.items v.tables.right.items v.tables.left_descents.items v.tables.right_descents.items v.narrow_left.items
    v.narrow_right.items v.tables.inverses.items c.cut_back.new.self.left.items
    c.cut_back-2.new.table.items c.cut_back_inverses.new.table.items c.self.invariant closed
    (rw c.rank-rank.ensures.rank at c.cut_back.ensures.left)
    (rw c.rank-rank.ensures.rank at c.cut_back-2.ensures) c.cut_back_inverses.ensures.empty c.cut_back_inverses.ensures.cut)

pub returns-then-len-count : goal.returns-then-len-count
returns-then-len-count c =
    let count : c.args.count ≡ length c.args.self.now.members = omega
    (arith, c.if-len-count.true, c.len.ensures.len, ap (λ (e : Elements). length e.members) c.self.view_is)
    in elements-whole c.args.self.now c.args.count count
