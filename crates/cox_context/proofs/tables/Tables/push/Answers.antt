-- One more row and one more set.
use Rattle.std.proofs.Common.{◌-◌, arith}
use Rattle.cox_base.specs.IntegerMatrix.{integer_matrix}
use Rattle.cox_reflect.proofs.Admissible.{IsAdmissible-integer_matrix}
use Rattle.cox_context.proofs.PushedRows.{right-others, inverses-others, tables-push}
use Rattle.cox_context.proofs.tables.Tables.push.Goals as goal

pub push_last_row-requires-clause-others : goal.push_last_row-requires-clause-others
push_last_row-requires-clause-others c =
    let t = c.args.self.now
    in rw c.shifts-shifts.ensures (right-others (integer_matrix c.args.group.now)
    (IsAdmissible-integer_matrix c.args.group.now c.rank-rank.ensures.matrix) c.args.listing.now.members c.requires.closed t.right.items
    t.left_descents.items t.right_descents.items t.inverses.items c.requires.others)

pub push_inverse-requires-clause-others : goal.push_inverse-requires-clause-others
push_inverse-requires-clause-others c =
    let t = c.args.self.now
    in rw c.shifts-shifts.ensures (inverses-others (integer_matrix c.args.group.now)
    (IsAdmissible-integer_matrix c.args.group.now c.rank-rank.ensures.matrix) c.args.listing.now.members c.requires.closed t.right.items
    t.left_descents.items t.right_descents.items t.inverses.items c.requires.others)

pub returns : goal.returns
returns c =
    let t = c.args.self.now
    in let words = c.args.listing.now.members
    in rw (c.push_reserved.ensures.items, c.push_reserved-2.ensures.items) (tables-push (integer_matrix c.args.group.now)
    (IsAdmissible-integer_matrix c.args.group.now c.rank-rank.ensures.matrix) words c.requires.closed t.right.items t.left_descents.items
    t.right_descents.items t.inverses.items c.requires.others c.args.listing.now.left.items c.push_last_row.new.table.items
    c.push_inverse.new.table.items c.lowering_set-left_set.result c.lowering_set-right_set.result (c.len-last.result - 1)
    (omega (arith, c.len-last.ensures.len, c.len-last.ensures.some)) c.requires.left
    (rw c.shifts-shifts.ensures at c.push_last_row.ensures.size) (rw c.shifts-shifts.ensures at c.push_last_row.ensures.shifts)
    (rw (c.rank-rank.ensures.rank, c.as_slice-2.ensures.value) at c.lowering_set-left_set.ensures)
    (rw (c.rank-rank.ensures.rank, c.as_slice-3.ensures.value) at c.lowering_set-right_set.ensures)
    (rw c.shifts-shifts.ensures at c.push_inverse.ensures.kept))
