-- One row more, of the last member.
use Rattle.std.proofs.Common.{◌-◌, arith}
use Rattle.cox_base.specs.IntegerMatrix.{integer_matrix}
use Rattle.cox_reflect.proofs.Admissible.{IsAdmissible-integer_matrix}
use Rattle.cox_context.proofs.PushedRows.{last-place, others-size, last-before, last-size, last-shifts}
use Rattle.cox_context.proofs.right_shifts.push_last_row.Goals as goal

pub push_row-requires-clause-size : goal.push_row-requires-clause-size
push_row-requires-clause-size c =
    let last = last-place c.args.shifts.now.members c.members.result.now c.len-last.result c.members.ensures c.len-last.ensures.len
    c.len-last.ensures.some
    in rw c.rank-rank.ensures.rank (others-size (integer_matrix c.args.shifts.now.matrix)
    (IsAdmissible-integer_matrix c.args.shifts.now.matrix c.rank-rank.ensures.matrix) c.args.shifts.now.members c.rank-rank.ensures.closed
    c.args.table.now.items c.requires.others (c.len-last.result - 1) last)

pub push_row-requires-clause-below : goal.push_row-requires-clause-below
push_row-requires-clause-below c = λ t k l f.
    let last = last-place c.args.shifts.now.members c.members.result.now c.len-last.result c.members.ensures c.len-last.ensures.len
    c.len-last.ensures.some
    in let before = last-before (integer_matrix c.args.shifts.now.matrix)
    (IsAdmissible-integer_matrix c.args.shifts.now.matrix c.rank-rank.ensures.matrix) c.args.shifts.now.members c.rank-rank.ensures.closed
    c.args.table.now.items c.requires.others
    (c.len-last.result - 1) last c.last_right_shifts-row.result c.last_right_shifts-row.ensures.each t k
    (rw c.rank-rank.ensures.rank at l) (rw c.rank-rank.ensures.rank at f)
    in omega (arith, before)

pub returns-clause-size : goal.returns-clause-size
returns-clause-size c =
    let last = last-place c.args.shifts.now.members c.members.result.now c.len-last.result c.members.ensures c.len-last.ensures.len
    c.len-last.ensures.some
    in last-size (integer_matrix c.args.shifts.now.matrix)
    (IsAdmissible-integer_matrix c.args.shifts.now.matrix c.rank-rank.ensures.matrix) c.args.shifts.now.members c.rank-rank.ensures.closed
    c.args.table.now.items c.requires.others (c.len-last.result - 1) last c.last_right_shifts-row.result
    c.last_right_shifts-row.ensures.each c.push_row.new.table.items (rw c.rank-rank.ensures.rank at c.push_row.ensures)

pub returns-clause-shifts : goal.returns-clause-shifts
returns-clause-shifts c =
    let last = last-place c.args.shifts.now.members c.members.result.now c.len-last.result c.members.ensures c.len-last.ensures.len
    c.len-last.ensures.some
    in last-shifts (integer_matrix c.args.shifts.now.matrix)
    (IsAdmissible-integer_matrix c.args.shifts.now.matrix c.rank-rank.ensures.matrix) c.args.shifts.now.members c.rank-rank.ensures.closed
    c.args.table.now.items c.requires.others (c.len-last.result - 1) last c.last_right_shifts-row.result
    c.last_right_shifts-row.ensures.each c.push_row.new.table.items (rw c.rank-rank.ensures.rank at c.push_row.ensures)
