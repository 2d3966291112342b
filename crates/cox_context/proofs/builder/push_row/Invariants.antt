-- The row has the entries of the letters before t, and there is room for the others.
use Rattle.std.proofs.Common.{◌+◌, ◌≤◌, vec_len, vec_capacity}
use Rattle.cox_context.specs.Rows.{IsRowPushed}
use Rattle.cox_context.proofs.builder.push_row.Given as goal

abbrev pub invariant-loop-t : goal.invariant-loop-t
invariant-loop-t l = record {
  pushed : IsRowPushed l.rank l.number l.lower l.t l.initial.table.items l.table.items;
  room : vec_len l.table + l.rank + 1 ≤ vec_capacity l.table + l.t;
}
