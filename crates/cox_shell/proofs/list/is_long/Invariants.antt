-- The lines that were counted, and those that follow, are all; and no more were counted than the limit.
use Rattle.std.proofs.Common.{◌≡◌, ◌+◌, ◌≤◌, drop, length}
use Rattle.cox_shell.specs.OpenLists.{kept_lines}
use Rattle.cox_shell.proofs.list.is_long.Given as goal

abbrev pub invariant-each : goal.invariant-each
invariant-each l = record {
  few : l.lines ≤ 1000;
  all : l.lines + length (kept_lines (drop l.block-index l.fn.blocks)) ≡ length (kept_lines l.fn.blocks);
}
