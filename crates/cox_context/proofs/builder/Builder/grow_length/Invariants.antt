-- Of the next length the builder has the members that begin with a letter before s.
use Rattle.std.proofs.Common.{◌≡◌}
use Rattle.cox_context.specs.Building.{HasChildren}
use Rattle.cox_context.proofs.builder.Builder.grow_length.Given as goal

abbrev pub invariant-loop-s : goal.invariant-loop-s
invariant-loop-s l = record {
  search : l.self.search ≡ l.initial.self.search;
  growing : HasChildren l.self l.letters l.low l.high l.s l.low;
}
