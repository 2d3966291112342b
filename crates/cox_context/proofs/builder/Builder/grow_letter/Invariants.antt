-- Of the next length the builder has the members that begin with s and come from a member before the parent.
use Rattle.std.proofs.Common.{◌≡◌}
use Rattle.cox_context.specs.Building.{HasChildren}
use Rattle.cox_context.proofs.builder.Builder.grow_letter.Given as goal

abbrev pub invariant-loop-parent : goal.invariant-loop-parent
invariant-loop-parent l = record {
  search : l.self.search ≡ l.initial.self.search;
  growing : HasChildren l.self l.letters l.low l.high l.s l.parent;
}
