-- The builder has the members of at most so many letters.
use Rattle.std.proofs.Common.{◌≡◌}
use Rattle.cox_context.specs.Building.{HasUpTo}
use Rattle.cox_context.proofs.builder.Builder.grow.Given as goal

abbrev pub invariant-loop-known : goal.invariant-loop-known
invariant-loop-known l = record {
  search : l.self.search ≡ l.initial.self.search;
  grown : HasUpTo l.self l.known l.low;
}
