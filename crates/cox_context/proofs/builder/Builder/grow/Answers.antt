-- A fault is one of the search with which the builder began.
use Rattle.std.proofs.Common.{rules}
use Rattle.cox_context.proofs.builder.Builder.grow.Goals as goal

pub returns-in_err-self-clause-fault : goal.returns-in_err-self-clause-fault
returns-in_err-self-clause-fault c = rw (← c.loop-known.invariant.search) (search rules)
