-- A seat that holds nothing may sleep on any row.
use Rattle.std.proofs.Common.{sym, ap, ◌∙◌}
use Rattle.cox_claims.specs.Knowledge.{among}
use Rattle.cox_claims.specs.Seats.{view_of}
use Rattle.claims_stress.proofs.sleeping.sleep_until_ended.Goals as goal

pub sleep_on-requires-clause-order : goal.sleep_on-requires-clause-order
sleep_on-requires-clause-order g c = λ j held. absurd (cc (ap (among j) (c.look.ensures.step.held ∙ c.loop.invariant.1), held))
