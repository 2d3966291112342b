-- The links so far have their values.
use Rattle.std.proofs.Common.{take}
use Rattle.cox_rpoly.specs.Terms.{AreLinkedValues}
use Rattle.cox_rpoly.proofs.terms.terms_of_links.Given as goal

abbrev pub invariant-loop-link : goal.invariant-loop-link
invariant-loop-link l = AreLinkedValues (take l.link-index l.links) l.next l.values.items
