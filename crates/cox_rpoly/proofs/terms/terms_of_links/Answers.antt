-- One link more has its value.
use Rattle.cox_rpoly.specs.declared.terms.Link.TheVariants.{Shorter}
use Rattle.cox_rpoly.proofs.CombinedTerms.{AreLinkedValues-more}
use Rattle.cox_rpoly.proofs.terms.terms_of_links.Goals as goal

pub loop-link-preserved : goal.loop-link-preserved
loop-link-preserved c =
    rw c.in-Ok.ensures.items
    (AreLinkedValues-more c.args.links.now c.args.next.now c.loop-link.values.items c.loop-link.link-index
    (Shorter 0) c.linked.result c.loop-link-test.true
    c.loop-link.invariant c.linked.ensures)
