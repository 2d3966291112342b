-- No entry stands behind the number of entries yet.
use Rattle.std.proofs.Common.{refl}
use Rattle.cox_cert.proofs.NextLines.{count-first}
use Rattle.cox_cert.proofs.draft.take_count.Goals as goal

pub returns : goal.returns
returns c = λ lines h. count-first _ c.args.line.now lines h c.in_ok-with_capacity.ensures.items refl c.in_ok-with_capacity-2.ensures.items
    c.in-Some.ensures.count.0 c.in-Some.ensures.count.1 c.in-Some.ensures.count.2
