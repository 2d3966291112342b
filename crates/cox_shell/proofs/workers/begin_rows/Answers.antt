-- What begins one row more keeps the rows that were there.
use Rattle.std.proofs.Common.{◌∙◌}
use Rattle.cox_shell.proofs.workers.begin_rows.Goals as goal

pub each-preserved : goal.each-preserved
each-preserved c =
    let was = c.each.invariant in
    let begun = c.begin_chain.ensures in
    record {
      same = record { elements = begun.same.elements ∙ was.same.elements; limit = begun.same.limit ∙ was.same.limit };
      there = λ i held. begun.there i (was.there i held);
    }
