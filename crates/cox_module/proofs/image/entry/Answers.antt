-- Where the letter is a left descent of the vertex, no other one has an entry.
use Rattle.cox_base.specs.IntegerMatrix.{integer_matrix}
use Rattle.cox_context.specs.Numbers.{word_at}
use Rattle.std.proofs.Common.{refl}
use Rattle.cox_module.proofs.Entries.{no_entry-falling}
use Rattle.cox_module.proofs.image.entry.Goals as goal

pub returns-in-false-true : goal.returns-in-false-true
returns-in-false-true c =
    let g = c.args.graph.now in
    no_entry-falling (integer_matrix g.matrix) c.args.s (word_at g.members c.args.of) (word_at g.members c.args.at)
    (λ same. c.in-false-true.is-0
    (c.len-len.ensures.closed.distinct c.args.of c.args.at c.requires.of c.requires.at same))
    ((c.in-false-true.ensures {u = tt}).0 refl)
