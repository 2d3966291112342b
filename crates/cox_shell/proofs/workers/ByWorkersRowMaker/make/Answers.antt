-- What is begun is more, and so is what workers make of it.
use Rattle.std.proofs.Common.{◌∙◌}
use Rattle.cox_shell.proofs.workers.ByWorkersRowMaker.make.Goals as goal

pub returns : goal.returns
returns g c =
    let begun = c.begin_rows.ensures in
    let made = c.requires.ready.1 c.begin_rows.new.rows c.make.result c.args.alloc c.args.wanted c.make.ensures in
    record {
      same = record {
        elements = made.same.elements ∙ begun.same.elements;
        limit = made.same.limit ∙ begun.same.limit;
      };
      there = λ i has. made.there i (begun.there i has);
    }
