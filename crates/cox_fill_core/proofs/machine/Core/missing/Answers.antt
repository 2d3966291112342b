-- The needed rows have marks.
use Rattle.std.proofs.Common.{◌∙◌, [], length, ap, arith}
use Rattle.std.proofs.lemmas.List.{get_or_default}
use Rattle.cox_fill_core.proofs.Marks.{needed_marked}
use Rattle.cox_fill_core.proofs.machine.Core.missing.Goals as goal

pub least_missing-requires : goal.least_missing-requires
least_missing-requires c =
    let core = c.args.self.now in
    needed_marked core.needs.items c.args.row _ _ (omega (arith, core.needs.ok)) c.index.ensures core.lower
    (ap length (c.index-2.ensures ∙ get_or_default core.seen.items c.args.actor _ [] (omega (arith, core.seen.ok)))
    ∙ core.a_mark_each c.args.actor c.requires.actor ∙ omega (arith, core.needs.ok))
