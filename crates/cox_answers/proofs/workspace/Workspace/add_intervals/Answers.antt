-- The proof of `add_intervals`.
use Rattle.std.proofs.lemmas.List.Elements.{All-get_or}
use Rattle.cox_command.specs.ParseContract.{HasLetters}
use Rattle.cox_answers.proofs.workspace.Workspace.add_intervals.Goals as goal

pub add_interval-requires : goal.add_interval-requires
add_interval-requires c =
    let rank = c.args.self.now.table.rank in
    let letters = rw (← c.inquiry-item.is) at (All-get_or (HasLetters rank) c.args.inquiries.now c.each.inquiry-index c.inquiry-item.result
    c.each-test.true c.requires) in
    rw c.each.invariant.table ((c.in-Some.ensures {u = tt}) rank (c.need_of.ensures.letters rank letters))
