-- A needed row has a mark, and the least is right with one row more.
use Rattle.std.proofs.Common.{not, false, get_or, sym, ap, ◌∙◌}
use Rattle.std.proofs.lemmas.Bool.{cond-true, cond-false, not_from_true, not_from_false}
use Rattle.cox_fill_core.specs.Parts.{lesser_of}
use Rattle.std.proofs.lemmas.List.Elements.{Contains-get_or}
use Rattle.cox_fill_core.proofs.Marks.{least-take_more}
use Rattle.cox_fill_core.proofs.lists.least_of.Goals as goal
use Rattle.cox_fill_core.proofs.lists.least_of.Goals.{then-not-known-row, else-not-known-row}

pub bounds-known-row : goal.bounds-known-row
bounds-known-row c = c.requires _ (Contains-get_or c.args.needs.now c.loop-row.row-index 0 c.loop-row-test.true)

pub loop-row-preserved : goal.loop-row-preserved
loop-row-preserved c =
    let m = least-take_more (λ j. not (get_or c.args.known.now j false)) c.args.needs.now c.loop-row.row-index 0 c.loop-row-test.true in
    let row = get_or c.args.needs.now c.loop-row.row-index 0 in
    elim c.if-not-known-row.branch [
      | then-not-known-row w ↦ w.least-is ∙ w.lesser-least.ensures ∙ ap (λ o. lesser_of o row) c.loop-row.invariant ∙ sym
          (m ∙ cond-true (not (get_or c.args.known.now row false)) _ _ (not_from_false _ w.if-not-known-row.true))
      | else-not-known-row w ↦ w.least-is ∙ c.loop-row.invariant ∙ sym
          (m ∙ cond-false (not (get_or c.args.known.now row false)) _ _ (not_from_true _ w.if-not-known-row.false))
    ]
