-- What is held is what is there.
use Rattle.std.proofs.Common.{◌≡◌, inl, inr, ⊎_elim, true, is_some, sym, ◌∙◌}
use Rattle.cox_row.specs.RowLists.{row_at}
use Rattle.cox_rows.proofs.HeldRows.{held-at}
use Rattle.cox_rows.proofs.JoinedRows.{both-others, both-rows}
use Rattle.cox_rows.proofs.held.Held.adopt.Goals as goal

pub invariant_of-self : goal.invariant_of-self
invariant_of-self c = both-rows c.self.inside.context c.self.inside.limit c.replace-old.result.items c.args.rows.items c.both.result.items
    (rw c.replace-old.ensures.value c.self.invariant) (rw (← c.self.view_is) at c.requires) c.both.ensures

pub returns-clause-kept : goal.returns-clause-kept
returns-clause-kept c = rw (← c.self.view_is)
    (λ i h. held-at c.both.result.items i
    ∙ c.both.ensures.first_there i (rw c.replace-old.ensures.value (sym (held-at c.self.inside.rows.items i) ∙ h)))

pub returns-clause-added : goal.returns-clause-added
returns-clause-added c = λ i there. held-at c.both.result.items i ∙ c.both.ensures.second_there i there

pub returns-clause-others : goal.returns-clause-others
returns-clause-others c = rw (← c.self.view_is)
    (λ i h. ⊎_elim
    (λ (old : is_some (row_at c.replace-old.result.items i) ≡ true). inl (held-at c.self.inside.rows.items i
    ∙ (rw c.replace-old.ensures.value at old)))
    (λ (new : is_some (row_at c.args.rows.items i) ≡ true). inr new)
    (both-others c.replace-old.result.items c.args.rows.items c.both.result.items c.both.ensures i
    (sym (held-at c.both.result.items i) ∙ h)))
