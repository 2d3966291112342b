-- What is held is what is there.
use Rattle.std.proofs.Common.{sym, ◌∙◌}
use Rattle.cox_row.specs.RowLists.{row_at}
use Rattle.cox_rows.proofs.HeldRows.{held-at, not-there, rows-taken}
use Rattle.cox_rows.proofs.held.Held.take.Goals as goal

pub invariant_of-self : goal.invariant_of-self
invariant_of-self c = rows-taken c.self.inside.context c.self.inside.limit c.self.inside.rows.items c.take_at.new.rows.items c.args.i
    c.self.invariant c.take_at.ensures.gone c.take_at.ensures.others

pub returns-clause-row : goal.returns-clause-row
returns-clause-row c = rw (c.take_at.ensures.taken, ← c.self.view_is) (c.self.invariant.each c.args.i)

pub returns-clause-exactly : goal.returns-clause-exactly
returns-clause-exactly c = rw (← c.self.view_is) (
  λ some. held-at c.self.inside.rows.items c.args.i ∙ (rw c.take_at.ensures.taken at some),
  λ h. rw c.take_at.ensures.taken (sym (held-at c.self.inside.rows.items c.args.i) ∙ h),
)

pub returns-clause-gone : goal.returns-clause-gone
returns-clause-gone c = λ h. not-there (row_at c.take_at.new.rows.items c.args.i) c.take_at.ensures.gone
    (sym (held-at c.take_at.new.rows.items c.args.i) ∙ h)

pub returns-clause-others : goal.returns-clause-others
returns-clause-others c = rw (← c.self.view_is) (λ j apart. (
  λ h. held-at c.self.inside.rows.items j
      ∙ (rw (c.take_at.ensures.others j apart) at (sym (held-at c.take_at.new.rows.items j) ∙ h)),
  λ h. held-at c.take_at.new.rows.items j
      ∙ (rw (← c.take_at.ensures.others j apart) at (sym (held-at c.self.inside.rows.items j) ∙ h)),
))
