-- What is held is what is there.
use Rattle.std.proofs.Common.{is_some, sym, ap, ◌∙◌}
use Rattle.std.proofs.lemmas.Result.{on_ok_weaker}
use Rattle.cox_rows.proofs.HeldRows.{held-at, rows-put}
use Rattle.cox_rows.proofs.held.Held.put.Goals as goal

pub invariant_of-self : goal.invariant_of-self
invariant_of-self c = rows-put c.self.inside.context c.self.inside.limit c.self.inside.rows.items c.put_at.new.rows.items c.args.i
    c.args.row c.put_at.result c.self.invariant (rw (← c.self.view_is) at c.requires) c.put_at.ensures.at c.put_at.ensures.others
    c.put_at.ensures.failed

pub returns-clause-there : goal.returns-clause-there
returns-clause-there c = on_ok_weaker c.put_at.result (λ at. held-at c.put_at.new.rows.items c.args.i ∙ ap is_some at) c.put_at.ensures.at

pub returns-clause-kept : goal.returns-clause-kept
returns-clause-kept c = rw (← c.self.view_is)
    (λ j h. held-at c.put_at.new.rows.items j ∙ c.put_at.ensures.kept j (sym (held-at c.self.inside.rows.items j) ∙ h))

pub returns-clause-others : goal.returns-clause-others
returns-clause-others c = rw (← c.self.view_is)
    (λ j apart h. held-at c.self.inside.rows.items j
    ∙ (rw (c.put_at.ensures.others j apart) at (sym (held-at c.put_at.new.rows.items j) ∙ h)))
