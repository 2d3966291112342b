-- The tables are taken out of the same rows.
use Rattle.std.proofs.Common.{subst, sym, ◌∙◌}
use Rattle.cox_rows.specs.Holding.{Holding}
use Rattle.cox_rows.specs.CountedRows.{AreRowsCounted}
use Rattle.cox_rows.proofs.CountedRows.{counted-none}
use Rattle.cox_rows.proofs.SettledMembers.{store-put}
use Rattle.cox_rows.proofs.rows.Rows.make.Goals as goal

pub returns-then-is_some-clause-counted : goal.returns-then-is_some-clause-counted
returns-then-is_some-clause-counted c = counted-none c.args.self.now

pub returns-in_err-tables-clause-counted : goal.returns-in_err-tables-clause-counted
returns-in_err-tables-clause-counted c = subst (λ (h : Holding). AreRowsCounted c.args.self.now h) (sym c.take_tables.ensures.same)
    (counted-none c.args.self.now)

pub invariant_of-self : goal.invariant_of-self
invariant_of-self c = store-put c.self-2.inside.held c.make-made.new.self c.self-2.inside.settled.items c.self-2.inside.tables
    c.make-made.new.tables c.make-made.ensures.elements c.make-made.ensures.limit c.make-made.ensures.kept c.self-2.invariant
    c.make-made.ensures.tables

pub returns-clause-counted : goal.returns-clause-counted
returns-clause-counted c = subst (λ (h : Holding). AreRowsCounted h c.make-made.new.self) (c.self-2.view_is ∙ c.take_tables.ensures.same)
    c.make-made.ensures.counted
