-- The row is there, so it is not beyond the limits; and all that it is made from is settled.
use Rattle.cox_rows.specs.Ensured.{IsSettled}
use Rattle.cox_rows.proofs.SettledMembers.{is_settled, store-set}
use Rattle.cox_rows.proofs.rows.Rows.settle.Goals as goal

pub invariant_of-self : goal.invariant_of-self
invariant_of-self c =
    let settled : IsSettled c.self.inside.held c.args.i = is_settled c.self.inside.held c.args.i c.context-context.ensures.admissible
    c.context-context.ensures.closed c.context-context.ensures.least (rw c.self.view_is c.requires.member)
    (rw c.self.view_is c.requires.needs) (c.context-context.ensures.small c.args.i (rw c.self.view_is c.requires.there))
    (rw c.self.view_is c.requires.there)
    in store-set c.self.inside.held c.self.inside.settled.items c.set_at.new.flags.items c.self.inside.tables c.args.i c.set_at.ensures.at
    settled c.self.invariant

pub invariant_of-self-2 : goal.invariant_of-self-2
invariant_of-self-2 c =
    let settled : IsSettled c.self.inside.held c.args.i = is_settled c.self.inside.held c.args.i c.context-context.ensures.admissible
    c.context-context.ensures.closed c.context-context.ensures.least (rw c.self.view_is c.requires.member)
    (rw c.self.view_is c.requires.needs) (c.context-context.ensures.small c.args.i (rw c.self.view_is c.requires.there))
    (rw c.self.view_is c.requires.there)
    in store-set c.self.inside.held c.self.inside.settled.items c.set_at.new.flags.items c.self.inside.tables c.args.i c.set_at.ensures.at
    settled c.self.invariant

pub returns-clause-settled : goal.returns-clause-settled
returns-clause-settled c = is_settled c.self.inside.held c.args.i c.context-context.ensures.admissible c.context-context.ensures.closed
    c.context-context.ensures.least (rw c.self.view_is c.requires.member) (rw c.self.view_is c.requires.needs)
    (c.context-context.ensures.small c.args.i (rw c.self.view_is c.requires.there)) (rw c.self.view_is c.requires.there)
