-- What the row took is added to the count.
use Rattle.std.proofs.Common.{◌≡◌, rules, ◌∙◌}
use Rattle.std.specs.Prelude.{IfErr}
use Rattle.cox_base.specs.IntegerMatrix.{integer_matrix}
use Rattle.cox_row_builder.specs.Faults.{IsFault}
use Rattle.cox_rows.proofs.StepsMade.{steps-over, counted-over, rows-over}
use Rattle.cox_rows.proofs.held.Held.make.Goals as goal

pub row-made-requires-clause-needs : goal.row-made-requires-clause-needs
row-made-requires-clause-needs c = rw c.context.ensures.context c.requires.needs

pub row-made-requires-clause-tables : goal.row-made-requires-clause-tables
row-made-requires-clause-tables c = rw c.context.ensures.context c.requires.tables

-- ---- it is not made

pub returns-in_err-made-clause-fault : goal.returns-in_err-made-clause-fault
returns-in_err-made-clause-fault c =
    let fault : IfErr c.from_residual.result (IsFault (integer_matrix c.context.result.now.matrix) c.context.result.now.members
    c.args.self.now.limit (λ w. w ≡ c.args.i)) = search rules
    in rw c.context.ensures.context at fault

pub returns-in_err-made-clause-tables : goal.returns-in_err-made-clause-tables
returns-in_err-made-clause-tables c = rw c.context.ensures.context at c.row-made.ensures.tables

pub returns-in_err-made-clause-steps : goal.returns-in_err-made-clause-steps
returns-in_err-made-clause-steps c = steps-over c.args.i c.row-made.new.steps c.args.self.now c.add_steps.new.self
    c.add_steps.ensures.counted
    c.add_steps.ensures.none (rw (c.context.ensures.context, c.new-steps.ensures) at c.row-made.ensures.steps)

pub returns-in_err-made-clause-counted : goal.returns-in_err-made-clause-counted
returns-in_err-made-clause-counted c = rows-over c.args.i c.row-made.new.steps c.args.self.now c.add_steps.new.self
    c.add_steps.ensures.counted
    (λ j apart. c.add_steps.ensures.others j) c.add_steps.ensures.kept
    (λ there before. absurd (before (c.add_steps.ensures.others c.args.i there)))

-- ---- it is put, or there is no memory for that

pub returns-in_err-put-clause-kept : goal.returns-in_err-put-clause-kept
returns-in_err-put-clause-kept c = λ j h. c.put.ensures.kept j (c.add_steps.ensures.kept j h)

pub returns-in_err-put-clause-others : goal.returns-in_err-put-clause-others
returns-in_err-put-clause-others c = λ j apart h. c.add_steps.ensures.others j (c.put.ensures.others j apart h)

pub returns-in_err-put-clause-tables : goal.returns-in_err-put-clause-tables
returns-in_err-put-clause-tables c = rw c.context.ensures.context at c.row-made.ensures.tables

pub returns-in_err-put-clause-steps : goal.returns-in_err-put-clause-steps
returns-in_err-put-clause-steps c = steps-over c.args.i c.row-made.new.steps c.args.self.now c.put.new.self
    (c.put.ensures.steps ∙ c.add_steps.ensures.counted) (λ none. c.put.ensures.steps ∙ c.add_steps.ensures.none none)
    (rw (c.context.ensures.context, c.new-steps.ensures) at c.row-made.ensures.steps)

pub returns-in_err-put-clause-counted : goal.returns-in_err-put-clause-counted
returns-in_err-put-clause-counted c = rows-over c.args.i c.row-made.new.steps c.args.self.now c.put.new.self
    (c.put.ensures.steps ∙ c.add_steps.ensures.counted)
    (λ j apart h. c.add_steps.ensures.others j (c.put.ensures.others j apart h))
    (λ j h. c.put.ensures.kept j (c.add_steps.ensures.kept j h))
    (λ there before. rw (c.context.ensures.context, c.new-steps.ensures) at c.in_ok-made.ensures.counted)

pub returns-clause-kept : goal.returns-clause-kept
returns-clause-kept c = λ j h. c.put.ensures.kept j (c.add_steps.ensures.kept j h)

pub returns-clause-others : goal.returns-clause-others
returns-clause-others c = λ j apart h. c.add_steps.ensures.others j (c.put.ensures.others j apart h)

pub returns-clause-tables : goal.returns-clause-tables
returns-clause-tables c = rw c.context.ensures.context at c.row-made.ensures.tables

pub returns-clause-steps : goal.returns-clause-steps
returns-clause-steps c = steps-over c.args.i c.row-made.new.steps c.args.self.now c.put.new.self
    (c.put.ensures.steps ∙ c.add_steps.ensures.counted) (λ none. c.put.ensures.steps ∙ c.add_steps.ensures.none none)
    (rw (c.context.ensures.context, c.new-steps.ensures) at c.row-made.ensures.steps)

pub returns-clause-made : goal.returns-clause-made
returns-clause-made c = counted-over c.args.i c.row-made.new.steps c.args.self.now c.put.new.self
    (c.put.ensures.steps ∙ c.add_steps.ensures.counted)
    (rw (c.context.ensures.context, c.new-steps.ensures) at c.in_ok-made.ensures.counted)

pub returns-clause-counted : goal.returns-clause-counted
returns-clause-counted c = rows-over c.args.i c.row-made.new.steps c.args.self.now c.put.new.self
    (c.put.ensures.steps ∙ c.add_steps.ensures.counted)
    (λ j apart h. c.add_steps.ensures.others j (c.put.ensures.others j apart h))
    (λ j h. c.put.ensures.kept j (c.add_steps.ensures.kept j h))
    (λ there before. rw (c.context.ensures.context, c.new-steps.ensures) at c.in_ok-made.ensures.counted)
