-- The proof of `parse_matrix`.
use Rattle.std.proofs.Common.{arith, ◌∙◌}
use Rattle.std.proofs.lemmas.Grind.{common_steps}
use Rattle.cox_command.proofs.MatrixArguments.{labels-admitted, labels-refused}
use Rattle.cox_command.proofs.group_arguments.parse_matrix.Goals as goal

pub returns-in-Ok : goal.returns-in-Ok
returns-in-Ok c =
    let all = labels-admitted c.take_next.new.self c.as_slice.result.now
    (c.as_slice.ensures.value ∙ c.in-Some-read_numbers.ensures.values) c.in-Ok.ensures.admitted in
    grind (arith, common_steps)

pub returns-in-Err : goal.returns-in-Err
returns-in-Err c =
    let bad = labels-refused c.take_next.new.self c.as_slice.result.now _ _
    (c.as_slice.ensures.value ∙ c.in-Some-read_numbers.ensures.values) c.in-Err.ensures.fault in
    grind (arith, common_steps)
