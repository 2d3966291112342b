-- A line that gives a command on elements may stand in a block.
use Rattle.std.proofs.Common.{Ok, ap, ◌∙◌}
use Rattle.cox_shell.proofs.BlockReadings.{parsed-asks}
use Rattle.cox_shell.proofs.block_line.read_in_block.Goals as goal

pub returns-in-Ok-Ask : goal.returns-in-Ok-Ask
returns-in-Ok-Ask c = parsed-asks c.parse.result c.args.line.now c.args.rank c.in-Ok-Ask.inquiry
    (c.in-Ok-Ask.is ∙ ap Ok c.in-Ok-Ask.field-0-is) c.parse.ensures
