-- A list that is not too long has few blocks.
use Rattle.std.proofs.Common.{arith}
use Rattle.cox_shell.proofs.Counts.{few_blocks}
use Rattle.cox_shell.proofs.at_once.answer_list.Goals as goal

pub answer_parts-requires-clause-numbers : goal.answer_parts-requires-clause-numbers
answer_parts-requires-clause-numbers g c =
    let few = few_blocks c.args.blocks.now c.requires.short in omega (arith, few)
