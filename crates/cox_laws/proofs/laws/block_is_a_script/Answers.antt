-- The law `block_is_a_script`.
use Rattle.cox_laws.proofs.BlockScripts.{block-script}
use Rattle.cox_laws.proofs.laws.block_is_a_script.Goals as goal

pub returns : goal.returns
returns c = block-script
