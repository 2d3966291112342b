-- The second of them belongs to no option.
use Rattle.std.proofs.Common.{refl}
use Rattle.clap.proofs.OnLiterals.{clap_on_literals}
use Rattle.cox_options.proofs.reading.wrong_arguments.Goals as goal

pub returns : goal.returns
unfolding clap_on_literals
returns c = refl
