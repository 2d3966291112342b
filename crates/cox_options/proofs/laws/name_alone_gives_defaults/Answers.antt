-- The definition computes at the name alone.
use Rattle.std.proofs.Common.{refl}
use Rattle.clap.proofs.OnLiterals.{clap_on_literals}
use Rattle.cox_options.proofs.laws.name_alone_gives_defaults.Goals as goal

pub returns-clause-taken : goal.returns-clause-taken
unfolding clap_on_literals
returns-clause-taken c = λ name. refl
