-- Arguments that are taken give each option a number.
use Rattle.cox_options.proofs.Taken.{taken_numbers}
use Rattle.cox_options.proofs.laws.taken_arguments_give_numbers.Goals as goal

pub returns : goal.returns
returns c = taken_numbers
