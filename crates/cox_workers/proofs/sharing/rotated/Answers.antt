-- The place of the number.
use Rattle.std.proofs.Common.{◌+◌, ◌%◌, length, refl, arith}
use Rattle.cox_workers.proofs.sharing.rotated.Goals as goal

pub returns-clause-some : goal.returns-clause-some
returns-clause-some c = ((c.args.start + c.args.index) % 18446744073709551616 % length c.args.numbers.now, omega (arith, c.requires), refl)
