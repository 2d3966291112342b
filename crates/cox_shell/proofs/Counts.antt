-- How many blocks and lines a list has that is not too long.
use Rattle.std.proofs.Common.{◌≡◌, ◌≤◌, length, false, arith}
use Rattle.std.proofs.lemmas.Bool.Decides.{nat_tests}
use Rattle.cox_shell.specs.Reply.{OpenList}
use Rattle.cox_shell.specs.OpenLists.{kept_lines, is_long}

pub few_blocks : (blocks : OpenList) → is_long blocks ≡ false → length blocks ≤ 16
few_blocks blocks short = grind (arith, nat_tests)

pub few_lines : (blocks : OpenList) → is_long blocks ≡ false → length (kept_lines blocks) ≤ 1000
few_lines blocks short = grind (arith, nat_tests)
