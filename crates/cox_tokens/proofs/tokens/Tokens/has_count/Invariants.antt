-- What the loop of `Tokens::has_count` keeps.
use Rattle.std.proofs.Common.{◌≡◌, ◌+◌, length}
use Rattle.cox_tokens.proofs.tokens.Tokens.has_count.Given as goal

abbrev pub invariant-loop : goal.invariant-loop
invariant-loop l = l.counter + length l.left ≡ length l.self
