-- Arguments that give options with some limits.
use Rattle.std.specs.Prelude.{◌≡◌, ℕ, List}
use Rattle.cox_options.specs.Arguments.{IsTaken}
use Rattle.cox_replies.specs.Limits.{Limits}
use Rattle.cox_shell.specs.Top.{given_limits}

-- the arguments give options, with these limits
pub record GiveLimits (arguments : List (List ℕ)) (limits : Limits) : Type 0 where
  pub taken : IsTaken arguments
  pub limits_are : limits ≡ given_limits arguments
