-- What the options of a session limit.
use Rattle.std.specs.Prelude.{ℕ}

-- what the options of a session limit
pub record Limits : Type 0 where
  -- how many members an interval or a group may have
  pub context : ℕ
  -- how large a coefficient of a row may be, in absolute value
  pub coefficient : ℕ
  -- how many small roots a group may have
  pub roots : ℕ
