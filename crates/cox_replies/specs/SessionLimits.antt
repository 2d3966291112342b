-- The limits that options give.
use Rattle.std.specs.Prelude.{unsigned_abs}
use Rattle.cox_options.specs.declared.options.Options.{Options}
use Rattle.cox_replies.specs.Limits.{Limits}

-- the limits that options give
abbrev pub limits_of : Options → Limits
limits_of options = record { context = options.context; coefficient = unsigned_abs options.coef; roots = options.roots }
