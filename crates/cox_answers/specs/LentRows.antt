-- Rows that are kept, lent to be changed.
use Rattle.std.specs.Prelude.{Option}
use Rattle.std.specs.Borrow.{Lends, MutBor, Fml}
use Rattle.std.specs.contracts.option.Option.{the_row as option_of}
use Rattle.cox_rows.specs.Holding.{Holding}
use Rattle.cox_rows.specs.contracts.rows.Rows.{the_row as rows_row}
use Rattle.cox_answers.specs.contracts.kept_rows.KeptRows.{the_row}
use Rattle.cox_answers.specs.Kept.{KeptState}
use Rattle.cox_answers.specs.declared.kept_rows.WholeGroup.TheVariants.{NotLookedFor}

-- what is kept ends as what is left behind the reference, and nothing is known of it
abbrev pub LendsRows : MutBor KeptState → MutBor (Option Holding) → Fml
LendsRows kept rows = Lends the_row (option_of rows_row) kept rows (λ left. record { rows = left; whole = NotLookedFor })
