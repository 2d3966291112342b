-- Needed rows have smaller numbers.
use Rattle.std.proofs.Common.{subst, sym}
use Rattle.cox_fill_core.specs.Parts.{given_needs, NeedsLower}
use Rattle.row_tests.proofs.fill_core.a_row_waits_for_what_it_needs.Goals as goal

pub new-requires : goal.new-requires
new-requires g c = subst (λ z. NeedsLower (given_needs z)) (sym c.deref.ensures.value) c.in_ok-two_rows.ensures.lower
