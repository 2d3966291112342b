-- Each polynomial has one span.
use Rattle.std.proofs.Common.{arith}
use Rattle.cox_rowcheck.proofs.StoredEntries.{pieces-length}
use Rattle.cox_rowcheck.proofs.entries.Entries.len.Goals as goal

pub returns : goal.returns
returns c = rw (← c.self.view_is) (omega (arith, c.len.ensures, pieces-length c.self.inside.coefficients.items c.self.inside.spans.items))
