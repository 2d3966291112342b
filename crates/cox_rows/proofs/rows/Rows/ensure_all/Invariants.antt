-- The members so far are settled.
use Rattle.std.proofs.Common.{◌≡◌, ℕ, ◌<◌, length}
use Rattle.cox_rows.specs.Holding.{HasRow}
use Rattle.cox_rows.specs.CountedRows.{AreRowsCounted}
use Rattle.cox_rows.specs.Ensured.{IsSettled}
use Rattle.cox_rows.proofs.rows.Rows.ensure_all.Given as goal

abbrev pub invariant-members : goal.invariant-members
invariant-members l = record {
  elements : l.self.elements ≡ l.fn.self.elements;
  limit : l.self.limit ≡ l.fn.self.limit;
  kept : (j : ℕ) → HasRow l.fn.self j → HasRow l.self j;
  settled : (k : ℕ) → k < l.i → IsSettled l.self k;
  counted : AreRowsCounted l.fn.self l.self;
  again : ((k : ℕ) → k < length l.fn.self.elements.members → HasRow l.fn.self k) → l.self.steps ≡ l.fn.self.steps;
}
