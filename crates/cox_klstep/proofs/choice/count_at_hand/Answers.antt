-- Few corrections, and all their rows are there.
use Rattle.std.proofs.Common.{refl}
use Rattle.cox_klstep.proofs.choice.count_at_hand.Goals as goal

pub returns-then-has_corrections-clause-choice : goal.returns-then-has_corrections-clause-choice
returns-then-has_corrections-clause-choice g c = record {
  lowering = c.requires.descent;
  member = refl;
  lower = c.requires.there;
  corrected = c.has_corrections.ensures.0 c.if-has_corrections.true;
  many = c.in_ok-count.ensures.count;
}
