-- The letter leads to a member.
use Rattle.cox_rowcheck.proofs.column.longer.Goals as goal

pub unreachable-requires : goal.unreachable-requires
unreachable-requires c = c.in_default.ensures {u = tt} c.requires.member
