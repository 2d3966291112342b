-- What the loop of `read_pieces` keeps.
use Rattle.std.proofs.Common.{◌≡◌, ◌+◌, ◌*◌, ◌≤◌, ◌++◌, length}
use Rattle.std.specs.List.{filter_map}
use Rattle.cox_base.specs.declared.limits.TheConstants.{MAX_LETTERS}
use Rattle.cox_base.specs.WordText.{letter_of, separator}
use Rattle.cox_base.proofs.TextPieces.{foreign_from}
use Rattle.cox_base.proofs.reading.read_pieces.Given as goal

abbrev pub invariant-pieces : goal.invariant-pieces
invariant-pieces l = record {
  read : l.word.items ++ filter_map (letter_of l.rank) l.pieces ≡ filter_map (letter_of l.rank) l.fn.pieces;
  foreign : foreign_from l.rank l.place l.pieces ≡ foreign_from l.rank 1 l.fn.pieces;
  room : length l.word.items + length l.pieces ≤ MAX_LETTERS;
  near : l.place ≤ 3 * length l.word.items + 1;
  gap : l.gap ≡ length (separator l.rank);
}

abbrev pub decreases-pieces : goal.decreases-pieces
decreases-pieces l = length l.pieces
