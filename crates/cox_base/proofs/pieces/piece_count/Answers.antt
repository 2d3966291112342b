-- The proof of `piece_count`.
use Rattle.std.proofs.Common.{◌+◌, sym, ap, ◌∙◌}
use Rattle.std.proofs.lemmas.List.Splits.{length-slice_split}
use Rattle.cox_base.specs.WordText.{is_dot}
use Rattle.cox_base.proofs.TextPieces.{pieces_of-dotted}
use Rattle.cox_base.proofs.pieces.piece_count.Goals as goal

pub returns-clause-count : goal.returns-clause-count
returns-clause-count c =
    rw (pieces_of-dotted c.args.rank c.args.text.now (sym c.has_digits.ensures ∙ c.if-has_digits.false))
    (ap (λ n. n + 1) c.dot_count.ensures ∙ sym (length-slice_split is_dot c.args.text.now))
