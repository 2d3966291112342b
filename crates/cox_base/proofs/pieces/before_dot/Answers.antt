-- The proof of `before_dot`.
use Rattle.std.proofs.Common.{sym, ◌∙◌, arith, length-drop, ap, length}
use Rattle.cox_base.proofs.TextPieces.{slice_split-last, slice_split-next}
use Rattle.cox_base.proofs.pieces.before_dot.Goals as goal

pub returns-in-None : goal.returns-in-None
returns-in-None c =
    let empty = (c.in-None.ensures {u = tt}).cases in
    slice_split-last c.args.bytes.now _ _ c.piece_len.ensures.count c.split_at.ensures.front (omega (
      arith,
      empty,
      ap length c.split_at.ensures.back,
      length-drop c.piece_len.result c.args.bytes.now,
    ))

pub returns-in-Some : goal.returns-in-Some
returns-in-Some c =
    slice_split-next c.args.bytes.now _ _ c.in-Some.field-0-0.now _ c.piece_len.ensures.count c.split_at.ensures.front
    (sym c.split_at.ensures.back ∙ (c.in-Some.ensures {u = tt}).cases.0)
