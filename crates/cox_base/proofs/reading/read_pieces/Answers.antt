-- The proof of `read_pieces`.
use Rattle.std.proofs.Common.{◌+◌, ◌≤◌, arith, sym, ap, ◌∙◌, length}
use Rattle.cox_base.proofs.TextPieces.{foreign_from, foreign_from-here, foreign_from-next}
use Rattle.cox_base.proofs.TextPieces.{filter_map-next, filter_map-end, IsWord-filter_map}
use Rattle.cox_base.proofs.reading.read_pieces.Goals as goal

pub returns-in_default-letter_of : goal.returns-in_default-letter_of
returns-in_default-letter_of c =
    let none = (c.in_default-letter_of.ensures {u = tt}).letter in
    sym c.pieces.invariant.foreign ∙ ap (foreign_from c.args.rank c.pieces.place) (c.in-Some.ensures {u = tt})
    ∙ foreign_from-here c.args.rank c.pieces.place c.in-Some.piece.now c.take_next.new.self (sym none)

pub pieces-preserved : goal.pieces-preserved
pieces-preserved c =
    let invariant = c.pieces.invariant in
    let taken = c.in-Some.ensures {u = tt} in
    let letter = c.in-Some-letter_of.ensures {u = tt} in
    let short : length c.in-Some.piece.now ≤ 2 = letter.short in
    record {
      read = filter_map-next c.args.rank _ c.in-Some-letter_of.letter _ _ _ _ _ taken (sym letter.letter) c.push.ensures.items
          invariant.read;
      foreign =
          let step = foreign_from-next c.args.rank c.pieces.place _ c.in-Some-letter_of.letter c.in-Some.piece.now c.take_next.new.self
          (sym letter.letter) (ap (λ gap. c.pieces.place + (length c.in-Some.piece.now + gap)) invariant.gap) in
          sym step ∙ ap (foreign_from c.args.rank c.pieces.place) (sym taken) ∙ invariant.foreign;
      room = omega (arith, invariant.room, ap length taken, c.push.ensures.len);
      near = omega (arith, invariant.near, short, c.push.ensures.len, c.separator.ensures.short);
      gap = invariant.gap;
    }

pub returns : goal.returns
returns c =
    let end = c.in_default.ensures {u = tt} in
    let whole = filter_map-end c.args.rank _ _ _ end c.pieces.invariant.read in
    let none = sym c.pieces.invariant.foreign ∙ ap (foreign_from c.args.rank c.pieces.place) end in
    (none, whole, rw whole (IsWord-filter_map c.args.rank c.args.pieces))
