-- The proof of `put_operators`.
use Rattle.std.proofs.Common.{◌<◌, ◌+◌, length, ap, ◌∙◌, arith, rules}
use Rattle.cox_base.specs.Matrix.{CoxeterMatrix}
use Rattle.cox_base.specs.ShortLex.{letters}
use Rattle.cox_poly.proofs.Behind.{PutsPrefix-next, Puts-failed, append-all, append-next}
use Rattle.cox_module.specs.NumberedImages.{cell_words, image_in}
use Rattle.cox_replies.specs.ModuleReply.{operator_text}
use Rattle.cox_replies.proofs.ModuleTexts.{letter-at, letters-size}
use Rattle.cox_replies.proofs.modules.put_operators.Goals as goal

pub put_operator-requires-clause-letter : goal.put_operator-requires-clause-letter
put_operator-requires-clause-letter c =
    let rank = c.rank-rank.ensures.rank ∙ ap (λ (m : CoxeterMatrix). m.rank) c.matrix.ensures in
    record { from_one = omega arith; to_rank = omega (arith, rank, c.loop-r-test.true) }

pub returns-in_err-put_operator : goal.returns-in_err-put_operator
returns-in_err-put_operator c =
    let rank = c.args.context.now.matrix.rank in
    let words = cell_words c.args.context.now.members c.args.cell.now in
    let r = c.loop-r.r in
    let same = c.rank-rank.ensures.rank ∙ ap (λ (m : CoxeterMatrix). m.rank) c.matrix.ensures in
    let inside : r < rank = omega (arith, same, c.loop-r-test.true) in
    let below : r < length (letters rank) = omega (arith, inside, letters-size rank) in
    Puts-failed _ _ _ _ (search rules) (PutsPrefix-next (operator_text rank words (image_in c.args.action.now)) (letters rank) r (r + 1) 0
    _ _ _ below (letter-at rank r inside) c.loop-r.invariant (c.in_err-put_operator.ensures {u = tt}))

pub loop-r-preserved : goal.loop-r-preserved
loop-r-preserved c =
    let rank = c.args.context.now.matrix.rank in
    let words = cell_words c.args.context.now.members c.args.cell.now in
    let r = c.loop-r.r in
    let same = c.rank-rank.ensures.rank ∙ ap (λ (m : CoxeterMatrix). m.rank) c.matrix.ensures in
    let inside : r < rank = omega (arith, same, c.loop-r-test.true) in
    let below : r < length (letters rank) = omega (arith, inside, letters-size rank) in
    append-next (operator_text rank words (image_in c.args.action.now)) (letters rank) r (r + 1) 0
    _ _ _ below (letter-at rank r inside) c.loop-r.invariant (c.in_ok-put_operator.ensures {u = tt})

pub returns : goal.returns
returns c =
    let rank = c.args.context.now.matrix.rank in
    let words = cell_words c.args.context.now.members c.args.cell.now in
    let same = c.rank-rank.ensures.rank ∙ ap (λ (m : CoxeterMatrix). m.rank) c.matrix.ensures in
    append-all (operator_text rank words (image_in c.args.action.now)) (letters rank) c.loop-r.r _ _
    (omega (arith, same, letters-size rank, c.loop-r-test.false)) c.loop-r.invariant
