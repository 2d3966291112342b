-- The proof of `put_operator`.
use Rattle.std.proofs.Common.{◌<◌, ◌-◌, length, [], arith, rules}
use Rattle.std.specs.List.{range_with_len}
use Rattle.std.proofs.lemmas.List.FromFn.{length-range_with_len}
use Rattle.cox_poly.proofs.Behind.{PutsPrefix-next, Puts-failed, append-all, append-next}
use Rattle.cox_module.specs.NumberedImages.{cell_words, image_in}
use Rattle.cox_module.proofs.CellNumbers.{words-size}
use Rattle.cox_replies.proofs.ModuleTexts.{image_line, place-at}
use Rattle.cox_replies.proofs.modules.put_operator.Goals as goal

pub image-requires-clause-place : goal.image-requires-clause-place
image-requires-clause-place c =
    let size = c.requires.places (c.args.s - 1) []
    (omega (arith, c.requires.letter.from_one, c.requires.letter.to_rank, c.requires.letters))
    in omega (arith, size, c.loop-k-test.true)

pub put_image-requires-clause-terms : goal.put_image-requires-clause-terms
put_image-requires-clause-terms c =
    let size = words-size c.args.context.now.members c.args.cell.now in
    let is = c.requires.images c.args.s c.loop-k.k c.requires.letter (omega (arith, size, c.loop-k-test.true)) in
    rw c.image.ensures (rw size at is.before)

pub returns-in_err-put_image : goal.returns-in_err-put_image
returns-in_err-put_image c =
    let words = cell_words c.args.context.now.members c.args.cell.now in
    let places = range_with_len 0 (length words) in
    let k = c.loop-k.k in
    let size = words-size c.args.context.now.members c.args.cell.now in
    let inside : k < length words = omega (arith, size, c.loop-k-test.true) in
    let below : k < length places = omega (arith, inside, length-range_with_len 0 (length words)) in
    Puts-failed _ _ _ _ (search rules)
    (PutsPrefix-next (image_line c.args.context.now.matrix.rank words (image_in c.args.action.now) c.args.s)
    places k k 0 _ _ _ below (place-at (length words) k inside) c.loop-k.invariant
    (rw c.image.ensures at (c.in_err-put_image.ensures {u = tt})))

pub loop-k-preserved : goal.loop-k-preserved
loop-k-preserved c =
    let words = cell_words c.args.context.now.members c.args.cell.now in
    let places = range_with_len 0 (length words) in
    let k = c.loop-k.k in
    let size = words-size c.args.context.now.members c.args.cell.now in
    let inside : k < length words = omega (arith, size, c.loop-k-test.true) in
    let below : k < length places = omega (arith, inside, length-range_with_len 0 (length words)) in
    append-next (image_line c.args.context.now.matrix.rank words (image_in c.args.action.now) c.args.s)
    places k k 0 _ _ _ below (place-at (length words) k inside) c.loop-k.invariant
    (rw c.image.ensures at (c.in_ok-put_image.ensures {u = tt}))

pub returns : goal.returns
returns c =
    let words = cell_words c.args.context.now.members c.args.cell.now in
    let size = words-size c.args.context.now.members c.args.cell.now in
    append-all (image_line c.args.context.now.matrix.rank words (image_in c.args.action.now) c.args.s) (range_with_len 0 (length words))
    c.loop-k.k _ _ (omega (arith, size, length-range_with_len 0 (length words), c.loop-k-test.false, c.loop-k.auto.k-end))
    c.loop-k.invariant
