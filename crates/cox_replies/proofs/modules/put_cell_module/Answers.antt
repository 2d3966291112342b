-- The proof of `put_cell_module`.
use Rattle.std.proofs.Common.{◌∷◌, length, decimal, rules}
use Rattle.std.specs.List.{flat_map}
use Rattle.cox_base.specs.ShortLex.{letters}
use Rattle.cox_print.specs.AnswerText.{members_text}
use Rattle.cox_print.proofs.ThreeTexts.{Puts-first_of_three, Puts-second_of_three, Puts-third_of_three}
use Rattle.cox_module.specs.NumberedImages.{cell_words, image_in}
use Rattle.cox_module.proofs.CellNumbers.{words-size}
use Rattle.cox_replies.specs.ModuleReply.{operator_text}
use Rattle.cox_replies.proofs.modules.put_cell_module.Goals as goal

pub returns-in_err-put_count : goal.returns-in_err-put_count
returns-in_err-put_count c =
    let rank = c.args.context.now.matrix.rank in
    let words = cell_words c.args.context.now.members c.args.cell.now in
    rw (words-size c.args.context.now.members c.args.cell.now)
    (Puts-first_of_three _ (decimal (length c.args.cell.now)) (10 ∷ members_text rank words)
    (flat_map (operator_text rank words (image_in c.args.action.now)) (letters rank)) _ _ (search rules)
    (c.in_err-put_count.ensures {u = tt}))

pub returns-in_err-put_next_cell : goal.returns-in_err-put_next_cell
returns-in_err-put_next_cell c =
    let rank = c.args.context.now.matrix.rank in
    let words = cell_words c.args.context.now.members c.args.cell.now in
    rw (words-size c.args.context.now.members c.args.cell.now)
    (Puts-second_of_three _ (decimal (length c.args.cell.now)) (10 ∷ members_text rank words)
    (flat_map (operator_text rank words (image_in c.args.action.now)) (letters rank)) _ _ _ (c.in_ok-put_count.ensures {u = tt})
    (search rules) (c.in_err-put_next_cell.ensures {u = tt}))

pub returns : goal.returns
returns c =
    let rank = c.args.context.now.matrix.rank in
    let words = cell_words c.args.context.now.members c.args.cell.now in
    rw (words-size c.args.context.now.members c.args.cell.now)
    (Puts-third_of_three _ (decimal (length c.args.cell.now)) (10 ∷ members_text rank words)
    (flat_map (operator_text rank words (image_in c.args.action.now)) (letters rank)) _ _ _ _ (c.in_ok-put_count.ensures {u = tt})
    (c.in_ok-put_next_cell.ensures {u = tt}) c.put_operators.ensures)
