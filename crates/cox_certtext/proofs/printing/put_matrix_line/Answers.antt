-- The proof of `put_matrix_line`.
use Rattle.std.proofs.Common.{codes, decimal, rules}
use Rattle.cox_print.proofs.ThreeTexts.{Puts-first_of_three, Puts-second_of_three, Puts-third_of_three}
use Rattle.cox_certtext.specs.CertificateParts.{labels_text}
use Rattle.cox_certtext.proofs.printing.put_matrix_line.Goals as goal

pub returns-in_err-put_text : goal.returns-in_err-put_text
returns-in_err-put_text c = Puts-first_of_three _ (codes "cert ") (decimal c.args.g.now.rank) (labels_text c.args.g.now.labels) _ _
    (search rules) c.in_err-put_text.ensures.text

pub returns-in_err-put_count : goal.returns-in_err-put_count
returns-in_err-put_count c = Puts-second_of_three _ (codes "cert ") (decimal c.args.g.now.rank) (labels_text c.args.g.now.labels) _ _ _
    c.in_ok-put_text.ensures.text (search rules) (rw c.rank.ensures.rank at c.in_err-put_count.ensures)

pub returns : goal.returns
returns c = Puts-third_of_three _ (codes "cert ") (decimal c.args.g.now.rank) (labels_text c.args.g.now.labels) _ _ _ _
    c.in_ok-put_text.ensures.text (rw c.rank.ensures.rank at c.in_ok-put_count.ensures) c.put_labels.ensures
