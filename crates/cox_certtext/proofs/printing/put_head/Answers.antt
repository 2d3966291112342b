-- The proof of `put_head`.
use Rattle.std.proofs.Common.{codes, rules}
use Rattle.cox_print.proofs.ThreeTexts.{Puts-first_of_three, Puts-second_of_three, Puts-third_of_three}
use Rattle.cox_certtext.specs.Certificate.{matrix_line}
use Rattle.cox_certtext.specs.CertificateParts.{next_top_line}
use Rattle.cox_certtext.proofs.printing.put_head.Goals as goal

pub returns-in_err-put_matrix_line : goal.returns-in_err-put_matrix_line
returns-in_err-put_matrix_line c = Puts-first_of_three _ (matrix_line c.args.g.now)
    (next_top_line c.args.g.now.rank c.args.top.now.items) (codes "\nrows ") _ _ (search rules) c.in_err-put_matrix_line.ensures

pub returns-in_err-put_top_line : goal.returns-in_err-put_top_line
returns-in_err-put_top_line c = Puts-second_of_three _ (matrix_line c.args.g.now)
    (next_top_line c.args.g.now.rank c.args.top.now.items) (codes "\nrows ") _ _ _ c.in_ok-put_matrix_line.ensures (search rules)
    (rw c.rank.ensures.rank at (c.in_err-put_top_line.ensures {u = tt}))

pub returns : goal.returns
returns c = Puts-third_of_three _ (matrix_line c.args.g.now)
    (next_top_line c.args.g.now.rank c.args.top.now.items) (codes "\nrows ") _ _ _ _ c.in_ok-put_matrix_line.ensures
    (rw c.rank.ensures.rank at (c.in_ok-put_top_line.ensures {u = tt})) c.put_text.ensures.text
