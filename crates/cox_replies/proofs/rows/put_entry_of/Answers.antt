-- The proof of `put_entry_of`.
use Rattle.std.proofs.Common.{FitsSigned, rules, w32}
use Rattle.std.proofs.lemmas.Int.{to_z-of_z}
use Rattle.cox_base.specs.IntegerMatrix.{integer_matrix}
use Rattle.cox_base.proofs.AdmissibleMatrices.{IsAdmissible-integer_matrix}
use Rattle.cox_replies.proofs.RowTexts.{pol-text, pol-zero, mu-text}
use Rattle.cox_replies.proofs.rows.put_entry_of.Goals as goal

pub returns-in-Some : goal.returns-in-Some
returns-in-Some c = λ w is.
    let A = integer_matrix c.args.table.now in
    let admissible = IsAdmissible-integer_matrix c.args.table.now c.requires.group in
    let text = pol-text A admissible c.args.y.now.items w _ _ is (c.in-Some.ensures {u = tt}).value in
    rw c.in-Pol.is (_, text, c.put_text.ensures.text)

pub returns-in-None : goal.returns-in-None
returns-in-None c = λ w is.
    let A = integer_matrix c.args.table.now in
    let admissible = IsAdmissible-integer_matrix c.args.table.now c.requires.group in
    let text = pol-zero A admissible c.args.y.now.items w _ is (c.in-None.ensures {u = tt}).none in
    rw c.in-Pol.is (_, text, c.put_text-in-None.ensures.text)

pub returns-in-Mu : goal.returns-in-Mu
returns-in-Mu c = λ w is.
    let A = integer_matrix c.args.table.now in
    let admissible = IsAdmissible-integer_matrix c.args.table.now c.requires.group in
    let text = mu-text A admissible c.args.y.now.items w _ _ is c.mu_at.ensures in
    let fits : FitsSigned w32 c.mu_at.result = search rules in
    rw c.in-Mu.is (_, text, rw (to_z-of_z w32 c.mu_at.result fits) at c.put_value.ensures)
