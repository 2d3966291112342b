-- The proof of `RowTotals::of`.
use Rattle.std.proofs.Common.{◌≡◌, [], sym, rules, FitsSigned}
use Rattle.std.specs.Int.{w128}
use Rattle.std.proofs.lemmas.Int.{to_z-of_z}
use Rattle.cox_replies.proofs.PolynomialTotals.{polynomial_totals-degree, polynomial_totals-zero}
use Rattle.cox_answers.proofs.totals.RowTotals.of.Goals as goal

pub returns-in-None-clause-totals : goal.returns-in-None-clause-totals
returns-in-None-clause-totals c = λ n below.
    let none : c.args.polynomial.now ≡ [] = search rules in rw none (sym (polynomial_totals-zero n))

pub returns-in-Some-clause-totals : goal.returns-in-Some-clause-totals
returns-in-Some-clause-totals c = λ n below.
    let fits : FitsSigned w128 c.coefficient_sum.result = search rules in
    simp to_z-of_z (rw c.coefficient_sum.ensures.sum (sym (polynomial_totals-degree c.args.polynomial.now c.in-Some.degree n
    ((c.in-Some.ensures {u = tt}).degree) below)))
