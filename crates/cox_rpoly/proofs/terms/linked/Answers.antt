-- Where R(sx,u) is 0, the list of zeros stands for it.
use Rattle.std.proofs.Common.{◌≡◌, ap, ◌∙◌}
use Rattle.std.proofs.Math.Path.{fun_ext}
use Rattle.cox_poly.specs.Coefficients.{Coefficients, zero_polynomial, plus, times_q, times_q_less_one}
use Rattle.cox_poly.specs.Polynomial.{coefficient}
use Rattle.cox_rpoly.specs.Terms.{numbered}
use Rattle.cox_rpoly.proofs.terms.linked.Goals as goal

pub returns-in-Longer-default-None : goal.returns-in-Longer-default-None
returns-in-Longer-default-None c = λ k.
    let none = rw c.in-Longer-default-None.is at c.in-Longer-default-None.field-1-is
    in let nothing : coefficient c.zero.result ≡ zero_polynomial = fun_ext c.zero.ensures
    in let still = coefficient (numbered c.args.next.now c.in-Longer-default-None.still)
    in rw (c.in-Longer-default-None.is, none)
    (c.combined.ensures k ∙ ap (λ (h : Coefficients). plus (times_q_less_one still) (times_q h) k) nothing)
