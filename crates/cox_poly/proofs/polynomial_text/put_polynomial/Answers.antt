-- The terms so far are put, and at the end all of them are.
use Rattle.std.proofs.Common.{[], ap, arith, codes, vec_capacity, rules, FitsSigned, w64, of_z}
use Rattle.std.proofs.lemmas.Int.{ints, to_z-of_z}
use Rattle.std.proofs.lemmas.Result.{on_err_weaker}
use Rattle.cox_poly.specs.Polynomial.{coefficient}
use Rattle.cox_poly.specs.ListedText.{listed_term_text}
use Rattle.cox_poly.proofs.Behind.{Puts-failed, on_err}
use Rattle.cox_poly.proofs.Terms.{Written-more, Written-prefix, Written-full, Written-zero, Written-last, Written-all, rest_text-term}
use Rattle.cox_poly.proofs.Terms.{rest_text-zero}
use Rattle.cox_poly.proofs.polynomial_text.put_polynomial.Goals as goal
use Rattle.cox_poly.proofs.polynomial_text.put_polynomial.Goals.{then-c-ne0+in_ok-put_listed_term, else-c-ne0}

pub returns-in_err-put_listed_term-clause-text : goal.returns-in_err-put_listed_term-clause-text
returns-in_err-put_listed_term-clause-text c =
    let p = c.args.coefficients.now in
    let k = c.loop-k.k in
    let fits : FitsSigned w64 (coefficient p k) = search rules in
    let put = simp to_z-of_z at c.in_err-put_listed_term.ensures.text in
    let split = rest_text-term p k c.loop-k.first (omega arith) (λ e. c.if-c-ne0.true (ap (of_z w64) e)) in
    Puts-failed _ _ _ _ (search rules)
    (Written-prefix _ (listed_term_text c.loop-k.first (k, coefficient p k)) _ c.loop-k.invariant.written put split)

pub returns-in_err-put_listed_term-clause-full : goal.returns-in_err-put_listed_term-clause-full
returns-in_err-put_listed_term-clause-full c =
    let p = c.args.coefficients.now in
    let k = c.loop-k.k in
    let fits : FitsSigned w64 (coefficient p k) = search rules in
    let full = simp to_z-of_z at c.in_err-put_listed_term.ensures.full in
    let split = rest_text-term p k c.loop-k.first (omega arith) (λ e. c.if-c-ne0.true (ap (of_z w64) e)) in
    let none = Written-full (vec_capacity c.loop-k.out) (listed_term_text c.loop-k.first (k, coefficient p k)) _
    c.loop-k.invariant.written split (omega (arith, full, c.loop-k.out.ok.0)) in
    on_err c.from_residual.result (omega (arith, none, c.loop-k.invariant.capacity, c.args.out.now.ok.0))

pub loop-k-preserved : goal.loop-k-preserved
loop-k-preserved c =
    let p = c.args.coefficients.now in
    let k = c.loop-k.k in
    let fits : FitsSigned w64 (coefficient p k) = search rules in
    elim c.if-c-ne0.branch [
      | then-c-ne0+in_ok-put_listed_term w ↦
          let put = simp to_z-of_z at w.in_ok-put_listed_term.ensures.text in
          let split = rest_text-term p k c.loop-k.first (omega arith) (λ e. w.if-c-ne0.true (ap (of_z w64) e)) in
          record {
            written = rw (w.out-is, w.first-is)
                (Written-more _ (listed_term_text c.loop-k.first (k, coefficient p k)) _ c.loop-k.invariant.written put split);
            capacity = rw w.out-is (omega (arith, c.loop-k.invariant.capacity, w.in_ok-put_listed_term.ensures.capacity));
          }
      | else-c-ne0 w ↦ record {
        written = rw (w.out-is, w.first-is)
            (Written-zero p k c.loop-k.first (omega arith) (omega (arith, ints)) c.loop-k.invariant.written);
        capacity = rw w.out-is c.loop-k.invariant.capacity;
      }
    ]

pub returns-then-first-clause-text : goal.returns-then-first-clause-text
returns-then-first-clause-text c =
    let zero = rest_text-zero c.args.coefficients.now c.loop-k.k c.loop-k.first c.if-first.true (omega arith) in
    Written-last c.put_text.result _ (codes "0") c.loop-k.invariant.written zero c.put_text.ensures.text

pub returns-then-first-clause-full : goal.returns-then-first-clause-full
returns-then-first-clause-full c =
    let zero = rest_text-zero c.args.coefficients.now c.loop-k.k c.loop-k.first c.if-first.true (omega arith) in
    let before = c.loop-k.invariant.capacity in
    on_err_weaker c.put_text.result
    (λ full.
    let none = Written-full (vec_capacity c.loop-k.out) (codes "0") [] c.loop-k.invariant.written zero
    (omega (arith, full, c.loop-k.out.ok.0)) in
    omega (arith, none, before, c.args.out.now.ok.0))
    c.put_text.ensures.full

pub returns-then-first-clause-capacity : goal.returns-then-first-clause-capacity
returns-then-first-clause-capacity c = omega (arith, c.put_text.ensures.capacity, c.loop-k.invariant.capacity)

pub returns-else-first-clause-text : goal.returns-else-first-clause-text
returns-else-first-clause-text c =
    Written-all c.args.coefficients.now c.loop-k.k c.loop-k.first c.if-first.false (omega arith) c.loop-k.invariant.written

pub returns-else-first-clause-capacity : goal.returns-else-first-clause-capacity
returns-else-first-clause-capacity c = c.loop-k.invariant.capacity
