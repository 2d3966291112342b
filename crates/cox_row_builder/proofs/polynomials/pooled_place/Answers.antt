-- A polynomial that is not in the pool is put behind the others.
use Rattle.std.proofs.Common.{◌≡◌, inr, length, [], Err, FitsSigned, w64, rules, ap, arith}
use Rattle.std.proofs.lemmas.Int.{to_z-of_z}
use Rattle.cox_lemmas.proofs.PushedItems.{push-length, push-old, push-new}
use Rattle.cox_poly.specs.declared.poly_fault.PolyFault.TheVariants.{TooBig}
use Rattle.cox_row_builder.proofs.polynomials.pooled_place.Goals as goal

pub returns-in-Err-clause-too_big : goal.returns-in-Err-clause-too_big
returns-in-Err-clause-too_big c = λ d v is.
    let fits : FitsSigned w64 c.args.limit = search rules
    in let first = c.in-Err.ensures.too_big d v
    in let same : c.in-Err.fault ≡ TooBig d v = cc
    in simp (to_z-of_z w64 c.args.limit fits) at (first.0 (ap (λ f. Err f) same))

pub returns-in-Ok-push-clause-place : goal.returns-in-Ok-push-clause-place
returns-in-Ok-push-clause-place c =
    let fits : FitsSigned w64 c.args.limit = search rules
    in let small = simp (to_z-of_z w64 c.args.limit fits) at c.in-Ok.ensures.within
    in let none = c.in_default.ensures.none
    in let last : c.len-place.result ≡ length c.args.pool.now = omega arith
    in rw c.in-Ok-push.ensures record {
      within = omega (arith, last, push-length c.args.pool.now c.in-Ok.polynomial);
      trimmed = rw (push-new c.args.pool.now c.in-Ok.polynomial [] c.len-place.result last) c.in-Ok.ensures.normal;
      same = rw (push-new c.args.pool.now c.in-Ok.polynomial [] c.len-place.result last) c.in-Ok.ensures.sum;
      small = rw (push-new c.args.pool.now c.in-Ok.polynomial [] c.len-place.result last) (λ k. rw (c.in-Ok.ensures.sum k) (small k));
      kept = λ j l. push-old c.args.pool.now c.in-Ok.polynomial [] j l;
      size = inr (
        push-length c.args.pool.now c.in-Ok.polynomial,
        last,
        λ j l. rw (push-new c.args.pool.now c.in-Ok.polynomial [] c.len-place.result last)
            (λ e. none j l (λ k. rw e (c.in-Ok.ensures.sum k))),
      );
    }
