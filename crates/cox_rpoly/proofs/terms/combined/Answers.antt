-- No step overflows, and each turn adds a coefficient.
use Rattle.std.proofs.Common.{◌≡◌, ◌+◌, ◌-◌, FitsSigned, w64, refl, arith, rules}
use Rattle.std.proofs.lemmas.Int.{to_z-of_z}
use Rattle.cox_poly.specs.Polynomial.{coefficient}
use Rattle.cox_rpoly.specs.declared.TheConstants.{MAX_DIFFERENCE}
use Rattle.cox_rpoly.proofs.CombinedTerms.{IsCombined-more, IsCombined-all, difference_fits, difference_sum_fits}
use Rattle.cox_rpoly.proofs.terms.combined.Goals as goal

pub overflow_add-terms : goal.overflow_add-terms
overflow_add-terms c =
    let f_here : FitsSigned w64 (coefficient c.args.f.now c.loop-k.k) = search rules
    in let f_before : FitsSigned w64 (coefficient c.args.f.now (c.loop-k.k - 1)) = search rules
    in let h_before : FitsSigned w64 (coefficient c.args.h.now (c.loop-k.k - 1)) = search rules
    in let difference = difference_fits c.args.f.now c.args.h.now (c.loop-k.k - 1) c.loop-k.k c.requires.small_f.small
    in simp to_z-of_z (difference_sum_fits c.args.f.now c.args.h.now (c.loop-k.k - 1) c.loop-k.k c.requires.small_f.small
    c.requires.small_h.small)

pub loop-k-preserved : goal.loop-k-preserved
loop-k-preserved c =
    let f_here : FitsSigned w64 (coefficient c.args.f.now c.loop-k.k) = search rules
    in let f_before : FitsSigned w64 (coefficient c.args.f.now (c.loop-k.k - 1)) = search rules
    in let h_before : FitsSigned w64 (coefficient c.args.h.now (c.loop-k.k - 1)) = search rules
    in let difference = difference_fits c.args.f.now c.args.h.now (c.loop-k.k - 1) c.loop-k.k c.requires.small_f.small
    in let whole = difference_sum_fits c.args.f.now c.args.h.now (c.loop-k.k - 1) c.loop-k.k c.requires.small_f.small
    c.requires.small_h.small
    in simp to_z-of_z (IsCombined-more c.args.f.now c.args.h.now c.loop-k.terms c.loop-k.k _ c.loop-k.invariant (omega arith)
    (omega arith) refl)

pub returns : goal.returns
returns c =
    let last : c.loop-k.k ≡ MAX_DIFFERENCE + 1 = omega arith
    in IsCombined-all c.args.f.now c.args.h.now c.loop-k.terms c.told-f c.told-h c.requires.small_f.top c.requires.small_h.top
    (rw last at c.loop-k.invariant)
