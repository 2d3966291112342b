-- Each difference fits, and is the next coefficient.
use Rattle.std.proofs.Common.{◌≡◌, ◌+◌, length, FitsSigned, w64, refl, arith, rules}
use Rattle.std.proofs.lemmas.Int.{to_z-of_z}
use Rattle.cox_poly.specs.Polynomial.{coefficient}
use Rattle.cox_rowcheck.proofs.StoredEntries.{less_one-none, less_one-more, less_one-all, less_one-fits}
use Rattle.cox_rowcheck.proofs.entries.write_less_one.Goals as goal

pub loop-k-init : goal.loop-k-init
loop-k-init c = less_one-none c.args.f.now c.args.entry.now c.requires.zeros

pub overflow_sub-entry : goal.overflow_sub-entry
overflow_sub-entry c =
    let f_fits : FitsSigned w64 (coefficient c.args.f.now c.loop-k.k) = search rules
    in simp to_z-of_z (less_one-fits c.args.f.now c.loop-k.entry c.loop-k.k _ c.loop-k.invariant c.requires.small.small)

pub loop-k-preserved : goal.loop-k-preserved
loop-k-preserved c =
    let f_fits : FitsSigned w64 (coefficient c.args.f.now c.loop-k.k) = search rules
    in let fits = less_one-fits c.args.f.now c.loop-k.entry c.loop-k.k _ c.loop-k.invariant c.requires.small.small
    in simp to_z-of_z (less_one-more c.args.f.now c.loop-k.entry c.loop-k.k (c.loop-k.k + 1) _ _ (omega arith) c.loop-k.invariant
    (omega arith) refl)

pub returns : goal.returns
returns c =
    let last : c.loop-k.k ≡ length c.args.f.now = omega arith
    in less_one-all c.args.f.now c.loop-k.entry _ (rw last at c.loop-k.invariant) (omega arith)
