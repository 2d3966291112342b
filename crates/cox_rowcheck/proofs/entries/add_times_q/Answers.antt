-- Each sum fits, and is the next coefficient.
use Rattle.std.proofs.Common.{◌≡◌, ◌+◌, length, FitsSigned, w64, pos, ◌∙◌, arith, rules}
use Rattle.std.proofs.lemmas.Int.{ints, to_z-of_z}
use Rattle.cox_poly.specs.Polynomial.{coefficient}
use Rattle.cox_poly.proofs.AddedMultiples.{Added-none, Added-more, Added-all}
use Rattle.cox_rowcheck.proofs.StoredEntries.{times_q-added, times_q-fits}
use Rattle.cox_rowcheck.proofs.entries.add_times_q.Goals as goal

pub loop-k-init : goal.loop-k-init
loop-k-init c = Added-none c.args.entry.now c.args.h.now (pos 1) 1

pub overflow_add-entry-in-loop-k : goal.overflow_add-entry-in-loop-k
overflow_add-entry-in-loop-k c =
    let entry_fits : FitsSigned w64 (coefficient c.loop-k.entry (1 + c.loop-k.k)) = search rules
    in let h_fits : FitsSigned w64 (coefficient c.args.h.now c.loop-k.k) = search rules
    in simp to_z-of_z (times_q-fits c.args.entry.now c.loop-k.entry c.args.h.now c.loop-k.k c.loop-k.invariant c.requires.room
    c.requires.small.small)

pub loop-k-preserved : goal.loop-k-preserved
loop-k-preserved c =
    let entry_fits : FitsSigned w64 (coefficient c.loop-k.entry (1 + c.loop-k.k)) = search rules
    in let h_fits : FitsSigned w64 (coefficient c.args.h.now c.loop-k.k) = search rules
    in let fits = times_q-fits c.args.entry.now c.loop-k.entry c.args.h.now c.loop-k.k c.loop-k.invariant c.requires.room
    c.requires.small.small
    in simp to_z-of_z (Added-more _ _ _ _ _ _ _ c.loop-k.invariant (omega arith) (omega (arith, ints)))

pub returns : goal.returns
returns c =
    let last : c.loop-k.k ≡ length c.args.h.now = omega arith
    in λ k. Added-all c.args.entry.now c.loop-k.entry c.args.h.now (pos 1) 1 (rw last at c.loop-k.invariant) k
    ∙ times_q-added c.args.entry.now c.args.h.now k
