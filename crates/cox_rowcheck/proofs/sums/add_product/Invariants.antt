-- The terms of p below q^k are done.
use Rattle.cox_rowcheck.proofs.AddedProducts.{IsAdded}
use Rattle.cox_rowcheck.proofs.sums.add_product.Given as goal

abbrev pub invariant-loop-k : goal.invariant-loop-k
invariant-loop-k l = IsAdded l.initial.sum l.sum l.r l.p l.k
