-- The table: from the list of all small roots and their moves, and what it tells of their number.
use Rattle.std.proofs.Common.{◌≡◌, ℕ, ◌-◌, ◌*◌, ◌+◌, ◌≤◌, ◌<◌, List, length, get_or, arith}
use Rattle.std.proofs.Math.Logic.{∥∥₁_elim}
use Rattle.cox_base.specs.declared.limits.TheConstants.{MAX_RANK}
use Rattle.cox_minroots.specs.declared.closure.TheConstants.{MAX_SMALL_ROOTS}
use Rattle.cox_base.specs.Matrix.{IsLetter}
use Rattle.cox_base.specs.IntegerMatrix.{IntegerMatrix}
use Rattle.cox_base.specs.Admissible.{IsAdmissible}
use Rattle.cox_small.specs.SmallRoots.{HasMoreSmallRoots}
use Rattle.cox_small.specs.RootCounts.{HasFewSmallRoots}
use Rattle.cox_small.proofs.Counting.{not_both}
use Rattle.cox_minroots.specs.declared.root.Root.{Root}
use Rattle.cox_minroots.specs.RootLists.{root_of, coroot_of}
use Rattle.cox_minroots.specs.Closure.{AreAllSmall}
use Rattle.cox_minroots.specs.Moves.{IsMove, IsMoveTable, IsRootTable}
use Rattle.cox_minroots.proofs.SmallRootLists.{closed-has}

pub root-table : (A : IntegerMatrix) → IsAdmissible A → (roots : List Root) (count : ℕ) (moves : List ℕ) → AreAllSmall A roots
    → count ≡ length roots
    → length roots ≤ MAX_SMALL_ROOTS → length moves ≡ MAX_RANK * length roots
    → ((i s : ℕ) → i < length roots → IsLetter A.rank s
    → IsMove A (length roots) (root_of roots) (coroot_of roots) i s (get_or moves (MAX_RANK * i + (s - 1)) 0))
    → IsRootTable A count moves
root-table A g roots count moves h e few size move =
    rw e (record {
      few = few;
      size = size;
      table = ∣ record {
        root = root_of roots;
        coroot = coroot_of roots;
        small = h.small.small;
        different = h.small.different;
        all = λ {b} k. closed-has A g roots h k.small;
        simple = λ s l. (omega (arith, l.from_one, l.to_rank, h.simple.within), h.simple.is s l);
        move = move;
      } ∣₁;
    })

module _ (A : IntegerMatrix) (count : ℕ) (moves : List ℕ) (h : IsRootTable A count moves) where
  pub not-more : HasMoreSmallRoots A count → ⊥
  not-more many =
      ∥∥₁_elim h.table (λ x y. absurd x)
      (λ (t : IsMoveTable A count moves). not_both A count (record { root = t.root; all = λ {b} k. t.all k }) many)

  pub not-fewer : (m : ℕ) → m < count → HasFewSmallRoots A m → ⊥
  not-fewer m l few = ∥∥₁_elim h.table (λ x y. absurd x) (λ (t : IsMoveTable A count moves). not_both A m few (more t))
    where
      more : IsMoveTable A count moves → HasMoreSmallRoots A m
      more t = record {
        root = t.root;
        small = λ i k. record { coroot = t.coroot i; small = t.small i (omega (arith, k, l)) };
        different = λ i j k n e. t.different i j k (omega (arith, n, l)) e;
      }
