-- Which members are left while a row is made: the extremal ones below w from the one done on are among those of the list that are left.
use Rattle.std.proofs.Common.{◌≡◌, ℕ, ◌+◌, ◌<◌, ◌≤◌, List, length, ⊎_elim, ◌∙◌, arith}
use Rattle.std.proofs.lemmas.Bool.{cases_lt}
use Rattle.cox_base.specs.IntegerMatrix.{IntegerMatrix, integer_matrix}
use Rattle.cox_base.specs.Admissible.{IsAdmissible}
use Rattle.cox_base.specs.Bruhat.{IsBelow}
use Rattle.cox_reflect.proofs.Elements.{same-refl}
use Rattle.cox_reflect.proofs.Bruhat.{below-refl}
use Rattle.cox_context.specs.Closed.{Elements, IsClosed}
use Rattle.cox_context.specs.Numbers.{word_at}
use Rattle.cox_context.proofs.Shifting.{later-not_below}
use Rattle.cox_row.specs.Rising.{number_at}
use Rattle.cox_row.specs.Extremal.{IsExtremal}
use Rattle.cox_row.specs.ExtremalNumbers.{AreExtremal}
use Rattle.cox_row.proofs.RisingNumbers.{rising-most}
use Rattle.cox_klstep.specs.ExtremalUpTo.{AreExtremalUpTo}
use Rattle.cox_klstep.proofs.PickedNumbers.{ArePicked}
use Rattle.cox_row_builder.specs.Underway.{AreBare}

-- each extremal member below w from the one done on is listed at some later place, and those are not before the one done
pub record AreLeft (A : IntegerMatrix) (members : List (List ℕ)) (i : ℕ) (numbers : List ℕ) (place done : ℕ) : Type 0 where
  pub bound : done ≤ i + 1
  pub ahead : (k : ℕ) → place ≤ k → k < length numbers → done ≤ number_at numbers k
  pub left : (x : ℕ) → done ≤ x → x ≤ i → IsExtremal A (word_at members i) (word_at members x)
      → IsBelow A (word_at members x) (word_at members i)
      → (k : ℕ) × (place ≤ k) × (k < length numbers) × (number_at numbers k ≡ x)

module _ (e : Elements) (g : IsAdmissible (integer_matrix e.matrix)) (closed : IsClosed (integer_matrix e.matrix) e.members) (i : ℕ)
    (inside : i < length e.members) where
  -- what is below w does not come behind it
  before : (x : ℕ) → x < length e.members → IsBelow (integer_matrix e.matrix) (word_at e.members x) (word_at e.members i) → x < i + 1
  before x l b = ⊎_elim (λ (less : x < i + 1). less)
      (λ (more : i + 1 ≤ x). absurd (later-not_below (integer_matrix e.matrix) g e.members closed x i l inside (omega (arith, more)) b))
      (cases_lt x (i + 1))

  -- those of the extremal members up to w that are below it
  pub extremals-below : (numbers list : List ℕ) → AreExtremalUpTo e i numbers
      → ArePicked (λ x. IsBelow (integer_matrix e.matrix) (word_at e.members x) (word_at e.members i)) numbers (length numbers) list
      → AreExtremal (integer_matrix e.matrix) e.members (word_at e.members i) list
  extremals-below numbers list are picked = record {
    rising = picked.rising;
    within = λ k l.
        let q = picked.placed k l in let early = are.before q.0 q.1 in omega (arith, early, q.2, inside);
    extremal = λ k l. let q = picked.placed k l in rw q.2 at (are.each q.0 q.1);
    below = picked.each;
    whole = λ x l h b.
        let q = are.whole x (before x l b) h
        in let k = picked.found q.0 q.1 (rw q.2 b)
        in (k.0, k.1, k.2 ∙ q.2);
  }

  module _ (numbers : List ℕ) (are : AreExtremal (integer_matrix e.matrix) e.members (word_at e.members i) numbers) where
    pub left-within : (k : ℕ) → k < length numbers → number_at numbers k < i + 1
    left-within k l = before (number_at numbers k) (are.within k l) (are.below k l)

    pub left-start : AreLeft (integer_matrix e.matrix) e.members i numbers 0 0
    left-start = record {
      bound = omega arith;
      ahead = λ k l m. omega arith;
      left = λ x l m h b.
          let k = are.whole x (omega (arith, m, inside)) h b
          in (k.0, omega arith, k.1, k.2);
    }

    module _ (place next done : ℕ) (more : next ≡ place + 1) (there : place < length numbers)
        (left : AreLeft (integer_matrix e.matrix) e.members i numbers place done) where
      -- none before the one at hand is extremal and below w
      pub left-bare : AreBare e i done (number_at numbers place)
      left-bare x l m h b =
          let k = left.left x l (omega (arith, m, left-within place there)) h b
          in let order = rising-most numbers are.rising place k.0 k.1 k.2
          in omega (arith, order, k.3, m)

      -- it is done
      pub left-take : AreLeft (integer_matrix e.matrix) e.members i numbers next (number_at numbers place + 1)
      left-take = record {
        bound = omega (arith, left-within place there);
        ahead = λ k l m. let rises = are.rising place k (omega (arith, l, more)) m in omega (arith, rises);
        left = λ x l m h b.
            let k = left.left x (omega (arith, l, left.ahead place (omega arith) there)) m h b
            in ⊎_elim (λ (after : place < k.0). (k.0, omega (arith, after, more), k.2, k.3))
            (λ (same : k.0 ≤ place).
            let at : k.0 ≡ place = omega (arith, same, k.1)
            in let number : number_at numbers place ≡ x = rw at at k.3
            in absurd (omega (arith, number, l)))
            (cases_lt place k.0);
      }

    -- when none is left w itself is done
    pub left-end : (place done : ℕ) → length numbers ≤ place → AreLeft (integer_matrix e.matrix) e.members i numbers place done
        → i < done
    left-end place done all left = ⊎_elim (λ (yes : i < done). yes)
        (λ (no : done ≤ i).
        let k = left.left i no (omega arith) record { left = λ s d. d; right = λ s d. d }
        (below-refl (integer_matrix e.matrix) g (same-refl (integer_matrix e.matrix) g (word_at e.members i)))
        in absurd (omega (arith, k.1, k.2, all)))
        (cases_lt i done)
