-- The integer matrix of a Coxeter matrix is admissible.
use Rattle.std.proofs.Common.{◌≡◌, ℕ, ◌<◌, ◌≤◌, false, IsTrue, slice_index, ⊎_elim, refl, arith}
use Rattle.std.proofs.lemmas.Bool.{cases_lt, cases_eq}
use Rattle.std.proofs.lemmas.Bool.Decides.{nat_tests}
use Rattle.cox_base.specs.Matrix.{CoxeterMatrix, IsLetter, is_between, is_label, place, label}
use Rattle.cox_base.specs.Admissible.{IsCoxeterMatrix, IsAdmissible, IsAdmissiblePair, HasOrder}
use Rattle.cox_base.specs.IntegerMatrix.{integer_matrix, entry_of, entry_above, entry_below}
use Rattle.cox_base.specs.Admissible.{two, three, four, six, infinity, order_two, order_three, order_four, order_six}
use Rattle.cox_base.proofs.LabelPlaces.{place-within}
use Rattle.cox_base.proofs.Entries.{label-above, entry_of-diagonal, entry_of-above, entry_of-below, entry_of-row_outside}
use Rattle.cox_base.proofs.Entries.{entry_of-column_outside}

-- what is no letter
is_between-false : (rank s : ℕ) → (IsLetter rank s → ⊥) → is_between 1 rank s ≡ false
is_between-false rank s outside =
    ⊎_elim (λ beyond. let h : rank < s = beyond in grind (arith, nat_tests))
    (λ within. ⊎_elim (λ none. let h : s < 1 = none in grind (arith, nat_tests))
    (λ some. absurd (outside (record { from_one = some; to_rank = within }))) (cases_lt s 1))
    (cases_lt rank s)

-- there is no other label
no_label : (m : ℕ) → IsTrue (is_label m) → (m ≡ 0 → ⊥) → (m ≡ 2 → ⊥) → (m ≡ 3 → ⊥) → (m ≡ 4 → ⊥) → (m ≡ 6 → ⊥) → ⊥
no_label m admitted n0 n2 n3 n4 n6 = grind (arith, nat_tests)

-- what holds of each of the five labels holds of a label that is admitted
by_labels : (P : ℕ → Type 0) (m : ℕ) → IsTrue (is_label m) → P 0 → P 2 → P 3 → P 4 → P 6 → P m
by_labels P m admitted p0 p2 p3 p4 p6 =
    ⊎_elim (at 0 p0) (λ n0. ⊎_elim (at 2 p2) (λ n2. ⊎_elim (at 3 p3) (λ n3. ⊎_elim (at 4 p4)
    (λ n4. ⊎_elim (at 6 p6) (λ n6. other n0 n2 n3 n4 n6)
    (cases_eq m 6)) (cases_eq m 4)) (cases_eq m 3)) (cases_eq m 2)) (cases_eq m 0)
  where
    at : (k : ℕ) → P k → m ≡ k → P m
    at k p e = rw e p

    other : (m ≡ 0 → ⊥) → (m ≡ 2 → ⊥) → (m ≡ 3 → ⊥) → (m ≡ 4 → ⊥) → (m ≡ 6 → ⊥) → P m
    other n0 n2 n3 n4 n6 = absurd (no_label m admitted n0 n2 n3 n4 n6)

-- the pair of entries of a label
pub IsAdmissiblePair-label : (m : ℕ) → IsTrue (is_label m) → IsAdmissiblePair (entry_above m) (entry_below m)
IsAdmissiblePair-label m admitted = by_labels (λ k. IsAdmissiblePair (entry_above k) (entry_below k)) m admitted infinity two three four six

-- a finite label is the order of its pair of entries
pub HasOrder-label : (m : ℕ) → IsTrue (is_label m) → (m ≡ 0 → ⊥) → HasOrder (entry_above m) (entry_below m) m
HasOrder-label m admitted =
    by_labels (λ k. (k ≡ 0 → ⊥)
    → HasOrder (entry_above k) (entry_below k) k) m admitted (λ finite. absurd (finite refl)) (λ _. order_two) (λ _. order_three)
    (λ _. order_four) (λ _. order_six)

-- the labels of a Coxeter matrix are admitted
label-admitted : (g : CoxeterMatrix) → IsCoxeterMatrix g → (s t : ℕ) → 1 ≤ s → s < t → t ≤ g.rank
    → IsTrue (is_label (slice_index g.labels (place g.rank s t)))
label-admitted g matrix s t from_one rising to_rank = matrix.admitted (place g.rank s t) 0
    (rw matrix.count (place-within g.rank s t from_one rising to_rank))

-- the integer matrix of a Coxeter matrix
pub IsAdmissible-integer_matrix : (g : CoxeterMatrix) → IsCoxeterMatrix g → IsAdmissible (integer_matrix g)
IsAdmissible-integer_matrix g matrix = record {
  diagonal = λ s letter. entry_of-diagonal g s letter.from_one letter.to_rank;
  pairs = λ s t letter other rising.
      let m = slice_index g.labels (place g.rank s t) in
      rw (entry_of-above g s t letter.from_one rising other.to_rank, entry_of-below g t s letter.from_one rising other.to_rank)
      (IsAdmissiblePair-label m (label-admitted g matrix s t letter.from_one rising other.to_rank));
  row_outside = λ s t outside. entry_of-row_outside g s t (is_between-false g.rank s outside);
  column_outside = λ s t outside. entry_of-column_outside g s t (is_between-false g.rank t outside);
}

-- a finite label is the order of the product of its letters
pub HasOrder-integer_matrix : (g : CoxeterMatrix) → IsCoxeterMatrix g → (s t : ℕ) → 1 ≤ s → s < t → t ≤ g.rank → (label g s t ≡ 0 → ⊥)
    → HasOrder (entry_of g s t) (entry_of g t s) (label g s t)
HasOrder-integer_matrix g matrix s t from_one rising to_rank finite =
    let m = label-above g s t rising in
    rw (entry_of-above g s t from_one rising to_rank, entry_of-below g t s from_one rising to_rank, m)
    (HasOrder-label (slice_index g.labels (place g.rank s t)) (label-admitted g matrix s t from_one rising to_rank) (rw m at finite))
