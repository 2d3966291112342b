-- How many corrections a step has, and where they stand among the neighbours.
use Rattle.std.proofs.Common.{◌≡◌, ◌⊎◌, inl, inr, ℕ, ◌<◌, ◌≤◌, List, length, ℤ, ⊎_elim, arith}
use Rattle.std.proofs.lemmas.Bool.{cases_lt}
use Rattle.cox_base.specs.declared.side.Side.{Side}
use Rattle.cox_base.specs.declared.side.Side.TheVariants.{Left}
use Rattle.cox_base.specs.IntegerMatrix.{IntegerMatrix}
use Rattle.cox_base.specs.Admissible.{IsAdmissible}
use Rattle.cox_base.specs.Element.{SameElement}
use Rattle.cox_base.specs.ShortLex.{normal_form}
use Rattle.cox_reflect.proofs.Elements.{same-refl, same-sym}
use Rattle.cox_reflect.proofs.Search.{normal_form-same}
use Rattle.cox_reflect.specs.LeastDescent.{IsLeastLeftDescent}
use Rattle.cox_base.specs.SideDescents.{times_letter, IsDescent}
use Rattle.cox_hecke.specs.Step.{IsCorrection}
use Rattle.cox_context.specs.Numbers.{word_at}
use Rattle.cox_row.specs.Rising.{number_at}
use Rattle.cox_row.specs.Mus.{value_at, AreMus}
use Rattle.cox_row.proofs.MuOfElements.{mu-words}
use Rattle.cox_row.proofs.RisingNumbers.{few-rising}
use Rattle.cox_klstep.specs.declared.step.Correction.{Correction}
use Rattle.cox_klstep.specs.StepOf.{correction_at, AreNumbered}
use Rattle.cox_klstep.specs.NeedsOf.{AreNeeds}

module _ (side : Side) (A : IntegerMatrix) (g : IsAdmissible A) (members : List (List ℕ)) (w : List ℕ) (lower s : ℕ)
    (lower_is : word_at members lower ≡ normal_form A (times_letter side s w)) (numbers : List ℕ) (values : List ℤ)
    (mus : AreMus A members (word_at members lower) numbers values) where
  lower-same : SameElement A (word_at members lower) (times_letter side s w)
  lower-same = rw lower_is (normal_form-same A g (times_letter side s w))

  -- a correction is among the neighbours
  pub correction-place : (u : ℕ) (m : ℤ) → u < length members → IsCorrection side A s (times_letter side s w) (word_at members u) m
      → (q : ℕ) × (q < length numbers) × (number_at numbers q ≡ u)
  correction-place u m l c = mus.whole u m l (mu-words A g m (same-refl A g (word_at members u)) (same-sym A g lower-same) c.is_mu) c.some

  -- and a neighbour that s shortens is a correction
  pub neighbour-corrects : (p : ℕ) → p < length numbers → IsDescent side A (word_at members (number_at numbers p)) s
      → IsCorrection side A s (times_letter side s w) (word_at members (number_at numbers p)) (value_at values p)
  neighbour-corrects p l d = record {
    shortens = d;
    is_mu = mu-words A g (value_at values p) (same-refl A g (word_at members (number_at numbers p))) lower-same (mus.value p l);
    some = mus.some p l;
  }

-- numbers that rise and are all among others that rise
module _ (n m : ℕ) (f h : ℕ → ℕ) (f_rising : (j k : ℕ) → j < k → k < n → f j < f k)
    (h_rising : (j k : ℕ) → j < k → k < m → h j < h k) (at : (k : ℕ) → k < n → (q : ℕ) × (q < m) × (h q ≡ f k)) where
  place_by : (k : ℕ) → (k < n) ⊎ (n ≤ k) → ℕ
  place_by k (inl l) = (at k l).0
  place_by k (inr l) = 0

  place : ℕ → ℕ
  unfolding place_by
  place k = place_by k (cases_lt k n)

  is-place_by : (k : ℕ) → k < n → (c : (k < n) ⊎ (n ≤ k)) → (place_by k c < m) × (h (place_by k c) ≡ f k)
  unfolding place_by
  is-place_by k l (inl i) = ((at k i).1, (at k i).2)
  is-place_by k l (inr i) = absurd (omega (arith, l, i))

  is-place : (k : ℕ) → k < n → (place k < m) × (h (place k) ≡ f k)
  unfolding place
  is-place k l = is-place_by k l (cases_lt k n)

  most : (i j : ℕ) → i ≤ j → j < m → h i ≤ h j
  most i j l k = ⊎_elim (λ (less : i < j). let r = h_rising i j less k in omega (arith, r))
      (λ (more : j ≤ i). let e : i ≡ j = omega (arith, l, more) in rw e (omega arith)) (cases_lt i j)

  place-rising : (j k : ℕ) → j < k → k < n → place j < place k
  place-rising j k less l =
      let number = f_rising j k less l
      in let first = is-place j (omega (arith, less, l))
      in let second = is-place k l
      in ⊎_elim (λ (yes : place j < place k). yes)
      (λ (no : place k ≤ place j).
      let order = most (place k) (place j) no first.0
      in absurd (omega (arith, order, number, first.1, second.1)))
      (cases_lt (place j) (place k))

  -- they are no more
  pub places-few : n ≤ m
  places-few = few-rising place m n place-rising (λ k l. (is-place k l).0)

module _ (A : IntegerMatrix) (members : List (List ℕ)) (s : ℕ) (w : List ℕ) where
  -- some corrections, rising by number, are no more than all
  pub some-few : (side : Side) (list all : List Correction)
      → ((j k : ℕ) → j < k → k < length list → (correction_at list j).number < (correction_at list k).number)
      → ((k : ℕ) → k < length list → (correction_at list k).number < length members)
      → ((k : ℕ) → k < length list
      → IsCorrection side A s (times_letter side s w) (word_at members (correction_at list k).number) (correction_at list k).factor)
      → AreNumbered side A members s w all → length list ≤ length all
  some-few side list all rising within each h = places-few (length list) (length all) (λ k. (correction_at list k).number)
      (λ k. (correction_at all k).number) rising h.rising
      (λ k l. h.whole (correction_at list k).number (correction_at list k).factor (within k l) (each k l))

  -- so two lists of all are equally long
  pub numbered-same : (side : Side) (list other : List Correction) → AreNumbered side A members s w list
      → AreNumbered side A members s w other → length list ≡ length other
  numbered-same side list other h j =
      omega (arith, some-few side list other h.rising h.within h.each j, some-few side other list j.rising j.within j.each h)

  -- and no longer than the list of the members, where both s and t are the least left descent of w
  pub least-needs : (t : ℕ) → IsLeastLeftDescent A w s → IsLeastLeftDescent A w t → (list : List Correction)
      → AreNumbered Left A members s w list → (numbers : List ℕ) → AreNeeds A members t w numbers → length list ≤ length numbers
  least-needs t mine least list h numbers are =
      let same : t ≡ s = omega (arith, least.least s mine.descent, mine.least t least.descent)
      in let j = rw same at are
      in places-few (length list) (length numbers) (λ k. (correction_at list k).number) (λ k. number_at numbers k) h.rising j.rising
      (λ k l. j.whole (correction_at list k).number (correction_at list k).factor (h.within k l) (h.each k l))
