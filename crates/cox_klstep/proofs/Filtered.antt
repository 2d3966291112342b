-- The corrections are the neighbours of sw that s shortens, in order.
use Rattle.std.proofs.Common.{◌≡◌, ℕ, ◌+◌, ◌*◌, ◌<◌, ◌≤◌, List, [], ◌∷◌, ◌++◌, length, ℤ, refl, sym, ◌∙◌, ⊎_elim, arith}
use Rattle.std.proofs.lemmas.Bool.{cases_lt}
use Rattle.cox_lemmas.proofs.PushedItems.{push-length, push-old, push-new, push_cases}
use Rattle.cox_base.specs.declared.side.Side.{Side}
use Rattle.cox_base.specs.IntegerMatrix.{IntegerMatrix}
use Rattle.cox_base.specs.Admissible.{IsAdmissible}
use Rattle.cox_base.specs.Element.{SameElement}
use Rattle.cox_base.specs.ShortLex.{normal_form}
use Rattle.cox_base.specs.Length.{word_length}
use Rattle.cox_reflect.proofs.Search.{normal_form-same, word_length-equal}
use Rattle.cox_base.specs.SideDescents.{times_letter, IsDescent}
use Rattle.cox_hecke.specs.Step.{IsCorrection}
use Rattle.cox_hecke.proofs.AllRows.{row_of, row_of-is}
use Rattle.cox_hecke.proofs.Descended.{mu-odd}
use Rattle.cox_context.specs.Closed.{IsClosed}
use Rattle.cox_context.specs.Numbers.{word_at}
use Rattle.cox_context.proofs.Shifting.{length-at}
use Rattle.cox_row.specs.Rising.{number_at}
use Rattle.cox_row.specs.Mus.{value_at, AreMus}
use Rattle.cox_klstep.specs.declared.step.Correction.{Correction}
use Rattle.cox_klstep.specs.StepOf.{correction_at, AreNumbered}
use Rattle.cox_row_symmetry.proofs.DescentsOnSides.{lowered-length}
use Rattle.cox_klstep.proofs.Chosen.{correction-place, neighbour-corrects}

-- the corrections by the neighbours at the places before p
pub record AreFiltered (side : Side) (A : IntegerMatrix) (members : List (List ℕ)) (s : ℕ) (w : List ℕ) (numbers : List ℕ) (p : ℕ)
    (list : List Correction)
    : Type 0 where
  pub rising : (j k : ℕ) → j < k → k < length list → (correction_at list j).number < (correction_at list k).number
  pub placed : (k : ℕ) → k < length list → (q : ℕ) × (q < p) × (number_at numbers q ≡ (correction_at list k).number)
  pub each : (k : ℕ) → k < length list
      → IsCorrection side A s (times_letter side s w) (word_at members (correction_at list k).number) (correction_at list k).factor
  pub shift : (k : ℕ) → k < length list
      → word_length A w ≡ word_length A (word_at members (correction_at list k).number) + 2 * (correction_at list k).shift
  pub found : (q : ℕ) → q < p → IsDescent side A (word_at members (number_at numbers q)) s
      → (k : ℕ) × (k < length list) × ((correction_at list k).number ≡ number_at numbers q)

module _ (side : Side) (A : IntegerMatrix) (g : IsAdmissible A) (members : List (List ℕ)) (closed : IsClosed A members) (i lower s : ℕ)
    (inside : i < length members)
    (below : lower < length members) (descent : IsDescent side A (word_at members i) s)
    (lower_is : word_at members lower ≡ normal_form A (times_letter side s (word_at members i))) (numbers : List ℕ) (values : List ℤ)
    (mus : AreMus A members (word_at members lower) numbers values) where
  lower-same : SameElement A (word_at members lower) (times_letter side s (word_at members i))
  lower-same = rw lower_is (normal_form-same A g (times_letter side s (word_at members i)))

  lower-length : word_length A (word_at members i) ≡ word_length A (word_at members lower) + 1
  lower-length = omega (arith, word_length-equal A g lower-same, lowered-length side A g s (word_at members i) descent)

  -- half the difference of the lengths of w and a neighbour of sw
  pub half : (p : ℕ) → p < length numbers
      → (d : ℕ) × (length (word_at members i) ≡ length (word_at members (number_at numbers p)) + 2 * d)
  half p l =
      let odd = mu-odd A g (word_at members (number_at numbers p)) (word_at members lower) (value_at values p)
      (row_of A g (word_at members lower))
      (mus.value p l) (mus.some p l) (row_of-is A g (word_at members lower))
      in (
        odd.0 + 1,
        omega (
          arith,
          odd.1,
          lower-length,
          length-at A g members closed i inside,
          length-at A g members closed (number_at numbers p) (mus.within p l),
        ),
      )

  pub filtered-start : AreFiltered side A members s (word_at members i) numbers 0 []
  filtered-start = record {
    rising = λ j k l m. absurd (omega (arith, m));
    placed = λ k l. absurd (omega (arith, l));
    each = λ k l. absurd (omega (arith, l));
    shift = λ k l. absurd (omega (arith, l));
    found = λ q l. absurd (omega (arith, l));
  }

  pub filtered-skip : (p n : ℕ) (list : List Correction) → n ≡ p + 1 → (IsDescent side A (word_at members (number_at numbers p)) s → ⊥)
      → AreFiltered side A members s (word_at members i) numbers p list → AreFiltered side A members s (word_at members i) numbers n list
  filtered-skip p n list e none h = record {
    rising = h.rising;
    placed = λ k l. let q = h.placed k l in (q.0, omega (arith, q.1, e), q.2);
    each = h.each;
    shift = h.shift;
    found = λ q l d. ⊎_elim (λ (less : q < p). h.found q less d) (λ (m : p ≤ q).
        let is : q ≡ p = omega (arith, l, m, e) in absurd (none (rw is at d))) (cases_lt q p);
  }

  pub filtered-push : (p n : ℕ) (list : List Correction) (c : Correction) → n ≡ p + 1 → p < length numbers
      → IsDescent side A (word_at members (number_at numbers p)) s → c.number ≡ number_at numbers p → c.factor ≡ value_at values p
      → ((d : ℕ) → length (word_at members i) ≡ length (word_at members (number_at numbers p)) + 2 * d → c.shift ≡ d)
      → AreFiltered side A members s (word_at members i) numbers p list → AreFiltered side A members s (word_at members i) numbers n
      (list ++ c ∷ [])
  filtered-push p n list c e l d number factor shift h = record {
    rising = λ j k less m. ⊎_elim
        (λ (old : k < length list). rw (push-old list c _ j (omega (arith, less, old)), push-old list c _ k old) (h.rising j k less old))
        (λ (new : k ≡ length list).
        let q = h.placed j (omega (arith, less, new))
        in let less_number = mus.rising q.0 p q.1 l
        in rw (push-old list c _ j (omega (arith, less, new)), push-new list c _ k new) (omega (arith, less_number, q.2, number)))
        (push_cases list c k m);
    placed = λ k m. ⊎_elim
        (λ (old : k < length list). let q = h.placed k old in rw (push-old list c _ k old) (q.0, omega (arith, q.1, e), q.2))
        (λ (new : k ≡ length list). rw (push-new list c _ k new) (p, omega (arith, e), sym number))
        (push_cases list c k m);
    each = λ k m. ⊎_elim
        (λ (old : k < length list). rw (push-old list c _ k old) (h.each k old))
        (λ (new : k ≡ length list). rw (push-new list c _ k new, number, factor)
        (neighbour-corrects side A g members (word_at members i) lower s lower_is numbers values mus p l d))
        (push_cases list c k m);
    shift = λ k m. ⊎_elim
        (λ (old : k < length list). rw (push-old list c _ k old) (h.shift k old))
        (λ (new : k ≡ length list).
        let h = half p l
        in rw (push-new list c _ k new, number) (omega (
          arith,
          h.1,
          shift h.0 h.1,
          length-at A g members closed i inside,
          length-at A g members closed (number_at numbers p) (mus.within p l),
        )))
        (push_cases list c k m);
    found = λ q m dq. ⊎_elim
        (λ (less : q < p).
        let k = h.found q less dq
        in (k.0, omega (arith, k.1, push-length list c), rw (push-old list c _ k.0 k.1) k.2))
        (λ (more : p ≤ q).
        let is : q ≡ p = omega (arith, m, more, e)
        in (length list, omega (arith, push-length list c), rw (push-new list c _ (length list) refl, is) number))
        (cases_lt q p);
  }

  pub filtered-end : (p : ℕ) (list : List Correction) → length numbers ≤ p → AreFiltered side A members s (word_at members i) numbers p list
      → p ≤ length numbers → AreNumbered side A members s (word_at members i) list
  filtered-end p list all h fits = record {
    rising = h.rising;
    within = λ k l. let q = h.placed k l in rw (← q.2) (mus.within q.0 (omega (arith, q.1, fits)));
    each = h.each;
    shift = h.shift;
    whole = λ u m l c.
        let q = correction-place side A g members (word_at members i) lower s lower_is numbers values mus u m l c
        in let k = h.found q.0 (omega (arith, q.1, all)) (rw q.2 c.shortens)
        in (k.0, k.1, k.2 ∙ q.2);
  }
