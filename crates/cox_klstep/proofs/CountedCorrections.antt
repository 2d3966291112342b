-- How many of the neighbours are corrections, one neighbour after another.
use Rattle.std.proofs.Common.{◌≡◌, ℕ, ◌+◌, ◌<◌, ◌≤◌, List, [], ◌∷◌, ◌++◌, length, ℤ, refl, arith}
use Rattle.cox_lemmas.proofs.PushedItems.{push-length}
use Rattle.cox_base.specs.declared.side.Side.{Side}
use Rattle.cox_base.specs.IntegerMatrix.{IntegerMatrix}
use Rattle.cox_base.specs.Admissible.{IsAdmissible}
use Rattle.cox_base.specs.ShortLex.{normal_form}
use Rattle.cox_base.specs.SideDescents.{times_letter, IsDescent}
use Rattle.cox_context.specs.Closed.{IsClosed}
use Rattle.cox_context.specs.Numbers.{word_at}
use Rattle.cox_row.specs.Rising.{number_at}
use Rattle.cox_row.specs.Mus.{value_at, AreMus}
use Rattle.cox_klstep.specs.declared.step.Correction.{Correction}
use Rattle.cox_klstep.specs.StepOf.{correction_at, AreNumbered}
use Rattle.cox_klstep.proofs.Filtered.{AreFiltered, half, filtered-start, filtered-skip, filtered-push, filtered-end}
use Rattle.cox_klstep.proofs.Chosen.{some-few, numbered-same}

-- so many corrections are by the neighbours before the place p
pub record AreCounted (side : Side) (A : IntegerMatrix) (members : List (List ℕ)) (s : ℕ) (w : List ℕ) (numbers : List ℕ) (p count : ℕ)
    : Type 0 where
  pub list : List Correction
  pub filtered : AreFiltered side A members s w numbers p list
  pub many : length list ≡ count

module _ (side : Side) (A : IntegerMatrix) (g : IsAdmissible A) (members : List (List ℕ)) (closed : IsClosed A members) (i lower s : ℕ)
    (inside : i < length members)
    (below : lower < length members) (descent : IsDescent side A (word_at members i) s)
    (lower_is : word_at members lower ≡ normal_form A (times_letter side s (word_at members i))) (numbers : List ℕ) (values : List ℤ)
    (mus : AreMus A members (word_at members lower) numbers values) where
  pub counted-start : AreCounted side A members s (word_at members i) numbers 0 0
  counted-start = record {
    list = [];
    filtered = filtered-start side A g members closed i lower s inside below descent lower_is numbers values mus;
    many = refl;
  }

  pub counted-skip : (p q count : ℕ) → q ≡ p + 1 → (IsDescent side A (word_at members (number_at numbers p)) s → ⊥)
      → AreCounted side A members s (word_at members i) numbers p count
      → AreCounted side A members s (word_at members i) numbers q count
  counted-skip p q count e none h = record {
    list = h.list;
    filtered = filtered-skip side A g members closed i lower s inside below descent lower_is numbers values mus p q h.list e none
        h.filtered;
    many = h.many;
  }

  pub counted-take : (p q count : ℕ) → q ≡ p + 1 → p < length numbers → IsDescent side A (word_at members (number_at numbers p)) s
      → AreCounted side A members s (word_at members i) numbers p count
      → AreCounted side A members s (word_at members i) numbers q (count + 1)
  counted-take p q count e l d h =
      let shift = half side A g members closed i lower s inside below descent lower_is numbers values mus p l
      in let next : Correction = record { number = number_at numbers p; factor = value_at values p; shift = shift.0 }
      in record {
        list = h.list ++ next ∷ [];
        filtered = filtered-push side A g members closed i lower s inside below descent lower_is numbers values mus p q h.list next e l d
            refl refl (λ k is. omega (arith, is, shift.1)) h.filtered;
        many = omega (arith, push-length h.list next, h.many);
      }

  -- all corrections are no fewer
  pub counted-few : (p count : ℕ) → p ≤ length numbers → AreCounted side A members s (word_at members i) numbers p count
      → (list : List Correction) → AreNumbered side A members s (word_at members i) list → count ≤ length list
  counted-few p count fits h list are =
      let within : (k : ℕ) → k < length h.list → (correction_at h.list k).number < length members
      = λ k l. let q = h.filtered.placed k l in rw (← q.2) (mus.within q.0 (omega (arith, q.1, fits)))
      in let few = some-few A members s (word_at members i) side h.list list h.filtered.rising within h.filtered.each are
      in omega (arith, few, h.many)

  -- when no neighbour is left
  pub counted-end : (p count : ℕ) → length numbers ≤ p → p ≤ length numbers
      → AreCounted side A members s (word_at members i) numbers p count
      → (list : List Correction) → AreNumbered side A members s (word_at members i) list → count ≡ length list
  counted-end p count all fits h list are =
      let mine = filtered-end side A g members closed i lower s inside below descent lower_is numbers values mus p h.list all
      h.filtered fits
      in let same = numbered-same A members s (word_at members i) side list h.list are mine
      in omega (arith, same, h.many)
