-- The law of families: where each Published row was given its step family, each family given is the row of its element.
use Rattle.std.proofs.Common.{◌≡◌, ⊎_elim, ℕ, zero, suc, ◌<◌, List, [], ◌∷◌, sym, subst, arith}
use Rattle.cox_base.specs.declared.side.Side.TheVariants.{Left}
use Rattle.cox_base.specs.IntegerMatrix.{IntegerMatrix, integer_matrix}
use Rattle.cox_base.specs.Admissible.{IsAdmissible}
use Rattle.cox_hecke.specs.Family.{Family}
use Rattle.cox_hecke.specs.Row.{IsRow}
use Rattle.cox_hecke.proofs.OneRow.{row-same}
use Rattle.cox_hecke.proofs.StepFamilies.{step_family-is}
use Rattle.cox_context.specs.Closed.{Elements}
use Rattle.cox_context.specs.Numbers.{word_at}
use Rattle.cox_fill_core.specs.declared.event.RowState.{RowState}
use Rattle.cox_fill_core.specs.declared.event.Event.{Event}
use Rattle.cox_fill_core.specs.Good.{IsGood}
use Rattle.cox_fill_core.specs.Laws.{reached}
use Rattle.cox_fill_core.proofs.EventLaws.{stays_good}
use Rattle.cox_workers.specs.Families.{NeedsSmaller, IsGivenByStep, IsFamilyGiven, GivesRows}

module _ (needs : ℕ → List ℕ) (smaller : NeedsSmaller needs) (e : Elements) (g : IsAdmissible (integer_matrix e.matrix))
    (events : List Event)
    (given : ℕ → Family) (are : (i : ℕ) → (reached needs events).state i ≡ RowState.Published → IsFamilyGiven e needs given i)
  where
    abbrev A : IntegerMatrix
    A = integer_matrix e.matrix

    good : IsGood needs (reached needs events)
    good = stays_good needs events

    -- the step, where the families given to all rows with smaller numbers are rows
    by_step : (i : ℕ) → (reached needs events).state i ≡ RowState.Published
        → ((j : ℕ) → j < i → (reached needs events).state j ≡ RowState.Published → IsRow A (word_at e.members j) (given j))
        → IsGivenByStep e needs given i → IsRow A (word_at e.members i) (given i)
    by_step i there before r = step_family-is A g Left (word_at e.members i) r.letter (given i) r.least.descent (record {
      row = given r.lower;
      is_row = row-same A g (word_at e.members r.lower) (r.letter ∷ word_at e.members i) (given r.lower) r.lower_is
          (before r.lower (smaller i r.lower r.lower_needed) (good.needed i r.lower there r.lower_needed));
      list = r.list;
      corrections = r.corrections;
      rows = λ u. given (r.number u);
      are_rows = λ k d l.
          let needed = r.numbers_needed k d l
          in row-same A g _ _ _ (r.numbers_are k d l) (before _ (smaller i _ needed) (good.needed i _ there needed));
      value = r.value;
    })

    rows_below : (n i : ℕ) → i < n → (reached needs events).state i ≡ RowState.Published → IsRow A (word_at e.members i) (given i)
    rows_below zero i l there = absurd (omega (arith, l))
    rows_below (suc n) i l there = ⊎_elim
        (λ (identity : (word_at e.members i ≡ []) × IsRow A [] (given i)). subst (λ w. IsRow A w (given i)) (sym identity.0) identity.1)
        (λ (r : IsGivenByStep e needs given i). by_step i there (λ j less. rows_below n j (omega (arith, less, l))) r)
        (are i there)

    pub rows_given : (i : ℕ) → (reached needs events).state i ≡ RowState.Published → IsRow A (word_at e.members i) (given i)
    rows_given i = rows_below (suc i) i (omega arith)

pub families : (needs : ℕ → List ℕ) → NeedsSmaller needs → GivesRows needs
families needs smaller e g events given are = rows_given needs smaller e g events given are
