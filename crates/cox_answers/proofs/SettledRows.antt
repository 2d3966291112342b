-- Rows that were asked for: all that they need are held, or one of them is beyond the limits.
use Rattle.std.proofs.Common.{◌≡◌, ℕ, inl, inr, sym, ap, ◌∙◌, false, Result, Ok, Err, OnOk, IfErr}
use Rattle.std.proofs.lemmas.Bool.{false≢true}
use Rattle.cox_base.specs.IntegerMatrix.{integer_matrix}
use Rattle.cox_hecke.specs.Needs.{IsNeeded}
use Rattle.cox_context.specs.Numbers.{word_at}
use Rattle.cox_row_builder.specs.declared.fault.StepFault.{StepFault}
use Rattle.cox_rows.specs.Beyond.{NeedsBeyond}
use Rattle.cox_rows.specs.Ensured.{HoldsNeed}
use Rattle.cox_rows.specs.Holding.{Holding, HasRow}
use Rattle.cox_rows.specs.RowsFaults.{IsRowsFault}
use Rattle.cox_rows.proofs.FaultsOfRows.{fault-beyond}
use Rattle.cox_answers.specs.Faults.{is_no_memory, ran_out}
use Rattle.cox_answers.specs.Kept.{IsMadeOrBeyond}

module _ (old new : Holding) (elements : new.elements ≡ old.elements) (limit : new.limit ≡ old.limit)
    (there : (j : ℕ) → HasRow old j → HasRow new j) where
  -- it stays so where rows are added
  pub still-made : (i : ℕ) → IsMadeOrBeyond old i → IsMadeOrBeyond new i
  still-made i (inl all) = inl (rw elements (λ j within needed. there j (all j within needed)))
  still-made i (inr beyond) = inr (rw (elements, limit) beyond)

  -- it is so after the rows were asked for, unless memory ran out
  pub made-now : (i : ℕ) (made : Result Unit StepFault) → ran_out made ≡ false
      → OnOk made (HoldsNeed new (word_at old.elements.members i))
      → IfErr made (IsRowsFault old.elements old.limit (IsNeeded (integer_matrix old.elements.matrix) (word_at old.elements.members i)))
      → IsMadeOrBeyond new i
  made-now i (Ok done) some all fault = inl (rw elements (rw elements at all))
  made-now i (Err why) some all fault =
      let found = fault-beyond old.elements old.limit
      (IsNeeded (integer_matrix old.elements.matrix) (word_at old.elements.members i)) why
      (λ is. absurd (false≢true (sym some ∙ ap (λ (it : StepFault). is_no_memory it) is))) fault in
      let needs : NeedsBeyond (integer_matrix old.elements.matrix) old.limit (word_at old.elements.members i) =
      record { element = word_at old.elements.members found.0; needed = found.1.one; beyond = found.2 } in
      inr (rw (elements, limit) needs)
