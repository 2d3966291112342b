-- Step families: by any descent, on either side, there is one, and it is the row.
use Rattle.std.proofs.Common.{◌≡◌, ℕ, List, sym, subst, refl, ◌∙◌}
use Rattle.std.specs.Prelude.{All}
use Rattle.cox_base.specs.declared.side.Side.{Side}
use Rattle.cox_base.specs.declared.side.Side.TheVariants.{Left, Right}
use Rattle.cox_base.specs.IntegerMatrix.{IntegerMatrix}
use Rattle.cox_base.specs.Admissible.{IsAdmissible}
use Rattle.cox_poly.specs.Multiples.{minus}
use Rattle.cox_hecke.specs.Family.{Family}
use Rattle.cox_hecke.specs.Row.{IsRow}
use Rattle.cox_base.specs.SideDescents.{times_letter, IsDescent}
use Rattle.cox_hecke.specs.StepFamily.{step, Correction, AreCorrections, correction_sum, IsStepFamily}
use Rattle.cox_hecke.proofs.AllRows.{row_of, row_of-is}
use Rattle.cox_hecke.proofs.LeftSteps.{left-recursion, left-corrections_exist}
use Rattle.cox_hecke.proofs.RightSteps.{right-recursion, right-corrections_exist}
use Rattle.cox_hecke.proofs.Descended.{All-from}

module _ (A : IntegerMatrix) (g : IsAdmissible A) where
  pub recursion : (side : Side) (w : List ℕ) (s : ℕ) → IsDescent side A w s → (p : Family) → IsRow A (times_letter side s w) p
      → (list : List Correction) → AreCorrections side A s (times_letter side s w) list → (rows : List ℕ → Family)
      → All (λ c. IsRow A c.element (rows c.element)) list → (r : Family) → IsRow A w r
      → (x : List ℕ) (k : ℕ) → r x k ≡ minus (step side A s p x) (correction_sum A w rows list x) k
  recursion Left w s d p row list are rows are_rows r is = left-recursion A g w s d p row list are rows are_rows r is
  recursion Right w s d p row list are rows are_rows r is = right-recursion A g w s d p row list are rows are_rows r is

  pub corrections_exist : (side : Side) (w : List ℕ) (s : ℕ) → IsDescent side A w s
      → (list : List Correction) × AreCorrections side A s (times_letter side s w) list
  corrections_exist Left w s d = left-corrections_exist A g w s d (row_of A g (times_letter Left s w))
      (row_of-is A g (times_letter Left s w))
  corrections_exist Right w s d = right-corrections_exist A g w s d

  pub step_family-is : (side : Side) (w : List ℕ) (s : ℕ) (f : Family) → IsDescent side A w s → IsStepFamily side A s w f → IsRow A w f
  step_family-is side w s f d c =
      subst (λ (h : Family). IsRow A w h)
      (λ i x k. (recursion side w s d c.row c.is_row c.list c.corrections c.rows c.are_rows (row_of A g w) (row_of-is A g w) x k
      ∙ sym (c.value x k)) i)
      (row_of-is A g w)

  pub step_family-exists : (side : Side) (w : List ℕ) (s : ℕ) → IsDescent side A w s → (f : Family) × IsStepFamily side A s w f
  step_family-exists side w s d =
      let list = corrections_exist side w s d
      in (
        λ x. minus (step side A s (row_of A g (times_letter side s w)) x) (correction_sum A w (row_of A g) list.0 x),
        record {
          row = row_of A g (times_letter side s w);
          is_row = row_of-is A g (times_letter side s w);
          list = list.0;
          corrections = list.1;
          rows = row_of A g;
          are_rows = All-from (λ c. IsRow A c.element (row_of A g c.element)) (λ c. row_of-is A g c.element) list.0;
          value = λ x k. refl;
        },
      )
