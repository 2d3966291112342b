-- Descents as sets: what one member has and another lacks.
use Rattle.std.proofs.Common.{◌≡◌, ◌↔◌, ℕ, ◌+◌, ◌-◌, List, inl, inr, ⊎_elim, arith}
use Rattle.cox_base.specs.declared.side.Side.{Side}
use Rattle.cox_base.specs.declared.side.Side.TheVariants as Sides
use Rattle.cox_base.specs.IntegerMatrix.{IntegerMatrix}
use Rattle.cox_base.specs.Admissible.{IsAdmissible}
use Rattle.cox_cells.specs.declared.kind.CellKind.{CellKind}
use Rattle.cox_cells.specs.declared.kind.CellKind.TheVariants.{Left, Right, Both}
use Rattle.cox_cells.specs.declared.steps.Descents.{Descents}
use Rattle.cox_cells.specs.Cells.{HasOwnDescent, HasOwn}
use Rattle.cox_cells.specs.NumberedCells.{HasBeyond, Counts, IsCountedSet, AreDescents, HasOwnLetter}
use Rattle.cox_cells.proofs.Decided.{side-letter}

module _ (A : IntegerMatrix) (g : IsAdmissible A) (kind : CellKind) (x y : List ℕ) where
  -- on one side
  own-of : (side : Side) (set other : ℕ) → IsCountedSet kind side A x set → IsCountedSet kind side A y other → HasBeyond set other
      → Counts kind side × HasOwnDescent side A x y
  own-of side set other mine theirs h =
      let d = (mine h.bit).0 h.among
      in (d.0, record { letter = h.bit + 1; descent = d.1; none = λ e. h.lacks ((theirs h.bit).1 (d.0, e)) })

  own-by : (side : Side) (set other : ℕ) → IsCountedSet kind side A x set → IsCountedSet kind side A y other → Counts kind side
      → HasOwnDescent side A x y → HasBeyond set other
  own-by side set other mine theirs counts h =
      let l = side-letter A g side x h.letter h.descent in
      let e : h.letter - 1 + 1 ≡ h.letter = omega (arith, l.from_one)
      in record {
        bit = h.letter - 1;
        among = (mine (h.letter - 1)).1 (counts, rw e h.descent);
        lacks = λ b. h.none (rw e at ((theirs (h.letter - 1)).0 b).1);
      }

-- on the sides that count
pub own-letters : (A : IntegerMatrix) → IsAdmissible A → (kind : CellKind) (x y : List ℕ) (own others : Descents)
    → AreDescents kind A x own → AreDescents kind A y others → HasOwnLetter own others ↔ HasOwn kind A x y
own-letters A g Left x y own others mine theirs = (
  λ h. ⊎_elim (λ l. (own-of A g Left x y Sides.Left own.left others.left mine.left theirs.left l).1)
      (λ r. absurd (own-of A g Left x y Sides.Right own.right others.right mine.right theirs.right r).0) h,
  λ h. inl (own-by A g Left x y Sides.Left own.left others.left mine.left theirs.left tt h),
)
own-letters A g Right x y own others mine theirs = (
  λ h. ⊎_elim (λ l. absurd (own-of A g Right x y Sides.Left own.left others.left mine.left theirs.left l).0)
      (λ r. (own-of A g Right x y Sides.Right own.right others.right mine.right theirs.right r).1) h,
  λ h. inr (own-by A g Right x y Sides.Right own.right others.right mine.right theirs.right tt h),
)
own-letters A g Both x y own others mine theirs = (
  λ h. ⊎_elim (λ l. inl (own-of A g Both x y Sides.Left own.left others.left mine.left theirs.left l).1)
      (λ r. inr (own-of A g Both x y Sides.Right own.right others.right mine.right theirs.right r).1) h,
  λ h. ⊎_elim (λ l. inl (own-by A g Both x y Sides.Left own.left others.left mine.left theirs.left tt l))
      (λ r. inr (own-by A g Both x y Sides.Right own.right others.right mine.right theirs.right tt r)) h,
)
