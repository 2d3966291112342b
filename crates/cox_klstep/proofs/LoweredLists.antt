-- Where a step leads from members, one member more.
use Rattle.std.proofs.Common.{◌≡◌, ℕ, ◌<◌, List, [], ◌∷◌, ◌++◌, length, Some, refl, ⊎_elim, arith}
use Rattle.cox_lemmas.proofs.PushedItems.{push-length, push-old, push-new, push_cases}
use Rattle.cox_base.specs.declared.side.Side.{Side}
use Rattle.cox_base.specs.IntegerMatrix.{integer_matrix}
use Rattle.cox_base.specs.ShortLex.{normal_form}
use Rattle.cox_base.specs.SideDescents.{times_letter}
use Rattle.cox_context.specs.Closed.{Elements}
use Rattle.cox_context.specs.Numbers.{word_at}
use Rattle.cox_context.specs.Numbering.{IsNumberOf}
use Rattle.cox_klstep.specs.LoweredTo.{AreLowered}

module _ (e : Elements) (side : Side) (letter : ℕ) where
  pub lowered-none : AreLowered e side letter [] []
  lowered-none = record { size = refl; each = λ k l. absurd (omega (arith, l)) }

  pub lowered-push : (numbers shorter : List ℕ) (x y : ℕ) → AreLowered e side letter numbers shorter
      → IsNumberOf e.members (normal_form (integer_matrix e.matrix) (times_letter side letter (word_at e.members x))) (Some y)
      → AreLowered e side letter (numbers ++ x ∷ []) (shorter ++ y ∷ [])
  lowered-push numbers shorter x y h is = record {
    size = omega (arith, h.size, push-length numbers x, push-length shorter y);
    each = λ k l. ⊎_elim
        (λ (old : k < length numbers). rw (push-old numbers x 0 k old, push-old shorter y 0 k (omega (arith, old, h.size))) (h.each k old))
        (λ (last : k ≡ length numbers). rw (push-new numbers x 0 k last, push-new shorter y 0 k (omega (arith, last, h.size))) is)
        (push_cases numbers x k l);
  }
