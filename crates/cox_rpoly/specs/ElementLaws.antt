-- Elements told by heights, or by normal forms: what the test of equality tells, and that their words have the same descents.
use Rattle.std.specs.Prelude.{◌≡◌, ℕ, true, List, nat_eq, ℤ}
use Rattle.std.proofs.Common.{ap, sym, ◌∙◌}
use Rattle.std.specs.Ordering.{int_eq}
use Rattle.std.specs.Cmp.Rules.{signed_items}
use Rattle.std.specs.Cmp.Lexicographic.{bytes_decides}
use lib.Pointwise.{pointwise}
use Rattle.arrayvec.specs.ArrayVec.{ArrayVec}
use Rattle.cox_base.specs.IntegerMatrix.{IntegerMatrix}
use Rattle.cox_base.specs.Admissible.{IsAdmissible}
use Rattle.cox_base.specs.Descents.{IsLeftDescent}
use Rattle.cox_reflect.specs.declared.heights.Heights.{Heights}
use Rattle.cox_reflect.proofs.HeightsUnderLetters.{descent_from_heights, heights_at_descent}
use Rattle.cox_reflect.proofs.Roots.{left_descent-letter}
use Rattle.cox_reflect.proofs.Elements.{same-trans, same-sym, same-equal, same-cons}
use Rattle.cox_reflect.proofs.Search.{normal_form-same, word_length-equal}
use Rattle.cox_rpoly.specs.ElementValues.{is_of_heights, is_of_form}

pub same_heights : (x y : Heights) → pointwise int_eq x.values y.values ≡ true → x ≡ y
same_heights x y t =
    let e = (signed_items x.values y.values).0 t
    in ap (λ (values : List ℤ). let h : Heights = record { values = values } in h) e

pub same_descents_by_heights : (A : IntegerMatrix) → IsAdmissible A → (u v : List ℕ) (x : Heights) → is_of_heights A u x
    → is_of_heights A v x
    → (t : ℕ) → IsLeftDescent A u t → IsLeftDescent A v t
same_descents_by_heights A g u v x a b t d =
    descent_from_heights A g v x.values t b (left_descent-letter A g u t d) (heights_at_descent A g u x.values t a d)

pub same_form : (x y : ArrayVec ℕ) → pointwise nat_eq x.items y.items ≡ true → x ≡ y
same_form x y t = ap (λ (xs : List ℕ). let w : ArrayVec ℕ = record { items = xs } in w) ((bytes_decides x.items y.items).0 t)

pub same_descents_by_form : (A : IntegerMatrix) → IsAdmissible A → (u v : List ℕ) (x : ArrayVec ℕ) → is_of_form A u x → is_of_form A v x
    → (t : ℕ) → IsLeftDescent A u t → IsLeftDescent A v t
same_descents_by_form A g u v x a b t d =
    let same = same-trans A g (same-sym A g (normal_form-same A g u)) (same-trans A g (same-equal A g (sym a ∙ b)) (normal_form-same A g v))
    in rw (← word_length-equal A g (same-cons A g t same), ← word_length-equal A g same) d
