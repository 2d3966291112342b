-- Which letter of a word goes where s shortens it: the letter q before a part of the word that takes e(s) to e(q).
use Rattle.std.proofs.Common.{◌≡◌, ℕ, List, [], ◌∷◌, ◌++◌}
use Rattle.std.proofs.lemmas.List.{append_assoc}
use Rattle.cox_base.specs.Matrix.{IsLetter}
use Rattle.cox_base.specs.IntegerMatrix.{IntegerMatrix}
use Rattle.cox_base.specs.Admissible.{IsAdmissible}
use Rattle.cox_base.specs.Element.{SameElement}
use Rattle.cox_reflect.specs.Action.{simple_root}
use Rattle.cox_reflect.specs.WordAction.{act}
use Rattle.cox_reflect.proofs.Elements.{same-refl, same-trans, same-cons, same-append, same-square}
use Rattle.cox_reflect.proofs.Exchange.{equal_roots}

module _ (A : IntegerMatrix) (g : IsAdmissible A) where
  -- b e(s) = e(q): then a q b s is a b
  pub right_letter_goes : (a b : List ℕ) (q s : ℕ) → IsLetter A.rank q → IsLetter A.rank s
      → act A b (simple_root s) ≡ simple_root q → SameElement A ((a ++ q ∷ b) ++ s ∷ []) (a ++ b)
  right_letter_goes a b q s lq ls e =
      rw (append_assoc a (q ∷ b) (s ∷ []))
      (same-append A g (same-refl A g a) (same-trans A g (same-cons A g q (equal_roots A g b s q ls lq e)) (same-square A g q b)))
