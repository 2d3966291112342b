-- The normal form begins with the least left descent: nf(u) = s nf(s u); it is empty where there is no left descent.
use Rattle.std.proofs.Common.{◌↔◌, ◌≡◌, ℕ, ◌+◌, ◌<◌, List, [], ◌∷◌, length, refl, ap, sym, ⊎_elim, arith}
use Rattle.std.proofs.lemmas.Bool.{cases_order}
use Rattle.cox_base.specs.IntegerMatrix.{IntegerMatrix}
use Rattle.cox_base.specs.Admissible.{IsAdmissible}
use Rattle.cox_base.specs.Element.{SameElement}
use Rattle.cox_base.specs.ShortLex.{normal_form}
use Rattle.cox_base.specs.Descents.{IsLeftDescent}
use Rattle.cox_reflect.proofs.Elements.{same-sym, same-trans, same-cons, same-equal, same-square}
use Rattle.cox_reflect.proofs.Search.{normal_form-same, word_length-least}
use Rattle.cox_reflect.proofs.Lengths.{word_length-is, cons-word_length}
use Rattle.cox_reflect.proofs.ShortLexFirst.{IsBefore, IsBefore-cons, IsBefore-head, normal_form-comes_first, none-before_normal_form}

module _ (A : IntegerMatrix) (g : IsAdmissible A) where
  -- the first letter of the normal form is a left descent, and the rest names what is left
  first-descent : (u : List ℕ) (t : ℕ) (rest : List ℕ) → normal_form A u ≡ t ∷ rest
      → SameElement A rest (t ∷ u) × IsLeftDescent A u t
  first-descent u t rest e =
      let same : SameElement A rest (t ∷ u)
      = same-trans A g (same-sym A g (same-square A g t rest))
      (same-cons A g t (same-trans A g (same-equal A g (sym e)) (normal_form-same A g u)))
      in (same, omega (arith, word_length-least A g same, word_length-is A u, ap length e))

  -- s shortens u: then s nf(su) is a word of u, of l(u) letters
  descent-word : (u : List ℕ) (s : ℕ) → IsLeftDescent A u s
      → SameElement A (s ∷ normal_form A (s ∷ u)) u × (length (normal_form A (s ∷ u)) + 1 ≡ length (normal_form A u))
  descent-word u s d = (
    same-trans A g (same-cons A g s (normal_form-same A g (s ∷ u))) (same-square A g s u),
    omega (arith, d, cons-word_length A g s u, word_length-is A u, word_length-is A (s ∷ u)),
  )

  pub normal_form-descent : (u : List ℕ) (s : ℕ) → IsLeftDescent A u s → ((t : ℕ) → t < s → IsLeftDescent A u t → ⊥)
      → normal_form A u ≡ s ∷ normal_form A (s ∷ u)
  normal_form-descent u s d least = go (normal_form A u) refl
    where
      w : SameElement A (s ∷ normal_form A (s ∷ u)) u × (length (normal_form A (s ∷ u)) + 1 ≡ length (normal_form A u))
      w = descent-word u s d

      go : (n : List ℕ) → normal_form A u ≡ n → normal_form A u ≡ s ∷ normal_form A (s ∷ u)
      go [] e = absurd (omega (arith, w.1, ap length e))
      go (t ∷ rest) e = ⊎_elim equal (⊎_elim below above) (cases_order t s)
        where
          f : SameElement A rest (t ∷ u) × IsLeftDescent A u t
          f = first-descent u t rest e

          below : t < s → normal_form A u ≡ s ∷ normal_form A (s ∷ u)
          below l = absurd (least t l f.1)

          above : s < t → normal_form A u ≡ s ∷ normal_form A (s ∷ u)
          above l =
              let long : length (normal_form A (s ∷ u)) ≡ length rest = omega (arith, w.1, ap length e)
              in absurd (none-before_normal_form A g w.0 (rw e (IsBefore-head s t (normal_form A (s ∷ u)) rest long l)))

          equal : t ≡ s → normal_form A u ≡ s ∷ normal_form A (s ∷ u)
          equal q = ⊎_elim same before (normal_form-comes_first A g {w = rest} {u = s ∷ u} (rw q at f.0))
            where
              same : normal_form A (s ∷ u) ≡ rest → normal_form A u ≡ s ∷ normal_form A (s ∷ u)
              same r = rw (e, q, r)

              before : IsBefore (normal_form A (s ∷ u)) rest → normal_form A u ≡ s ∷ normal_form A (s ∷ u)
              before b = absurd (none-before_normal_form A g w.0 (rw (e, q) (IsBefore-cons s b)))

  pub normal_form-no_descent : (u : List ℕ) → ((s : ℕ) → IsLeftDescent A u s → ⊥) → normal_form A u ≡ []
  normal_form-no_descent u h = go (normal_form A u) refl
    where
      go : (n : List ℕ) → normal_form A u ≡ n → normal_form A u ≡ []
      go [] e = e
      go (t ∷ rest) e = absurd (h t (first-descent u t rest e).1)

  pub no_descent-normal_form : (u : List ℕ) (s : ℕ) → normal_form A u ≡ [] → IsLeftDescent A u s → ⊥
  no_descent-normal_form u s e d = omega (arith, d, word_length-is A u, ap length e)

  pub normal_form_empty : (u : List ℕ) → ((s : ℕ) → IsLeftDescent A u s → ⊥) ↔ (normal_form A u ≡ [])
  normal_form_empty u = (normal_form-no_descent u, λ e s. no_descent-normal_form u s e)
