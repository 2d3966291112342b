-- Whether a list of words names an element, and where.
use Rattle.std.proofs.Common.{◌≡◌, ℕ, zero, suc, ◌<◌, Bool, true, false, List, [], ◌∷◌, length, ◌⊎◌, inl, inr, ⊎_elim, refl, sym, ◌∙◌}
use Rattle.std.proofs.Common.{arith}
use Rattle.std.proofs.lemmas.Bool.{false≢true}
use Rattle.cox_base.specs.IntegerMatrix.{IntegerMatrix}
use Rattle.cox_base.specs.Admissible.{IsAdmissible}
use Rattle.cox_base.specs.Element.{SameElement}
use Rattle.cox_hecke.specs.ListedElements.{is_same, occurrences}
use Rattle.cox_hecke.proofs.ListSums.{is_same-same, same-is_same, occurrences-absent}
use Rattle.cox_context.specs.Numbers.{word_at}

-- a place of the list names y
pub record StandsIn (A : IntegerMatrix) (words : List (List ℕ)) (y : List ℕ) : Type 0 where
  pub place : ℕ
  pub within : place < length words
  pub same : SameElement A y (word_at words place)

module _ (A : IntegerMatrix) (g : IsAdmissible A) where
  pub standing_or_not : (words : List (List ℕ)) (y : List ℕ)
      → StandsIn A words y ⊎ ((i : ℕ) → i < length words → SameElement A y (word_at words i) → ⊥)
  standing_or_not [] y = inr (λ i l e. omega (arith, l))
  standing_or_not (w ∷ words) y = go (is_same A y w) refl (standing_or_not words y)
    where
      later : is_same A y w ≡ false → ((i : ℕ) → i < length words → SameElement A y (word_at words i) → ⊥)
          → (i : ℕ) → i < length (w ∷ words) → SameElement A y (word_at (w ∷ words) i) → ⊥
      later e none zero l same = false≢true (sym e ∙ same-is_same A g same)
      later e none (suc i) l same = none i (omega (arith, l)) same

      go : (b : Bool) → is_same A y w ≡ b
          → StandsIn A words y ⊎ ((i : ℕ) → i < length words → SameElement A y (word_at words i) → ⊥)
          → StandsIn A (w ∷ words) y ⊎ ((i : ℕ) → i < length (w ∷ words) → SameElement A y (word_at (w ∷ words) i) → ⊥)
      go true e rest = inl (record { place = 0; within = omega arith; same = is_same-same A g y w e })
      go false e (inl found) = inl (record { place = suc found.place; within = omega (arith, found.within); same = found.same })
      go false e (inr none) = inr (later e none)

  -- what the list names stands in it
  pub named-standing : (words : List (List ℕ)) (y : List ℕ) → (occurrences A y words ≡ 0 → ⊥) → StandsIn A words y
  named-standing words y some =
      ⊎_elim (λ p. p) (λ none. absurd (some (occurrences-absent A g words y none))) (standing_or_not words y)
