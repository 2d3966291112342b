-- The entry for two elements: there is one at most, and whether there is one can be told.
use Rattle.std.proofs.Common.{◌≡◌, ℕ, Bool, true, false, List, ◌∷◌, ◌⊎◌, inl, inr, ℤ, pos, refl, ap, sym, ◌∙◌}
use Rattle.std.specs.Ordering.{int_eq}
use Rattle.std.proofs.lemmas.Bool.{false≢true}
use Rattle.std.proofs.lemmas.Bool.Decides.{Decides-int_eq}
use Rattle.std.proofs.lemmas.Slice.Eq.{bytes_eq-Decides}
use Rattle.std.specs.Cmp.Lexicographic.{pointwise}
use Rattle.std.specs.Prelude.{nat_eq}
use Rattle.cox_base.specs.IntegerMatrix.{IntegerMatrix}
use Rattle.cox_base.specs.Admissible.{IsAdmissible}
use Rattle.cox_base.specs.Length.{word_length}
use Rattle.cox_base.specs.Descents.{IsLeftDescent}
use Rattle.cox_rpoly.specs.InverseOperators.{shortens_left}
use Rattle.cox_hecke.proofs.Descents.{yes-nat_lt, no-nat_lt}
use Rattle.cox_wgraph.specs.Edges.{IsEdgeValue, IsJoined}
use Rattle.cox_wgraph.proofs.EdgeValues.{edge-exists, edge-unique}
use Rattle.cox_module.specs.declared.term.Entry.{Entry}
use Rattle.cox_module.specs.declared.term.Entry.TheVariants.{Minus, Square, Half}
use Rattle.cox_module.specs.Images.{IsEntry}

module _ (A : IntegerMatrix) (s : ℕ) (x y : List ℕ) (other : x ≡ y → ⊥) where
  -- where s is no left descent of x: it is none of y, or the two are not joined
  pub no_entry-apart : (IsLeftDescent A y s → IsJoined A x y → ⊥) → (e : Entry) → IsEntry A s x y e → ⊥
  no_entry-apart apart Minus is = other is.0
  no_entry-apart apart Square is = other is.0
  no_entry-apart apart (Half m) is = apart is.1 (m, is.2)

  pub no_entry-falling : IsLeftDescent A x s → (e : Entry) → IsEntry A s x y e → ⊥
  no_entry-falling falls Minus is = other is.0
  no_entry-falling falls Square is = other is.0
  no_entry-falling falls (Half m) is = is.0 falls

module _ (A : IntegerMatrix) (g : IsAdmissible A) (s : ℕ) (x y : List ℕ) where
  pub entry-unique : (e f : Entry) → IsEntry A s x y e → IsEntry A s x y f → e ≡ f
  entry-unique Minus Minus is other = refl
  entry-unique Minus Square is other = absurd (other.1 is.1)
  entry-unique Minus (Half m) is other = absurd (other.0 is.1)
  entry-unique Square Minus is other = absurd (is.1 other.1)
  entry-unique Square Square is other = refl
  entry-unique Square (Half m) is other = absurd (is.1 (rw is.0 other.1))
  entry-unique (Half m) Minus is other = absurd (is.0 other.1)
  entry-unique (Half m) Square is other = absurd (other.1 (rw other.0 is.1))
  entry-unique (Half m) (Half n) is other = ap Half (edge-unique A g x y m n is.2.value other.2.value)

  descent_or_not : (w : List ℕ) → IsLeftDescent A w s ⊎ (IsLeftDescent A w s → ⊥)
  descent_or_not w = go (shortens_left A s w) refl
    where
      go : (b : Bool) → shortens_left A s w ≡ b → IsLeftDescent A w s ⊎ (IsLeftDescent A w s → ⊥)
      go true e = inl (yes-nat_lt (word_length A (s ∷ w)) (word_length A w) e)
      go false e = inr (no-nat_lt (word_length A (s ∷ w)) (word_length A w) e)

  equal_or_not : (x ≡ y) ⊎ (x ≡ y → ⊥)
  equal_or_not = go (pointwise nat_eq x y) refl
    where
      go : (b : Bool) → pointwise nat_eq x y ≡ b → (x ≡ y) ⊎ (x ≡ y → ⊥)
      go true e = inl ((bytes_eq-Decides x y).0 e)
      go false e = inr (λ same. false≢true (sym e ∙ (bytes_eq-Decides x y).1 same))

  joined_or_not : IsJoined A x y ⊎ (IsJoined A x y → ⊥)
  joined_or_not = go (edge-exists A g x y)
    where
      go : (m : ℤ) × IsEdgeValue A x y m → IsJoined A x y ⊎ (IsJoined A x y → ⊥)
      go (m, is) = test (int_eq m (pos 0)) refl
        where
          test : (b : Bool) → int_eq m (pos 0) ≡ b → IsJoined A x y ⊎ (IsJoined A x y → ⊥)
          test true e = inr (λ j. j.1.some (edge-unique A g x y j.0 m j.1.value is ∙ (Decides-int_eq m (pos 0)).0 e))
          test false e = inl (m, record { value = is; some = λ z. false≢true (sym e ∙ (Decides-int_eq m (pos 0)).1 z) })

  pub entry_or_not : ((e : Entry) × IsEntry A s x y e) ⊎ ((e : Entry) → IsEntry A s x y e → ⊥)
  entry_or_not = go equal_or_not (descent_or_not x) (descent_or_not y) joined_or_not
    where
      go : (x ≡ y) ⊎ (x ≡ y → ⊥) → IsLeftDescent A x s ⊎ (IsLeftDescent A x s → ⊥) → IsLeftDescent A y s ⊎ (IsLeftDescent A y s → ⊥)
          → IsJoined A x y ⊎ (IsJoined A x y → ⊥)
          → ((e : Entry) × IsEntry A s x y e) ⊎ ((e : Entry) → IsEntry A s x y e → ⊥)
      go (inl same) (inl falls) d j = inl (Minus, (same, falls))
      go (inl same) (inr rises) d j = inl (Square, (same, rises))
      go (inr other) (inl falls) d j = inr (no_entry-falling A s x y other falls)
      go (inr other) (inr rises) (inr not) j = inr (no_entry-apart A s x y other (λ d _. not d))
      go (inr other) (inr rises) (inl d) (inr not) = inr (no_entry-apart A s x y other (λ _ j. not j))
      go (inr other) (inr rises) (inl d) (inl (m, edge)) = inl (Half m, (rises, d, edge))
