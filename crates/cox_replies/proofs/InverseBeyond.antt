-- Whether some polynomial between two elements is too large can be told: there is a list of the elements between them, and only degrees
-- up to the length count.
use Rattle.std.proofs.Common.{◌≡◌, ℕ, suc, List, ◌⊎◌, inl, inr, ⊎_elim, ℤ, pos, sym, ◌∙◌, refl, arith, ap}
use Rattle.std.specs.Prelude.{unsigned_abs, ◌<ℤ◌, ◌≤ℤ◌}
use Rattle.std.proofs.lemmas.Int.{ints, clamps}
use Rattle.cox_base.specs.IntegerMatrix.{IntegerMatrix}
use Rattle.cox_base.specs.Admissible.{IsAdmissible}
use Rattle.cox_base.specs.Element.{SameElement}
use Rattle.cox_base.specs.Length.{word_length}
use Rattle.cox_base.specs.Bruhat.{IsBelow}
use Rattle.cox_reflect.proofs.Elements.{same-refl}
use Rattle.cox_reflect.proofs.Bruhat.{below-same, below-trans}
use Rattle.cox_poly.specs.Coefficients.{Coefficients}
use Rattle.cox_poly.proofs.Limits.{tell-above}
use Rattle.cox_hecke.specs.ListedElements.{LiesBetween, occurrences}
use Rattle.cox_hecke.proofs.ElementLists.{below_or_not, between_list}
use Rattle.cox_row_builder.specs.Limits.{IsLargeCoefficient}
use Rattle.cox_row_builder.proofs.LargeCoefficients.{large-words}
use Rattle.cox_rows.specs.Beyond.{NeedsBeyond}
use Rattle.cox_rows.proofs.BeyondDecided.{tell-listed, tell-coefficient}
use Rattle.cox_rows.proofs.NeedDecided.{tell-needs_beyond, needs_beyond-same}
use Rattle.cox_inverse.specs.declared.fault.TheConstants.{MAX_COEFFICIENT}
use Rattle.cox_inverse.specs.InverseFaults.{IsLargeInverse}
use Rattle.cox_inverse.proofs.InverseRowExists.{inverse_of, inverse_of-is}
use Rattle.cox_inverse.proofs.InversePolynomials.{inverse-value}
use Rattle.cox_inverse.proofs.LastInverses.{large_inverse-words}
use Rattle.cox_replies.specs.InverseReply.{inverse_limit, IsInverseBeyond, row, polynomial, inverse}
use Rattle.cox_replies.proofs.InverseTexts.{inverse_of-high}
use Rattle.cox_replies.proofs.RowQuestions.{both-decided}

-- by what P(x,z) and Q(x,w) are
module _ (A : IntegerMatrix) (limit : ℕ) (y w : List ℕ) where
  pub polynomial-large : (x z : List ℕ) (k : ℕ) (c : ℤ) → IsBelow A y x → IsBelow A x z → IsBelow A z w
      → IsLargeCoefficient A MAX_COEFFICIENT x z k c → IsInverseBeyond A limit y w
  polynomial-large x z k c above order below large =
      let value : large.is.row x k ≡ c = sym (large.is.at k) ∙ large.value in
      polynomial {p = large.is.row} x z k above order below large.is.is (rw value large.above)

  pub inverse-large : (x : List ℕ) (k : ℕ) (c : ℤ) → IsBelow A y x → IsBelow A x w → IsLargeInverse A (inverse_limit (pos limit)) x w k c
      → IsInverseBeyond A limit y w
  inverse-large x k c above below large =
      let value : large.is.row x k ≡ c = sym (large.is.at k) ∙ large.value in
      inverse {q = large.is.row} x k above below large.is.is (rw value large.above)

  pub by-large : {C : Type 0} → ((z : List ℕ) → LiesBetween A y w z → NeedsBeyond A (pos limit) z → C)
      → ((x z : List ℕ) (k : ℕ) (c : ℤ) → IsBelow A y x → IsBelow A x z → IsBelow A z w
      → IsLargeCoefficient A MAX_COEFFICIENT x z k c → C)
      → ((x : List ℕ) (k : ℕ) (c : ℤ) → IsBelow A y x → IsBelow A x w → IsLargeInverse A (inverse_limit (pos limit)) x w k c → C)
      → IsInverseBeyond A limit y w → C
  by-large rows polynomials inverses (row {z} above below beyond) = rows z (record { above = above; below = below }) beyond
  by-large rows polynomials inverses (polynomial {p} x z k above order below is large) = polynomials x z k (p x k) above order below
      (record { polynomial = p x; is = record { row = p; is = is; at = λ j. refl }; value = refl; above = large })
  by-large rows polynomials inverses (inverse {q} x k above below is large) = inverses x k (q x k) above below
      (record { polynomial = q x; is = record { row = q; is = is; at = λ j. refl }; value = refl; above = large })

module _ (A : IntegerMatrix) (g : IsAdmissible A) where
  -- a property of elements that can be told: some element between y and w has it, or none
  tell-between : (P : List ℕ → Type 0) → ((x z : List ℕ) → SameElement A x z → P x → P z) → ((x : List ℕ) → P x ⊎ (P x → ⊥))
      → (y w : List ℕ) → ((x : List ℕ) × LiesBetween A y w x × P x) ⊎ ((x : List ℕ) → LiesBetween A y w x → P x → ⊥)
  tell-between P same tell y w =
      let list = between_list A g y w in ⊎_elim
      (λ (found : (x : List ℕ) × (LiesBetween A y w x × P x)). inl (found.0, found.1.0, found.1.1))
      (λ (none : (x : List ℕ) → occurrences A x list.0 ≡ 1 → LiesBetween A y w x × P x → ⊥). inr (λ x between p. ⊎_elim
      (λ (yes : (occurrences A x list.0 ≡ 1) × LiesBetween A y w x). none x yes.0 (between, p))
      (λ (no : (occurrences A x list.0 ≡ 0) × (LiesBetween A y w x → ⊥)). no.1 between)
      (list.1 x)))
      (tell-listed A g (λ x. LiesBetween A y w x × P x)
      (λ x z e p. (
        record { above = below-same A g (same-refl A g y) e p.0.above; below = below-same A g e (same-refl A g w) p.0.below },
        same x z e p.1,
      ))
      (λ x. both-decided (lies-decided x) (tell x)) list.0)
    where
      lies-decided : (x : List ℕ) → LiesBetween A y w x ⊎ (LiesBetween A y w x → ⊥)
      lies-decided x = ⊎_elim
          (λ (above : IsBelow A y x). ⊎_elim
          (λ (below : IsBelow A x w). inl (record { above = above; below = below }))
          (λ (none : IsBelow A x w → ⊥). inr (λ between. none between.below))
          (below_or_not A g x w))
          (λ (none : IsBelow A y x → ⊥). inr (λ between. none between.above))
          (below_or_not A g y x)

  -- ---- one polynomial

  -- P(x,z) has a coefficient above the limit
  abbrev HasLarge : ℤ → List ℕ → List ℕ → Type 0
  HasLarge limit x z = (k : ℕ) × (c : ℤ) × IsLargeCoefficient A limit x z k c

  tell-polynomial : (limit : ℤ) → pos 0 ≤ℤ limit → (x z : List ℕ) → HasLarge limit x z ⊎ (HasLarge limit x z → ⊥)
  tell-polynomial limit least x z = ⊎_elim (λ large. inl large)
      (λ (none : (k : ℕ) (c : ℤ) → IsLargeCoefficient A limit x z k c → ⊥). inr (λ large. none large.0 large.1 large.2))
      (tell-coefficient A g limit least z x)

  large-same : (limit : ℤ) (x y v w : List ℕ) → SameElement A x y → SameElement A v w → HasLarge limit x v → HasLarge limit y w
  large-same limit x y v w e f (k, c, h) = (k, c, large-words A g limit x y v w e f k c h)

  -- Q(x,w) has a coefficient above the limit
  abbrev HasLargeInverse : ℤ → List ℕ → List ℕ → Type 0
  HasLargeInverse limit w x = (k : ℕ) × (c : ℤ) × IsLargeInverse A limit x w k c

  tell-inverse : (limit : ℤ) → pos 0 ≤ℤ limit → (w x : List ℕ) → HasLargeInverse limit w x ⊎ (HasLargeInverse limit w x → ⊥)
  tell-inverse limit least w x = ⊎_elim
      (λ (found : (k : ℕ) × (limit <ℤ pos (unsigned_abs (inverse_of A g w x k)))). inl (
        found.0,
        inverse_of A g w x found.0,
        record {
          polynomial = inverse_of A g w x;
          is = record { row = inverse_of A g w; is = inverse_of-is A g w; at = λ k. refl };
          value = refl;
          above = found.1;
        },
      ))
      (λ (none : (k : ℕ) → limit <ℤ pos (unsigned_abs (inverse_of A g w x k)) → ⊥). inr (λ large.
      let e : inverse_of A g w x large.0 ≡ large.1
      = ap (λ (f : Coefficients). f large.0) (sym (inverse-value A g x w large.2.polynomial large.2.is)) ∙ large.2.value
      in none large.0 (rw e large.2.above)))
      (tell-above limit least (inverse_of A g w x) (suc (word_length A w))
      (λ k high. inverse_of-high A g w x k (omega (arith, high)) (omega (arith, high))))

  inverse-words : (limit : ℤ) (w x y : List ℕ) → SameElement A x y → HasLargeInverse limit w x → HasLargeInverse limit w y
  inverse-words limit w x y e (k, c, h) = (k, c, large_inverse-words A g limit x y w w e (same-refl A g w) k c h)

  -- ---- all polynomials between two elements

  -- some P(x,z) with y ≤ x ≤ z has a coefficient above the limit
  abbrev HasLargeRow : ℤ → List ℕ → List ℕ → Type 0
  HasLargeRow limit y z = (x : List ℕ) × LiesBetween A y z x × HasLarge limit x z

  tell-row : (limit : ℤ) → pos 0 ≤ℤ limit → (y z : List ℕ) → HasLargeRow limit y z ⊎ (HasLargeRow limit y z → ⊥)
  tell-row limit least y z = ⊎_elim (λ found. inl found)
      (λ (none : (x : List ℕ) → LiesBetween A y z x → HasLarge limit x z → ⊥). inr (λ large. none large.0 large.1 large.2))
      (tell-between (λ x. HasLarge limit x z) (λ x v e h. large-same limit x v z z e (same-refl A g z) h)
      (λ x. tell-polynomial limit least x z) y z)

  row-words : (limit : ℤ) (y v w : List ℕ) → SameElement A v w → HasLargeRow limit y v → HasLargeRow limit y w
  row-words limit y v w e (x, between, large) = (
    x,
    record { above = between.above; below = below-same A g (same-refl A g x) e between.below },
    large-same limit x x v w (same-refl A g x) e large,
  )

  largest-least : (limit : ℕ) → pos 0 ≤ℤ inverse_limit (pos limit)
  largest-least limit = omega (arith, ints, clamps)

  pub tell-inverse_beyond : (limit : ℕ) (y w : List ℕ) → IsInverseBeyond A limit y w ⊎ (IsInverseBeyond A limit y w → ⊥)
  tell-inverse_beyond limit y w = ⊎_elim
      (λ (found : (z : List ℕ) × LiesBetween A y w z × NeedsBeyond A (pos limit) z). inl (row found.1.above found.1.below found.2))
      (λ (no_row : (z : List ℕ) → LiesBetween A y w z → NeedsBeyond A (pos limit) z → ⊥). ⊎_elim
      (λ (found : (z : List ℕ) × LiesBetween A y w z × HasLargeRow MAX_COEFFICIENT y z).
      let large = found.2 in
      inl (polynomial-large A limit y w large.0 found.0 large.2.0 large.2.1 large.1.above large.1.below found.1.below large.2.2))
      (λ (no_polynomial : (z : List ℕ) → LiesBetween A y w z → HasLargeRow MAX_COEFFICIENT y z → ⊥). ⊎_elim
      (λ (found : (x : List ℕ) × LiesBetween A y w x × HasLargeInverse (inverse_limit (pos limit)) w x).
      inl (inverse-large A limit y w found.0 found.2.0 found.2.1 found.1.above found.1.below found.2.2))
      (λ (no_inverse : (x : List ℕ) → LiesBetween A y w x → HasLargeInverse (inverse_limit (pos limit)) w x → ⊥).
      inr (by-large A limit y w no_row
      (λ x z k c above order below large. no_polynomial z (record { above = below-trans A g above order; below = below })
      (x, record { above = above; below = order }, (k, c, large)))
      (λ x k c above below large. no_inverse x (record { above = above; below = below }) (k, c, large))))
      (tell-between (HasLargeInverse (inverse_limit (pos limit)) w) (inverse-words (inverse_limit (pos limit)) w)
      (tell-inverse (inverse_limit (pos limit)) (largest-least limit) w) y w))
      (tell-between (HasLargeRow MAX_COEFFICIENT y) (row-words MAX_COEFFICIENT y) (tell-row MAX_COEFFICIENT (omega (arith, ints)) y) y w))
      (tell-between (NeedsBeyond A (pos limit)) (needs_beyond-same A g (pos limit) (omega (arith, ints)))
      (tell-needs_beyond A g (pos limit) (omega (arith, ints))) y w)
