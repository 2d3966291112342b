-- Whether the row of w is beyond the limits can be told: only the x ≤ w count, of which there is a list, and only degrees up to the length.
use Rattle.std.proofs.Common.{◌≡◌, ℕ, suc, List, [], ◌∷◌, ℤ, pos, ◌⊎◌, inl, inr, ⊎_elim, sym, ◌∙◌, refl}
use Rattle.std.proofs.Common.{arith}
use Rattle.std.specs.Prelude.{unsigned_abs, ◌<ℤ◌, ◌≤ℤ◌}
use Rattle.std.proofs.lemmas.Int.{ints, by_lt_z}
use Rattle.cox_base.specs.IntegerMatrix.{IntegerMatrix}
use Rattle.cox_base.specs.Admissible.{IsAdmissible}
use Rattle.cox_base.specs.Element.{SameElement}
use Rattle.cox_base.specs.Length.{word_length}
use Rattle.cox_base.specs.Bruhat.{IsBelow}
use Rattle.cox_reflect.proofs.Elements.{same-refl}
use Rattle.cox_poly.proofs.Limits.{within-not_above, tell-above}
use Rattle.cox_hecke.specs.ListedElements.{occurrences}
use Rattle.cox_hecke.proofs.ListSums.{same_or_not, not_same-is_same}
use Rattle.cox_hecke.proofs.ElementLists.{below_or_not, below_list}
use Rattle.cox_hecke.proofs.AllRows.{mu-exists, mu-unique}
use Rattle.cox_hecke.proofs.Descended.{mu-below}
use Rattle.cox_hecke.proofs.PolynomialValues.{kl_polynomial, kl_polynomial-is, kl_polynomial-low, kazhdan_lusztig-unique}
use Rattle.cox_row.proofs.MuOfElements.{mu-words}
use Rattle.cox_row.specs.declared.row.TheConstants.{MU_LIMIT}
use Rattle.cox_row_builder.specs.Limits.{IsLargeCoefficient, IsLargeMu}
use Rattle.cox_row_builder.proofs.LargeCoefficients.{outside-none, large-words}
use Rattle.cox_rows.specs.Beyond.{IsBeyond}
use Rattle.cox_rows.proofs.LargeRows.{coefficient-beyond, mu-beyond, beyond-cases}

-- a property that can be told of each element, and that depends on the element alone: some word of a list has it, or none of the elements
-- that it names
module _ (A : IntegerMatrix) (g : IsAdmissible A) (P : List ℕ → Type 0) (same : (x y : List ℕ) → SameElement A x y → P x → P y)
    (tell : (x : List ℕ) → P x ⊎ (P x → ⊥)) where
  pub tell-listed : (words : List (List ℕ)) → ((y : List ℕ) × P y) ⊎ ((x : List ℕ) → occurrences A x words ≡ 1 → P x → ⊥)
  tell-listed [] = inr (λ x e. absurd (omega (arith, e)))
  tell-listed (y ∷ words) = ⊎_elim
      (λ (p : P y). inl (y, p))
      (λ (none : P y → ⊥). ⊎_elim
      (λ (found : (z : List ℕ) × P z). inl found)
      (λ (rest : (x : List ℕ) → occurrences A x words ≡ 1 → P x → ⊥). inr (λ x e p. ⊎_elim
      (λ (s : SameElement A x y). none (same x y s p))
      (λ (other : SameElement A x y → ⊥). rest x (rw (not_same-is_same A g x y other) at e) p)
      (same_or_not A g x y)))
      (tell-listed words))
      (tell y)

module _ (A : IntegerMatrix) (g : IsAdmissible A) (limit : ℤ) (least : pos 0 ≤ℤ limit) where
  -- P(x,w) has a coefficient above the limit, or mu(x,w) is above its limit
  pub data IsBeyondAt (w x : List ℕ) : Type 0 where
    large_coefficient : {k : ℕ} {c : ℤ} → IsLargeCoefficient A limit x w k c → IsBeyondAt w x
    large_mu : {m : ℤ} → IsLargeMu A (pos MU_LIMIT) x w m → IsBeyondAt w x

  -- ---- only the elements below w count

  coefficient-below : (w x : List ℕ) (k : ℕ) (c : ℤ) → IsLargeCoefficient A limit x w k c → IsBelow A x w
  coefficient-below w x k c h = ⊎_elim (λ b. b)
      (λ (n : IsBelow A x w → ⊥). absurd (outside-none A g limit x w least n k c h))
      (below_or_not A g x w)

  mu_large-below : (w x : List ℕ) (m : ℤ) → IsLargeMu A (pos MU_LIMIT) x w m → IsBelow A x w
  mu_large-below w x m h = mu-below A g x w m h.is (λ e. within-not_above (pos MU_LIMIT) (pos 0) m (sym e) (omega (arith, ints)) h.above)

  beyond_at-below : (w x : List ℕ) → IsBeyondAt w x → IsBelow A x w
  beyond_at-below w x (large_coefficient {k} {c} h) = coefficient-below w x k c h
  beyond_at-below w x (large_mu {m} h) = mu_large-below w x m h

  -- ---- the words do not count

  mu_large-words : (v w x y : List ℕ) (m : ℤ) → SameElement A x y → SameElement A v w → IsLargeMu A (pos MU_LIMIT) x v m
      → IsLargeMu A (pos MU_LIMIT) y w m
  mu_large-words v w x y m e f h = record { is = mu-words A g m e f h.is; above = h.above }

  beyond_at-same : (w x y : List ℕ) → SameElement A x y → IsBeyondAt w x → IsBeyondAt w y
  beyond_at-same w x y e (large_coefficient {k} {c} h) = large_coefficient (large-words A g limit x y w w e (same-refl A g w) k c h)
  beyond_at-same w x y e (large_mu {m} h) = large_mu (mu_large-words w w x y m e (same-refl A g w) h)

  pub beyond-same : (v w : List ℕ) → SameElement A v w → IsBeyond A limit v → IsBeyond A limit w
  beyond-same v w e h = ⊎_elim
      (λ (found : (x : List ℕ) × (k : ℕ) × (c : ℤ) × IsLargeCoefficient A limit x v k c).
      coefficient-beyond A limit w found.0 found.1 found.2
      (large-words A g limit found.0 found.0 v w (same-refl A g found.0) e found.1 found.2 found.3))
      (λ (found : (x : List ℕ) × (m : ℤ) × IsLargeMu A (pos MU_LIMIT) x v m).
      mu-beyond A limit w found.0 found.1 (mu_large-words v w found.0 found.0 found.1 (same-refl A g found.0) e found.2))
      (beyond-cases A limit v h)

  at-beyond : (w x : List ℕ) → IsBeyondAt w x → IsBeyond A limit w
  at-beyond w x (large_coefficient {k} {c} h) = coefficient-beyond A limit w x k c h
  at-beyond w x (large_mu {m} h) = mu-beyond A limit w x m h

  -- ---- one element

  pub tell-coefficient : (w x : List ℕ)
      → ((k : ℕ) × (c : ℤ) × IsLargeCoefficient A limit x w k c) ⊎ ((k : ℕ) (c : ℤ) → IsLargeCoefficient A limit x w k c → ⊥)
  tell-coefficient w x = ⊎_elim
      (λ (found : (k : ℕ) × (limit <ℤ pos (unsigned_abs (kl_polynomial A g x w k)))).
      inl (
        found.0,
        kl_polynomial A g x w found.0,
        record { polynomial = kl_polynomial A g x w; is = kl_polynomial-is A g x w; value = refl; above = found.1 },
      ))
      (λ (none : (k : ℕ) → limit <ℤ pos (unsigned_abs (kl_polynomial A g x w k)) → ⊥). inr (λ k c h.
      let e : kl_polynomial A g x w k ≡ c
      = kazhdan_lusztig-unique A g x w (kl_polynomial A g x w) h.polynomial (kl_polynomial-is A g x w) h.is k ∙ h.value
      in none k (rw e h.above)))
      (tell-above limit least (kl_polynomial A g x w) (suc (word_length A w))
      (λ k high. kl_polynomial-low A g x w k (omega (arith, high)) (omega (arith, high))))

  tell-mu : (w x : List ℕ) → ((m : ℤ) × IsLargeMu A (pos MU_LIMIT) x w m) ⊎ ((m : ℤ) → IsLargeMu A (pos MU_LIMIT) x w m → ⊥)
  tell-mu w x =
      let m = mu-exists A g x w
      in by_lt_z (pos MU_LIMIT) (pos (unsigned_abs m.0))
      (λ above. inl (m.0, record { is = m.1; above = above }))
      (λ small. inr (λ n h. let e : n ≡ m.0 = mu-unique A g x w n m.0 h.is m.1
      in let above : pos MU_LIMIT <ℤ pos (unsigned_abs m.0) = rw e at h.above in omega (arith, ints, above, small)))

  tell-at : (w x : List ℕ) → IsBeyondAt w x ⊎ (IsBeyondAt w x → ⊥)
  tell-at w x = ⊎_elim
      (λ (found : (k : ℕ) × (c : ℤ) × IsLargeCoefficient A limit x w k c). inl (large_coefficient found.2))
      (λ (none : (k : ℕ) (c : ℤ) → IsLargeCoefficient A limit x w k c → ⊥). ⊎_elim
      (λ (found : (m : ℤ) × IsLargeMu A (pos MU_LIMIT) x w m). inl (large_mu found.1))
      (λ (no_mu : (m : ℤ) → IsLargeMu A (pos MU_LIMIT) x w m → ⊥). inr (neither none no_mu))
      (tell-mu w x))
      (tell-coefficient w x)
    where
      neither : ((k : ℕ) (c : ℤ) → IsLargeCoefficient A limit x w k c → ⊥) → ((m : ℤ) → IsLargeMu A (pos MU_LIMIT) x w m → ⊥)
          → IsBeyondAt w x → ⊥
      neither none no_mu (large_coefficient {k} {c} h) = none k c h
      neither none no_mu (large_mu {m} h) = no_mu m h

  -- ---- all elements

  pub tell-beyond : (w : List ℕ) → IsBeyond A limit w ⊎ (IsBeyond A limit w → ⊥)
  tell-beyond w = ⊎_elim
      (λ (found : (y : List ℕ) × IsBeyondAt w y). inl (at-beyond w found.0 found.1))
      (λ (none : (x : List ℕ) → occurrences A x (below_list A g w).0 ≡ 1 → IsBeyondAt w x → ⊥). inr (nowhere none))
      (tell-listed A g (IsBeyondAt w) (beyond_at-same w) (tell-at w) (below_list A g w).0)
    where
      at_none : ((x : List ℕ) → occurrences A x (below_list A g w).0 ≡ 1 → IsBeyondAt w x → ⊥) → (x : List ℕ) → IsBeyondAt w x → ⊥
      at_none none x h = ⊎_elim
          (λ (yes : (occurrences A x (below_list A g w).0 ≡ 1) × IsBelow A x w). none x yes.0 h)
          (λ (no : (occurrences A x (below_list A g w).0 ≡ 0) × (IsBelow A x w → ⊥)). no.1 (beyond_at-below w x h))
          ((below_list A g w).1 x)

      nowhere : ((x : List ℕ) → occurrences A x (below_list A g w).0 ≡ 1 → IsBeyondAt w x → ⊥) → IsBeyond A limit w → ⊥
      nowhere none h = ⊎_elim
          (λ (found : (x : List ℕ) × (k : ℕ) × (c : ℤ) × IsLargeCoefficient A limit x w k c).
          at_none none found.0 (large_coefficient found.3))
          (λ (found : (x : List ℕ) × (m : ℤ) × IsLargeMu A (pos MU_LIMIT) x w m). at_none none found.0 (large_mu found.2))
          (beyond-cases A limit w h)
