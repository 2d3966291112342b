-- The signs of roots, stated of the columns of the matrices of words.
use Rattle.std.proofs.Common.{ℤ, ◌≤ℤ◌, zero, suc, ◌≡◌, ℕ, ◌<◌, List, [], ◌∷◌, ◌++◌, reverse, ◌⊎◌, ◌↔◌, pos, ◌<ℤ◌, sym, ◌∙◌}
use Rattle.std.proofs.Common.{⊎_elim, inl, inr, arith, subst}
use Rattle.std.proofs.Math.Path.{fun_ext}
use Rattle.std.proofs.lemmas.Bool.{cases_eq}
use Rattle.std.proofs.lemmas.Int.{by_lt_z}
use lib.Signed.{le_z_yes}
use Rattle.cox_base.specs.Matrix.{IsLetter}
use Rattle.cox_base.specs.IntegerMatrix.{IntegerMatrix}
use Rattle.cox_base.specs.Admissible.{IsAdmissible}
use Rattle.cox_base.specs.Element.{matrix, SameElement}
use Rattle.cox_base.specs.Length.{word_length}
use Rattle.cox_base.specs.Descents.{IsLeftDescent, IsRightDescent}
use Rattle.cox_reflect.specs.Action.{simple_root}
use Rattle.cox_reflect.specs.WordAction.{act, IsNonnegative, IsNonpositive}
use Rattle.cox_reflect.specs.Root.{IsNonnegativeRoot, IsNonpositiveRoot, IsZeroRoot}
use Rattle.cox_lemmas.proofs.Ring.{linears}
use Rattle.cox_reflect.proofs.Sums.{letter_cases, letter_above, last_letter, simple_root-other}
use Rattle.cox_reflect.proofs.Action.{act-outside}
use Rattle.cox_reflect.proofs.Elements.{matrix-column}
use Rattle.cox_reflect.proofs.Lengths.{word_length-cons_reverse, word_length-reverse}
use Rattle.cox_reflect.proofs.Positivity.{simple_root-nonnegative}
use Rattle.cox_reflect.specs.DerivedWords.{reflection}
use Rattle.cox_reflect.proofs.Exchange.{equal_root_reflections}
use Rattle.cox_reflect.proofs.Roots.{SignOf, longer, shorter, sign_of, root_sign, root-not_zero, root-apart, left_descent_reverse}
use Rattle.cox_reflect.proofs.Roots.{reverse_left_descent}

-- of numbers that are at most 0 and not all 0 one is negative
some_negative : (n : ℕ) (f : ℕ → ℤ) → ((i : ℕ) → IsLetter n i → f i ≤ℤ pos 0) → (((i : ℕ) → IsLetter n i → f i ≡ pos 0) → ⊥)
    → (i : ℕ) × IsLetter n i × (f i <ℤ pos 0)
some_negative zero f below other = absurd (other (λ i l. absurd (omega (arith, l.from_one, l.to_rank))))
some_negative (suc n) f below other =
    by_lt_z (f (suc n)) (pos 0) (λ h. (suc n, last_letter n, h))
    (λ h. earlier (some_negative n f (λ i l. below i (letter_above n i l))) (omega (arith, linears, h, below (suc n) (last_letter n))))
  where
    all_zero : f (suc n) ≡ pos 0 → ((i : ℕ) → IsLetter n i → f i ≡ pos 0) → (i : ℕ) → IsLetter (suc n) i → f i ≡ pos 0
    all_zero e zeros i l =
        ⊎_elim (λ (q : i ≡ suc n). rw q e)
        (λ ne. zeros i (record { from_one = l.from_one; to_rank = omega (arith, l.to_rank) })) (cases_eq i (suc n))

    earlier : ((((i : ℕ) → IsLetter n i → f i ≡ pos 0) → ⊥) → (i : ℕ) × IsLetter n i × (f i <ℤ pos 0)) → f (suc n) ≡ pos 0
        → (i : ℕ) × IsLetter (suc n) i × (f i <ℤ pos 0)
    earlier rest e = let r = rest (λ zeros. other (all_zero e zeros)) in (r.0, letter_above n r.0 r.1, r.2)

module _ (A : IntegerMatrix) (g : IsAdmissible A) where
  -- ---- between columns and images of simple roots

  pub column-nonnegative : (w : List ℕ) (s : ℕ) → IsNonnegative (act A w (simple_root s)) → IsNonnegativeRoot A w s
  column-nonnegative w s h = record { coordinate = λ i l. rw (matrix-column A w i s l) (h i) }

  pub column-nonpositive : (w : List ℕ) (s : ℕ) → IsNonpositive (act A w (simple_root s)) → IsNonpositiveRoot A w s
  column-nonpositive w s h = record { coordinate = λ i l. rw (matrix-column A w i s l) (h i) }

  pub nonnegative-column : (w : List ℕ) (s : ℕ) → IsNonnegativeRoot A w s → IsNonnegative (act A w (simple_root s))
  nonnegative-column w s h i =
      ⊎_elim (λ l. rw (matrix-column A w i s l) at (h.coordinate i l))
      (λ foreign. rw (act-outside A g w (simple_root s) i foreign) (simple_root-nonnegative s i)) (letter_cases A.rank i)

  -- a coordinate that is no letter is 0
  outside-zero : (w : List ℕ) (s i : ℕ) → IsLetter A.rank s → (IsLetter A.rank i → ⊥)
      → act A w (simple_root s) i ≡ pos 0
  outside-zero w s i l foreign =
      act-outside A g w (simple_root s) i foreign ∙ simple_root-other s i (λ (e : i ≡ s). foreign (subst (IsLetter A.rank) (sym e) l))

  pub nonpositive-column : (w : List ℕ) (s : ℕ) → IsLetter A.rank s → IsNonpositiveRoot A w s
      → IsNonpositive (act A w (simple_root s))
  nonpositive-column w s l h i =
      ⊎_elim (λ k. rw (matrix-column A w i s k) at (h.coordinate i k))
      (λ foreign. rw (outside-zero w s i l foreign) (le_z_yes tt)) (letter_cases A.rank i)

  -- equal columns, equal roots
  pub columns-root : (x y : List ℕ) (t s : ℕ) → IsLetter A.rank t → IsLetter A.rank s
      → ((i : ℕ) → IsLetter A.rank i → matrix A x i t ≡ matrix A y i s)
      → act A x (simple_root t) ≡ act A y (simple_root s)
  columns-root x y t s lt ls e =
      fun_ext (λ i. ⊎_elim (λ l. sym (matrix-column A x i t l) ∙ e i l ∙ matrix-column A y i s l)
      (λ foreign. outside-zero x t i lt foreign ∙ sym (outside-zero y s i ls foreign)) (letter_cases A.rank i))

  pub equal_reflection_words : (x y : List ℕ) (s t : ℕ) → IsLetter A.rank s → IsLetter A.rank t
      → ((i : ℕ) → IsLetter A.rank i → matrix A x i s ≡ matrix A y i t)
      → SameElement A (reflection x s) (reflection y t)
  equal_reflection_words x y s t ls lt e = equal_root_reflections A g x y s t ls lt (columns-root x y s t ls lt e)

  -- ---- positivity

  pub root_signs : (w : List ℕ) (s : ℕ) → IsLetter A.rank s → IsNonnegativeRoot A w s ⊎ IsNonpositiveRoot A w s
  root_signs w s l =
      ⊎_elim (λ p. inl (column-nonnegative w s p)) (λ n. inr (column-nonpositive w s n)) (root_sign A g w s)

  pub no_zero_root : (w : List ℕ) (s : ℕ) → IsLetter A.rank s → IsZeroRoot A w s → ⊥
  no_zero_root w s l z =
      root-not_zero A g w s
      (λ i. ⊎_elim (λ k. sym (matrix-column A w i s k) ∙ z.coordinate i k) (λ foreign. outside-zero w s i l foreign)
      (letter_cases A.rank i))

  pub longer-root : (w : List ℕ) (s : ℕ) → IsLetter A.rank s
      → (word_length A w < word_length A (w ++ s ∷ [])) ↔ IsNonnegativeRoot A w s
  longer-root w s l = go (sign_of A g w s l)
    where
      go : SignOf A w s → (word_length A w < word_length A (w ++ s ∷ [])) ↔ IsNonnegativeRoot A w s
      go (longer e p) = (λ h. column-nonnegative w s p, λ r. omega (arith, e))
      go (shorter e n) =
          (λ h. absurd (omega (arith, e, h)), λ r. absurd (root-apart A g w s (nonnegative-column w s r) n))

  pub shorter-root : (w : List ℕ) (s : ℕ) → IsLetter A.rank s → IsRightDescent A w s ↔ IsNonpositiveRoot A w s
  shorter-root w s l = go (sign_of A g w s l)
    where
      go : SignOf A w s → IsRightDescent A w s ↔ IsNonpositiveRoot A w s
      go (longer e p) =
          (λ h. absurd (omega (arith, e, h)), λ r. absurd (root-apart A g w s p (nonpositive-column w s l r)))
      go (shorter e n) = (λ h. column-nonpositive w s n, λ r. omega (arith, e))

  pub longer_left-root : (w : List ℕ) (s : ℕ) → IsLetter A.rank s
      → (word_length A w < word_length A (s ∷ w)) ↔ IsNonnegativeRoot A (reverse w) s
  longer_left-root w s l =
      let right = longer-root (reverse w) s l
      in (
        λ h. right.0 (omega (arith, h, word_length-cons_reverse A g s w, word_length-reverse A g w)),
        λ r. omega (arith, right.1 r, word_length-cons_reverse A g s w, word_length-reverse A g w),
      )

  pub shorter_left-root : (w : List ℕ) (s : ℕ) → IsLetter A.rank s
      → IsLeftDescent A w s ↔ IsNonpositiveRoot A (reverse w) s
  shorter_left-root w s l =
      let right = shorter-root (reverse w) s l
      in (λ h. right.0 (left_descent_reverse A g w s h), λ r. reverse_left_descent A g w s (right.1 r))

  -- ---- descents by one coordinate

  -- s shortens w exactly where the column s of M(w) has a negative coordinate
  pub descent_coordinate : (w : List ℕ) (s i : ℕ) → IsLetter A.rank s → IsLetter A.rank i → matrix A w i s <ℤ pos 0
      → IsRightDescent A w s
  descent_coordinate w s i l k h =
      ⊎_elim (λ p. absurd (omega (arith, linears, h, p.coordinate i k))) (λ n. (shorter-root w s l).1 n) (root_signs w s l)

  pub descent_by_coordinate : (w : List ℕ) (s : ℕ) → IsLetter A.rank s
      → IsRightDescent A w s ↔ ((i : ℕ) × IsLetter A.rank i × (matrix A w i s <ℤ pos 0))
  descent_by_coordinate w s l = (
    λ d. some_negative A.rank (λ i. matrix A w i s) (((shorter-root w s l).0 d).coordinate)
        (λ zeros. no_zero_root w s l (record { coordinate = zeros })),
    λ r. descent_coordinate w s r.0 l r.1 r.2,
  )
