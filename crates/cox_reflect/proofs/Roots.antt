-- Roots u e(s): their signs tell which letters shorten u, and only e(s) changes its sign under s.
use Rattle.std.proofs.Common.{◌≡◌, ℕ, zero, suc, ◌+◌, ◌≤◌, ◌<◌, List, [], ◌∷◌, ◌++◌, reverse, ◌⊎◌, ℤ, pos, negsuc, ◌-ℤ◌, ◌*ℤ◌}
use Rattle.std.proofs.Common.{neg_ℤ, ◌≤ℤ◌, ◌<ℤ◌, refl, ap, sym, ◌∙◌, ⊎_elim, inl, inr, arith}
use Rattle.std.proofs.Math.Path.{fun_ext}
use Rattle.std.proofs.lemmas.Bool.{cases_eq, cases_lt}
use Rattle.std.proofs.lemmas.Int.{ints}
use Rattle.std.proofs.lemmas.List.{append-nil, reverse-reverse}
use borrow.Author.Differences.{up}
use Rattle.cox_base.specs.Matrix.{IsLetter}
use Rattle.cox_base.specs.IntegerMatrix.{IntegerMatrix}
use Rattle.cox_base.specs.Admissible.{IsAdmissible}
use Rattle.cox_base.specs.Element.{SameElement}
use Rattle.cox_base.specs.Length.{word_length}
use Rattle.cox_base.specs.Descents.{IsLeftDescent, IsRightDescent}
use Rattle.cox_reflect.specs.Action.{Vector, simple_root, minus_multiple, reflect}
use Rattle.cox_reflect.specs.WordAction.{act, IsNonnegative, IsNonpositive}
use Rattle.cox_lemmas.proofs.Ring.{linears, zero_times, times_zero}
use Rattle.cox_reflect.proofs.Sums.{letter_cases, simple_root-self, simple_root-other}
use Rattle.cox_reflect.proofs.Action.{act-push, act-minus_multiple, act-reverse, act-fixed, reflect-simple_root, reflect-other}
use Rattle.cox_reflect.proofs.Action.{act-other_root}
use Rattle.cox_reflect.proofs.Elements.{same-refl, same-append, same-outside, same-push_twice}
use Rattle.cox_reflect.proofs.Search.{word_length-equal}
use Rattle.cox_reflect.proofs.Lengths.{word_length-push, push-word_length, word_length-reverse, word_length-cons_reverse}
use Rattle.cox_reflect.proofs.Positivity.{positive, simple_root-nonnegative}

-- a nonnegative factor of 1 is 1
factor-one : (c d : ℤ) → pos 0 ≤ℤ c → c *ℤ d ≡ pos 1 → c ≡ pos 1
factor-one (pos zero) d h e = absurd (omega (arith, linears, zero_times d, e))
factor-one (pos (suc zero)) d h e = refl
factor-one (pos (suc (suc c))) (pos zero) h e = absurd (omega (arith, linears, times_zero (pos (suc (suc c))), e))
factor-one (pos (suc (suc c))) (pos (suc d)) h e = absurd (omega (arith, ints, ap up e))
factor-one (pos (suc (suc c))) (negsuc d) h e = absurd (omega (arith, ints, e))
factor-one (negsuc c) d h e = absurd h.le

-- -v
unfoldable pub negated : Vector → Vector
negated v i = neg_ℤ (v i)

twice : (v : Vector) → negated v ≡ minus_multiple v (pos 2) v
unfolding negated minus_multiple
twice v = fun_ext (λ i. omega (arith, ints))

pub act-negated : (A : IntegerMatrix) (u : List ℕ) (v : Vector) → act A u (negated v) ≡ negated (act A u v)
unfolding negated
act-negated A u v = ap (act A u) (twice v) ∙ act-minus_multiple A u v (pos 2) v ∙ sym (twice (act A u v))

-- s makes u longer, and the root is nonnegative; or s makes it shorter, and the root is nonpositive
pub data SignOf (A : IntegerMatrix) (u : List ℕ) (s : ℕ) : Type 0 where
  longer : word_length A (u ++ s ∷ []) ≡ word_length A u + 1 → IsNonnegative (act A u (simple_root s)) → SignOf A u s
  shorter : word_length A u ≡ word_length A (u ++ s ∷ []) + 1 → IsNonpositive (act A u (simple_root s)) → SignOf A u s

module _ (A : IntegerMatrix) (g : IsAdmissible A) where
  -- (u s) e(s) = -(u e(s))
  pub act-push_root : (u : List ℕ) (s : ℕ) → IsLetter A.rank s → (i : ℕ)
      → act A (u ++ s ∷ []) (simple_root s) i ≡ neg_ℤ (act A u (simple_root s) i)
  unfolding negated
  act-push_root u s l i =
      ap (λ (v : Vector). v i) (act-push A u s (simple_root s) ∙ ap (act A u) (reflect-simple_root A g s l)
      ∙ act-negated A u (simple_root s))

  -- a root is not 0
  pub root-not_zero : (u : List ℕ) (s : ℕ) → ((i : ℕ) → act A u (simple_root s) i ≡ pos 0) → ⊥
  root-not_zero u s h =
      let fixed : simple_root s ≡ act A u (simple_root s) = sym (act-reverse A g u (simple_root s))
      ∙ act-fixed A g (reverse u) (act A u (simple_root s)) (λ i l. h i)
      in let one : pos 1 ≡ pos 0 = sym (simple_root-self s) ∙ ap (λ (v : Vector). v s) fixed ∙ h s
      in omega (arith, ints)

  pub sign_of : (u : List ℕ) (s : ℕ) → IsLetter A.rank s → SignOf A u s
  sign_of u s l = ⊎_elim below above (cases_lt (word_length A (u ++ s ∷ [])) (word_length A u))
    where
      back : word_length A ((u ++ s ∷ []) ++ s ∷ []) ≡ word_length A u
      back = word_length-equal A g (same-push_twice A g u s)

      -- where us is not longer, the root is nonpositive
      other : word_length A (u ++ s ∷ []) ≤ word_length A u → IsNonpositive (act A u (simple_root s))
      other h i =
          let p : pos 0 ≤ℤ act A (u ++ s ∷ []) (simple_root s) i = positive A g (u ++ s ∷ []) s l (omega (arith, h, back)) i
          in omega (arith, linears, p, act-push_root u s l i)

      below : word_length A (u ++ s ∷ []) < word_length A u → SignOf A u s
      below h = shorter (omega (arith, h, push-word_length A g u s)) (other (omega (arith, h)))

      above : word_length A u ≤ word_length A (u ++ s ∷ []) → SignOf A u s
      above h =
          longer (⊎_elim equal more (cases_lt (word_length A u) (word_length A (u ++ s ∷ [])))) (positive A g u s l h)
        where
          equal : word_length A u < word_length A (u ++ s ∷ []) → word_length A (u ++ s ∷ []) ≡ word_length A u + 1
          equal k = omega (arith, k, word_length-push A g u s)

          more : word_length A (u ++ s ∷ []) ≤ word_length A u → word_length A (u ++ s ∷ []) ≡ word_length A u + 1
          more k = absurd (root-not_zero u s (λ i. omega (arith, linears, other k i, positive A g u s l h i)))

  -- only e(s) changes its sign under s
  pub sign_changes : (x : List ℕ) (t s : ℕ) → IsNonnegative (act A x (simple_root t))
      → IsNonpositive (reflect A s (act A x (simple_root t))) → act A x (simple_root t) ≡ simple_root s
  unfolding minus_multiple
  sign_changes x t s h k = fun_ext (λ i. ⊎_elim (at_own i) (at_other i) (cases_eq i s))
    where
      b : Vector
      b = act A x (simple_root t)

      other : (i : ℕ) → (i ≡ s → ⊥) → b i ≡ pos 0
      other i ne = omega (arith, linears, h i, k i, reflect-other A s b i ne)

      -- b - b(s) e(s) is 0, so it is fixed
      rest : (i : ℕ) → minus_multiple b (b s) (simple_root s) i ≡ pos 0
      rest i =
          ⊎_elim (λ (e : i ≡ s). rw (e, simple_root-self s) (omega (arith, ints)))
          (λ ne. rw (simple_root-other s i ne) (omega (arith, ints, other i ne))) (cases_eq i s)

      image : simple_root t t -ℤ (b s *ℤ act A (reverse x) (simple_root s) t) ≡ pos 0
      image =
          ap (λ (v : Vector). minus_multiple v (b s) (act A (reverse x) (simple_root s)) t) (sym (act-reverse A g x (simple_root t)))
          ∙ ap (λ (v : Vector). v t) (sym (act-minus_multiple A (reverse x) b (b s) (simple_root s)))
          ∙ ap (λ (v : Vector). v t) (act-fixed A g (reverse x) (minus_multiple b (b s) (simple_root s)) (λ i l. rest i))
          ∙ rest t

      factor : b s *ℤ act A (reverse x) (simple_root s) t ≡ pos 1
      factor = omega (arith, linears, image, simple_root-self t)

      own : b s ≡ pos 1
      own = factor-one (b s) (act A (reverse x) (simple_root s) t) (h s) factor

      at_own : (i : ℕ) → i ≡ s → b i ≡ simple_root s i
      at_own i e = rw (e, simple_root-self s) own

      at_other : (i : ℕ) → (i ≡ s → ⊥) → b i ≡ simple_root s i
      at_other i ne = rw (simple_root-other s i ne) (other i ne)

  -- every root is nonnegative or nonpositive
  pub root_sign : (u : List ℕ) (s : ℕ)
      → IsNonnegative (act A u (simple_root s)) ⊎ IsNonpositive (act A u (simple_root s))
  root_sign u s =
      ⊎_elim (λ l. of_sign (sign_of u s l)) (λ foreign. inl (λ i. rw (act-other_root A g u s foreign)
      (simple_root-nonnegative s i))) (letter_cases A.rank s)
    where
      of_sign : SignOf A u s → IsNonnegative (act A u (simple_root s)) ⊎ IsNonpositive (act A u (simple_root s))
      of_sign (longer e h) = inl h
      of_sign (shorter e h) = inr h

  -- a root with a coordinate above 0 is nonnegative, and one with a coordinate below 0 nonpositive
  pub root-positive_at : (u : List ℕ) (s i : ℕ) → pos 0 <ℤ act A u (simple_root s) i
      → IsNonnegative (act A u (simple_root s))
  root-positive_at u s i h = ⊎_elim (λ p. p) (λ n. absurd (omega (arith, linears, h, n i))) (root_sign u s)

  -- no root is both
  pub root-apart : (u : List ℕ) (s : ℕ) → IsNonnegative (act A u (simple_root s))
      → IsNonpositive (act A u (simple_root s)) → ⊥
  root-apart u s p n = root-not_zero u s (λ i. omega (arith, linears, p i, n i))

  -- ---- descents by the sign of one coordinate

  -- a nonnegative root: s does not shorten u
  pub no_descent : (u : List ℕ) (s : ℕ) → IsLetter A.rank s → IsNonnegative (act A u (simple_root s))
      → IsRightDescent A u s → ⊥
  no_descent u s l h d = go (sign_of u s l)
    where
      go : SignOf A u s → ⊥
      go (longer e p) = omega (arith, e, d)
      go (shorter e n) = root-apart u s h n

  -- s shortens u: each coordinate is at most 0
  pub descent-nonpositive : (u : List ℕ) (s : ℕ) → IsLetter A.rank s → IsRightDescent A u s
      → IsNonpositive (act A u (simple_root s))
  descent-nonpositive u s l d = go (sign_of u s l)
    where
      go : SignOf A u s → IsNonpositive (act A u (simple_root s))
      go (longer e p) = absurd (omega (arith, e, d))
      go (shorter e n) = n

  -- on the left, by the reversed word
  pub left_descent_reverse : (u : List ℕ) (s : ℕ) → IsLeftDescent A u s → IsRightDescent A (reverse u) s
  left_descent_reverse u s d = omega (arith, d, word_length-cons_reverse A g s u, word_length-reverse A g u)

  pub reverse_left_descent : (u : List ℕ) (s : ℕ) → IsRightDescent A (reverse u) s → IsLeftDescent A u s
  reverse_left_descent u s d = omega (arith, d, word_length-cons_reverse A g s u, word_length-reverse A g u)

  pub descent-reverse : (u : List ℕ) (s : ℕ) → IsRightDescent A u s → IsLeftDescent A (reverse u) s
  descent-reverse u s d = reverse_left_descent (reverse u) s (rw (reverse-reverse u) d)

  pub reverse-descent : (u : List ℕ) (s : ℕ) → IsLeftDescent A (reverse u) s → IsRightDescent A u s
  reverse-descent u s d = rw (reverse-reverse u) at (left_descent_reverse (reverse u) s d)

  -- a letter outside the rank is no descent
  pub no_foreign_descent : (u : List ℕ) (s : ℕ) → (IsLetter A.rank s → ⊥) → IsRightDescent A u s → ⊥
  no_foreign_descent u s foreign d =
      let e : SameElement A (u ++ s ∷ []) u = rw append-nil at (same-append A g (same-refl A g u) (same-outside A g s [] foreign))
      in omega (arith, d, word_length-equal A g e)

  pub descent-letter : (u : List ℕ) (s : ℕ) → IsRightDescent A u s → IsLetter A.rank s
  descent-letter u s d = ⊎_elim (λ l. l) (λ foreign. absurd (no_foreign_descent u s foreign d)) (letter_cases A.rank s)

  pub left_descent-letter : (u : List ℕ) (s : ℕ) → IsLeftDescent A u s → IsLetter A.rank s
  left_descent-letter u s d = descent-letter (reverse u) s (left_descent_reverse u s d)
