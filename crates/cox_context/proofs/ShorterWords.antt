-- A word without one of its letters: what is below an element is below one of these, or is the element itself.
use Rattle.std.proofs.Common.{◌≡◌, ℕ, zero, suc, ◌+◌, ◌<◌, List, [], ◌∷◌, length, ◌⊎◌, inl, inr, ⊎_elim, refl, ap, arith}
use Rattle.std.proofs.Common.{sym, ◌∙◌, ◌≤◌, Contains}
use Rattle.std.proofs.lemmas.Bool.{cases_lt}
use Rattle.cox_base.specs.IntegerMatrix.{IntegerMatrix}
use Rattle.cox_base.specs.Admissible.{IsAdmissible}
use Rattle.cox_base.specs.Element.{SameElement}
use Rattle.cox_base.specs.ShortLex.{normal_form}
use Rattle.cox_base.specs.Bruhat.{IsSubword, kept, left_out, IsBelow}
use Rattle.cox_base.specs.Members.{IsElement}
use Rattle.cox_reflect.specs.DerivedWords.{IsWithoutOne, this_one, later_one}
use Rattle.cox_reflect.specs.Chain.{IsReflectionStep, IsChain, no_step, last_step}
use Rattle.cox_reflect.proofs.WordsAndSubwords.{IsSubword-refl}
use Rattle.cox_reflect.proofs.Elements.{same-refl, same-sym, same-trans, same-cons}
use Rattle.cox_reflect.proofs.Search.{word_length-equal, normal_form-same, normal_form-equal, length-normal_form}
use Rattle.cox_reflect.proofs.Exchange.{Reflected, letter_goes, grows, reflected}
use Rattle.cox_reflect.proofs.Chains.{chain_upper}
use Rattle.cox_reflect.proofs.Bruhat.{below-chain, chain-below, below-same}
use Rattle.cox_context.specs.Appending.{without_letter}
use Rattle.cox_context.specs.Closed.{IsClosed}
use Rattle.cox_context.specs.Numbers.{word_at}
use Rattle.cox_context.proofs.Shifting.{element-at, first-member, member-below}

pub without-length : (k : ℕ) (w : List ℕ) → k < length w → length (without_letter k w) + 1 ≡ length w
unfolding without_letter
without-length k [] l = absurd (omega (arith, l))
without-length zero (s ∷ w) l = omega arith
without-length (suc k) (s ∷ w) l = omega (arith, without-length k w (omega (arith, l)))

without-subword : (k : ℕ) (w : List ℕ) → k < length w → IsSubword (without_letter k w) w
unfolding without_letter
without-subword k [] l = absurd (omega (arith, l))
without-subword zero (s ∷ w) l = left_out (IsSubword-refl w)
without-subword (suc k) (s ∷ w) l = kept (without-subword k w (omega (arith, l)))

-- a place of the letter that is left out
without-is : {v u : List ℕ} → IsWithoutOne v u → (k : ℕ) × (k < length u) × (without_letter k u ≡ v)
unfolding without_letter
without-is (this_one {s = s} {u = u}) = (0, omega arith, refl)
without-is (later_one {s = s} w) =
    let r = without-is w in (suc r.0, omega (arith, r.1), ap (λ (x : List ℕ). s ∷ x) r.2)

module _ (A : IntegerMatrix) (g : IsAdmissible A) (w : List ℕ) where
  pub without-below : IsElement A w → (k : ℕ) → k < length w → IsBelow A (without_letter k w) w
  without-below e k l = record {
    word = without_letter k w;
    subword = rw e.normal (without-subword k w l);
    same = same-refl A g (without_letter k w);
  }

  -- by the last step of a chain of reflections up to w, which makes a letter go (strong exchange)
  pub below_without : (z : List ℕ) → IsBelow A z w
      → SameElement A z w ⊎ ((k : ℕ) × (k < length w) × IsBelow A z (without_letter k w))
  below_without z b = of_chain (below-chain A g b)
    where
      of_step : {v : List ℕ} → IsChain A z v → (st : IsReflectionStep A v w) → Reflected A w st.y st.s
          → (k : ℕ) × (k < length w) × IsBelow A z (without_letter k w)
      of_step c st (letter_goes u is e) =
          let r = without-is is
          in (r.0, r.1, rw r.2 (chain-below A g (chain_upper A g c (same-trans A g (same-sym A g st.same) e))))
      of_step c st (grows h) = absurd (omega (arith, h, word_length-equal A g st.same, st.shorter))

      of_chain : IsChain A z w → SameElement A z w ⊎ ((k : ℕ) × (k < length w) × IsBelow A z (without_letter k w))
      of_chain (no_step e) = inl e
      of_chain (last_step c st) = inr (of_step c st (reflected A g w st.y st.s st.letter))

-- ---- the number of a member's word without one of its letters

module _ (A : IntegerMatrix) (g : IsAdmissible A) (words : List (List ℕ)) (closed : IsClosed A words) (i : ℕ) (inside : i < length words)
    (at : ℕ) (l : at < length (word_at words i)) where
  below : IsBelow A (without_letter at (word_at words i)) (word_at words i)
  below = without-below A g (word_at words i) (element-at A g words closed i inside) at l

  pub without-there : Contains words (normal_form A (without_letter at (word_at words i)))
  without-there = member-below A g words closed (without_letter at (word_at words i)) i inside below

  -- it is no number of the identity
  pub without-some : 0 < i
  without-some = ⊎_elim (λ some. some)
      (λ (none : i ≤ 0). let first : i ≡ 0 = omega (arith, none) in absurd (omega (
        arith,
        l,
        ap length (ap (word_at words) first ∙ first-member A g words closed),
      ))) (cases_lt 0 i)

  pub without-less : (k : ℕ) → k < length words → word_at words k ≡ normal_form A (without_letter at (word_at words i)) → k < i
  without-less k within is = ⊎_elim (λ less. less)
      (λ (more : i ≤ k). let e : k ≡ i = omega (
        arith,
        more,
        closed.upward k i within inside
            (rw is (below-same A g (same-sym A g (normal_form-same A g (without_letter at (word_at words i))))
            (same-refl A g (word_at words i)) below)),
      )
      in absurd (omega (
        arith,
        ap length (sym (ap (word_at words) e) ∙ is),
        length-normal_form A g (without_letter at (word_at words i)),
        without-length at (word_at words i) l,
      ))) (cases_lt k i)

  -- the rest of its word, and that without a letter
  module _ (first rest : ℕ) (is : word_at words i ≡ first ∷ word_at words rest) where
    pub without-first : rest < length words → at ≡ 0 → word_at words rest ≡ normal_form A (without_letter at (word_at words i))
    unfolding without_letter
    without-first within first_one = rw (first_one, is) (sym (element-at A g words closed rest within).normal)

    pub without-rest : (m : ℕ) → at ≡ m + 1 → m < length (word_at words rest)
    without-rest m e = omega (arith, l, e, ap length is)

    pub without-next : (m k : ℕ) → at ≡ suc m → word_at words k ≡ normal_form A (without_letter m (word_at words rest))
        → normal_form A (first ∷ word_at words k) ≡ normal_form A (without_letter at (word_at words i))
    unfolding without_letter
    without-next m k e number =
        rw (e, is, number) (normal_form-equal A g (same-cons A g first (normal_form-same A g (without_letter m (word_at words rest)))))
