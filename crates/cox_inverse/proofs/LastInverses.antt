-- The inverse polynomials from w down so far: one more, or the last one with a coefficient above the limit.
use Rattle.std.proofs.Common.{◌≡◌, ℕ, zero, suc, ◌-◌, ◌<◌, List, [], ◌∷◌, ◌++◌, length, ℤ, pos, refl, ap, sym, ◌∙◌, ⊎_elim, arith}
use Rattle.std.specs.Prelude.{◌≤ℤ◌}
use Rattle.std.proofs.lemmas.Int.{ints}
use Rattle.cox_lemmas.proofs.PushedItems.{push-length, push-old, push-new, push_cases}
use Rattle.cox_base.specs.IntegerMatrix.{IntegerMatrix, integer_matrix}
use Rattle.cox_base.specs.Admissible.{IsAdmissible}
use Rattle.cox_base.specs.Element.{SameElement}
use Rattle.cox_base.specs.Bruhat.{IsBelow}
use Rattle.cox_reflect.proofs.Elements.{same-refl}
use Rattle.cox_reflect.proofs.Bruhat.{below-same, below-refl}
use Rattle.cox_poly.specs.Polynomial.{coefficient, IsPolynomial, SameCoefficients}
use Rattle.cox_poly.specs.Coefficients.{one_polynomial}
use Rattle.cox_poly.specs.Limit.{AllWithin, IsWithin, IsFirstAbove}
use Rattle.cox_poly.proofs.Limits.{within-not_above}
use Rattle.cox_poly.proofs.Polynomials.{AllWithin-same}
use Rattle.cox_context.specs.Closed.{Elements, IsClosed}
use Rattle.cox_context.specs.Numbers.{word_at}
use Rattle.cox_row.specs.Polynomials.{polynomial_at}
use Rattle.cox_row_builder.proofs.LargeCoefficients.{within-same}
use Rattle.cox_inverse.specs.declared.fault.TheConstants.{MAX_COEFFICIENT}
use Rattle.cox_inverse.specs.declared.fault.InverseFault.{InverseFault}
use Rattle.cox_inverse.specs.declared.fault.InverseFault.TheVariants.{Coefficient, Inverse, NoMemory}
use Rattle.cox_inverse.specs.InverseRow.{IsInverse}
use Rattle.cox_inverse.specs.NumberedInverses.{number_before, AreBetween, AreInverses}
use Rattle.cox_inverse.specs.InverseFaults.{IsLargeInverse, IsInverseWithin, IsLeastLargeInverse, AreWithinLimits, IsPair, IsInverseFault}
use Rattle.cox_inverse.specs.Intervals.{ArePairsSmall, IsSumFault}
use Rattle.cox_inverse.proofs.InversePolynomials.{inverse-unique, inverse-same}
use Rattle.cox_inverse.proofs.InverseRowExists.{inverse_of, inverse_of-is, inverse_row-top}
use Rattle.cox_inverse.proofs.LastMembers.{below-member, before-member, before-above, before-below, last-top}
use Rattle.cox_inverse.proofs.FirstPairs.{place-less, lower-place}

-- other words of the elements
module _ (A : IntegerMatrix) (g : IsAdmissible A) (limit : ℤ) (x u w v : List ℕ) (same : SameElement A x u)
    (other : SameElement A w v) where
  pub large_inverse-words : (k : ℕ) (c : ℤ) → IsLargeInverse A limit x w k c → IsLargeInverse A limit u v k c
  large_inverse-words k c h = record {
    polynomial = h.polynomial;
    is = inverse-same A g x u w v h.polynomial same other h.is;
    value = h.value;
    above = h.above;
  }

module _ (A : IntegerMatrix) (g : IsAdmissible A) (limit : ℤ) (x w : List ℕ) where
  module _ (sums : List ℤ) (is : IsInverse A x w (coefficient sums)) where
    small_not_large : (k : ℕ) (c : ℤ) → IsWithin limit (coefficient sums k) → IsLargeInverse A limit x w k c → ⊥
    small_not_large k c l h =
        within-not_above limit (coefficient sums k) c (inverse-unique A g x w (coefficient sums) h.polynomial is h.is k ∙ h.value) l h.above

    pub inverse-within : AllWithin limit sums → IsInverseWithin A limit x w
    inverse-within l k c h = small_not_large k c (l k) h

    pub least-large_inverse : (d : ℕ) (v : ℤ) → IsFirstAbove limit sums d v → IsLeastLargeInverse A limit x w d v
    least-large_inverse d v first = record {
      large = record { polynomial = coefficient sums; is = is; value = sym first.value; above = first.above };
      least = λ k c l h. small_not_large k c (first.least k l) h;
    }

  -- another word of x
  pub inverse-within_same : (u : List ℕ) → SameElement A x u → IsInverseWithin A limit u w → IsInverseWithin A limit x w
  inverse-within_same u same small k c h = small k c (large_inverse-words A g limit x u w w same (same-refl A g w) k c h)

module _ (e : Elements) (g : IsAdmissible (integer_matrix e.matrix)) (closed : IsClosed (integer_matrix e.matrix) e.members)
    (y w : ℕ) (inside : w < length e.members) (numbers : List ℕ) (are : AreBetween e y w numbers) (limit : ℤ) where
  abbrev A : IntegerMatrix
  A = integer_matrix e.matrix

  pub inverses-none : AreInverses e w limit numbers []
  inverses-none = record {
    few = omega arith;
    trimmed = λ j l. absurd (omega (arith, l));
    value = λ j l. absurd (omega (arith, l));
    within = λ j l. absurd (omega (arith, l));
  }

  pub inverses-push : (polynomials : List (List ℤ)) (p : List ℤ) → length polynomials < length numbers
      → IsInverse A (word_at e.members (number_before numbers (length polynomials))) (word_at e.members w) (coefficient p)
      → IsPolynomial p → AllWithin limit p → AreInverses e w limit numbers polynomials → AreInverses e w limit numbers
      (polynomials ++ p ∷ [])
  inverses-push polynomials p more is trimmed within h = record {
    few = omega (arith, more, push-length polynomials p);
    trimmed = λ j l. each j (λ q k. IsPolynomial q) l h.trimmed trimmed;
    value = λ j l. each j (λ q k. IsInverse A (word_at e.members (number_before numbers k)) (word_at e.members w)
        (coefficient q)) l h.value is;
    within = λ j l. each j (λ q k. AllWithin limit q) l h.within within;
  }
    where
      each : (j : ℕ) (P : List ℤ → ℕ → Type 0) → j < length (polynomials ++ p ∷ [])
          → ((i : ℕ) → i < length polynomials → P (polynomial_at polynomials i) i) → P p (length polynomials)
          → P (polynomial_at (polynomials ++ p ∷ []) j) j
      each j P l old new = ⊎_elim
          (λ (before : j < length polynomials). rw (push-old polynomials p [] j before) (old j before))
          (λ (last : j ≡ length polynomials). rw (push-new polynomials p [] j last) (rw last new))
          (push_cases polynomials p j l)

  -- the polynomial with these sums
  pub inverses-keep : (polynomials : List (List ℤ)) (sums p : List ℤ) → length polynomials < length numbers
      → IsInverse A (word_at e.members (number_before numbers (length polynomials))) (word_at e.members w) (coefficient sums)
      → SameCoefficients p sums → IsPolynomial p → AllWithin limit sums → AreInverses e w limit numbers polynomials
      → AreInverses e w limit numbers (polynomials ++ p ∷ [])
  inverses-keep polynomials sums p more is same trimmed within =
      inverses-push polynomials p more (record { row = is.row; is = is.is; at = λ k. same k ∙ is.at k }) trimmed
      (AllWithin-same limit sums p (λ k. sym (same k)) within)

  -- a limit that is not less
  pub inverses-more : (polynomials : List (List ℤ)) (most : ℤ) → limit ≤ℤ most → AreInverses e w limit numbers polynomials
      → AreInverses e w most numbers polynomials
  inverses-more polynomials most least h = record {
    few = h.few;
    trimmed = h.trimmed;
    value = h.value;
    within = λ j l k. let small = h.within j l k in omega (arith, ints, small, least);
  }

  -- there is a last one of the numbers; it is the top, and its polynomial is 1
  pub top-value : IsBelow A (word_at e.members y) (word_at e.members w)
      → (0 < length numbers)
      × IsInverse A (word_at e.members (number_before numbers 0)) (word_at e.members w) (coefficient (pos 1 ∷ []))
      × (number_before numbers 0 ≡ w) × IsPolynomial (pos 1 ∷ [])
  top-value b = (
    last.0,
    record {
      row = inverse_of A g (word_at e.members w);
      is = inverse_of-is A g (word_at e.members w);
      at = λ k. one k ∙ sym (ap (λ (x : List ℕ). inverse_of A g (word_at e.members w) x k) (ap (word_at e.members) last.1)
          ∙ inverse_row-top A g (word_at e.members w) (inverse_of A g (word_at e.members w)) (inverse_of-is A g (word_at e.members w)) k);
    },
    last.1,
    λ some none. omega (arith, ints, none),
  )
    where
      last : (0 < length numbers) × (number_before numbers 0 ≡ w)
      last = last-top e g closed y w inside numbers are b

      one : (k : ℕ) → coefficient (pos 1 ∷ []) k ≡ one_polynomial k
      one zero = refl
      one (suc k) = refl

  -- each Q(u,w) with a place behind the last n members
  inverses-behind : (polynomials : List (List ℤ)) → length polynomials < length numbers → AreInverses e w limit numbers polynomials
      → (u : ℕ) → number_before numbers (length polynomials) < u → IsPair e y w u w
      → IsInverseWithin A limit (word_at e.members u) (word_at e.members w)
  inverses-behind polynomials more h u after p =
      let place = lower-place e g closed y w numbers are u w p
      in let less = place-less numbers are.rising (length numbers - suc (length polynomials)) place.0 (omega (arith, more)) place.1
      (omega (arith, after, place.2))
      in let few : length numbers - suc place.0 < length polynomials = omega (arith, less, place.1, more)
      in let back : length numbers - suc (length numbers - suc place.0) ≡ place.0 = omega (arith, place.1)
      in let at : number_before numbers (length numbers - suc place.0) ≡ u = rw back place.2
      in rw at at (inverse-within A g limit (word_at e.members (number_before numbers (length numbers - suc place.0))) (word_at e.members w)
      (polynomial_at polynomials (length numbers - suc place.0)) (h.value (length numbers - suc place.0) few)
      (h.within (length numbers - suc place.0) few))

  -- the sums for the next member have a coefficient above the limit
  pub sums-fault : (polynomials : List (List ℤ)) (sums : List ℤ) (fault : InverseFault) → ArePairsSmall e y w
      → length polynomials < length numbers → AreInverses e w limit numbers polynomials
      → IsInverse A (word_at e.members (number_before numbers (length polynomials))) (word_at e.members w) (coefficient sums)
      → IsSumFault (number_before numbers (length polynomials)) limit sums fault → IsInverseFault e y w limit fault
  sums-fault polynomials sums (Coefficient u z degree value) small more h is never = absurd never
  sums-fault polynomials sums (Inverse u degree value) small more h is (same, first) = rw same (record {
    small = small;
    pair = record {
      x_member = before-member e g closed y w inside numbers are (length polynomials) more;
      z_member = inside;
      above = before-above e g closed y w inside numbers are (length polynomials) more;
      order = before-below e g closed y w inside numbers are (length polynomials) more;
      below = below-refl A g (same-refl A g (word_at e.members w));
    };
    least = least-large_inverse A g limit (word_at e.members (number_before numbers (length polynomials)))
        (word_at e.members w) sums is degree
        value first;
    behind = inverses-behind polynomials more h;
  })
  sums-fault polynomials sums NoMemory small more h is nothing = tt

  -- no coefficient is above its limit
  pub all-within : ArePairsSmall e y w → (polynomials : List (List ℤ)) → length polynomials ≡ length numbers
      → AreInverses e w limit numbers polynomials → AreWithinLimits A limit (word_at e.members y) (word_at e.members w)
  all-within small polynomials size h = record {
    polynomials = λ x z above order below.
        let top = below-member A g e.members closed z w inside below
        in let order_top = below-same A g (same-refl A g x) top.same order
        in let low = below-member A g e.members closed x top.i top.within order_top
        in within-same A g MAX_COEFFICIENT x (word_at e.members low.i) z (word_at e.members top.i) low.same top.same
        (small low.i top.i (record {
          x_member = low.within;
          z_member = top.within;
          above = below-same A g (same-refl A g (word_at e.members y)) low.same above;
          order = below-same A g low.same (same-refl A g (word_at e.members top.i)) order_top;
          below = below-same A g top.same (same-refl A g (word_at e.members w)) below;
        }));
    inverses = λ x above below.
        let low = below-member A g e.members closed x w inside below
        in let place = are.whole low.i low.within (below-same A g (same-refl A g (word_at e.members y)) low.same above)
        (below-same A g low.same (same-refl A g (word_at e.members w)) below)
        in let few : length numbers - suc place.0 < length polynomials = omega (arith, place.1, size)
        in let back : length numbers - suc (length numbers - suc place.0) ≡ place.0 = omega (arith, place.1)
        in let at : number_before numbers (length numbers - suc place.0) ≡ low.i = rw back place.2
        in inverse-within_same A g limit x (word_at e.members w) (word_at e.members low.i) low.same
        (rw at at (inverse-within A g limit (word_at e.members (number_before numbers (length numbers - suc place.0))) (word_at e.members w)
        (polynomial_at polynomials (length numbers - suc place.0)) (h.value (length numbers - suc place.0) few)
        (h.within (length numbers - suc place.0) few)));
  }
