-- A context that is a whole finite group: the longest element is the last member, products with it are members, and where all rows are
-- within a limit, so are the inverse rows.
use Rattle.std.proofs.Common.{◌≡◌, ℕ, ◌+◌, ◌<◌, ◌≤◌, List, [], ◌∷◌, ◌++◌, length, get_or, take, ℤ, ◌∙◌, arith}
use Rattle.std.specs.Prelude.{◌≤ℤ◌, Contains}
use Rattle.std.proofs.lemmas.List.{append-nil, append_assoc, take_more}
use Rattle.std.proofs.lemmas.List.Elements.{All-get_or}
use Rattle.cox_base.specs.Matrix.{IsLetter}
use Rattle.cox_base.specs.IntegerMatrix.{IntegerMatrix, integer_matrix}
use Rattle.cox_base.specs.Admissible.{IsAdmissible}
use Rattle.cox_base.specs.Element.{SameElement}
use Rattle.cox_base.specs.ShortLex.{normal_form}
use Rattle.cox_base.specs.Bruhat.{IsBelow}
use Rattle.cox_reflect.proofs.Elements.{same-refl, same-sym, same-trans, same-equal, same-push}
use Rattle.cox_reflect.proofs.Search.{normal_form-same, normal_form-equal}
use Rattle.cox_reflect.proofs.Bruhat.{below-same, below-least}
use Rattle.cox_reflect.proofs.NormalElements.{element-word}
use Rattle.cox_poly.specs.Coefficients.{Coefficients}
use Rattle.cox_hecke.specs.Row.{IsKazhdanLusztig}
use Rattle.cox_hecke.proofs.PolynomialValues.{kazhdan_lusztig-exists, kazhdan_lusztig-same}
use Rattle.cox_context.specs.Closed.{Elements, IsClosed}
use Rattle.cox_context.specs.Numbers.{word_at}
use Rattle.cox_context.proofs.Shifting.{element-at, member-below}
use Rattle.cox_row_builder.specs.LargeMembers.{IsWithinLimit}
use Rattle.cox_row_builder.proofs.LargeCoefficients.{within-more, within-same}
use Rattle.cox_inverse.specs.declared.fault.TheConstants.{MAX_COEFFICIENT}
use Rattle.cox_inverse.specs.WholeGroups.{IsLongestMember, IsTurned}
use Rattle.cox_inverse.specs.InverseRow.{IsInverse}
use Rattle.cox_inverse.specs.InverseFaults.{IsInverseWithin, AreWithinLimits}
use Rattle.cox_inverse.proofs.InversePolynomials.{inverse-unique}
use Rattle.cox_inverse.proofs.LongestWord.{turned-back}
use Rattle.cox_inverse.proofs.TurnedAround.{turned-below}
use Rattle.cox_inverse.proofs.InversionByLongest.{inversion-longest}
use Rattle.cox_inverse.proofs.LastMembers.{below-member}

module _ (e : Elements) (g : IsAdmissible (integer_matrix e.matrix)) (closed : IsClosed (integer_matrix e.matrix) e.members)
    (longest : ℕ) (is : IsLongestMember e longest) where
  abbrev A : IntegerMatrix
  A = integer_matrix e.matrix

  -- the letters of a member
  pub member-letter : (x : ℕ) → x < length e.members → (i : ℕ) → i < length (word_at e.members x)
      → IsLetter A.rank (get_or (word_at e.members x) i 0)
  member-letter x l i m =
      All-get_or (IsLetter A.rank) (word_at e.members x) i 0 m (element-word A g (word_at e.members x)
      (element-at A g e.members closed x l))

  -- no product with the longest element is above it
  turned-low : (x : List ℕ) → IsBelow A (word_at e.members longest ++ x) (word_at e.members longest)
  turned-low x = rw append-nil at (turned-below A g (word_at e.members longest) is.is [] x (below-least A g x))

  -- each element is below it
  all-below : (x : List ℕ) → IsBelow A x (word_at e.members longest)
  all-below x = below-same A g (turned-back A g (word_at e.members longest) is.is x) (same-refl A g (word_at e.members longest))
      (turned-low (word_at e.members longest ++ x))

  -- it is the last member
  pub longest-last : (last : ℕ) → last < length e.members → length e.members ≤ last + 1 → longest ≡ last
  longest-last last l end =
      let before = closed.upward last longest l is.member (all-below (word_at e.members last))
      in omega (arith, before, end, is.member)

  shifted : (at s : ℕ) (done : List ℕ) → word_at e.members at ≡ normal_form A (word_at e.members longest ++ done)
      → SameElement A (word_at e.members at ++ s ∷ []) (word_at e.members longest ++ (done ++ s ∷ []))
  shifted at s done same =
      rw (← append_assoc)
      (same-push A g s (same-trans A g (same-equal A g same) (normal_form-same A g (word_at e.members longest ++ done))))

  -- a right shift of such a product
  pub turned-shift : (at s : ℕ) (done : List ℕ) → word_at e.members at ≡ normal_form A (word_at e.members longest ++ done)
      → Contains e.members (normal_form A (word_at e.members at ++ s ∷ []))
  turned-shift at s done same =
      member-below A g e.members closed (word_at e.members at ++ s ∷ []) longest is.member
      (below-same A g (same-sym A g (shifted at s done same)) (same-refl A g (word_at e.members longest)) (turned-low (done ++ s ∷ [])))

  pub turned-longer : (letters : List ℕ) (i at k : ℕ) → i < length letters
      → word_at e.members at ≡ normal_form A (word_at e.members longest ++ take i letters)
      → word_at e.members k ≡ normal_form A (word_at e.members at ++ get_or letters i 0 ∷ [])
      → word_at e.members k ≡ normal_form A (word_at e.members longest ++ take (i + 1) letters)
  turned-longer letters i at k l same found =
      rw (take_more letters i 0 l) (found ∙ normal_form-equal A g (shifted at (get_or letters i 0) (take i letters) same))

  -- the number of w0 x names its element
  pub turned-same : (x i : ℕ) → IsTurned e longest x i
      → SameElement A (word_at e.members i) (word_at e.members longest ++ word_at e.members x)
  turned-same x i t =
      same-trans A g (same-equal A g t.1) (normal_form-same A g (word_at e.members longest ++ word_at e.members x))

  -- P(w0 w, w0 x) by numbers
  pub turned-value : (x w i j : ℕ) (f : Coefficients) → IsTurned e longest x i → IsTurned e longest w j
      → IsKazhdanLusztig A (word_at e.members j) (word_at e.members i) f → IsInverse A (word_at e.members x) (word_at e.members w) f
  turned-value x w i j f t u value =
      inversion-longest A g (word_at e.members longest) is.is (word_at e.members x) (word_at e.members w) f
      (kazhdan_lusztig-same A g (word_at e.members j) (word_at e.members longest ++ word_at e.members w) (word_at e.members i)
      (word_at e.members longest ++ word_at e.members x) f (turned-same w j u) (turned-same x i t) value)

  pub turned-order : (x w i j : ℕ) → IsTurned e longest x i → IsTurned e longest w j
      → IsBelow A (word_at e.members x) (word_at e.members w) → IsBelow A (word_at e.members j) (word_at e.members i)
  turned-order x w i j t u b =
      below-same A g (same-sym A g (turned-same w j u)) (same-sym A g (turned-same x i t))
      (turned-below A g (word_at e.members longest) is.is (word_at e.members x) (word_at e.members w) b)

  module _ (limit : ℤ) (small : (x : List ℕ) (i : ℕ) → i < length e.members → IsWithinLimit A limit x (word_at e.members i)) where
    -- each P(x,z) where z is below a member
    all-polynomials : (x z : List ℕ) (w : ℕ) → w < length e.members → IsBelow A z (word_at e.members w) → IsWithinLimit A limit x z
    all-polynomials x z w l b =
        let member = below-member A g e.members closed z w l b
        in within-same A g limit x x z (word_at e.members member.i) (same-refl A g x) member.same (small x member.i member.within)

    all-inverses : (x w : List ℕ) → IsInverseWithin A limit x w
    all-inverses x w k c large =
        let f = kazhdan_lusztig-exists A g (word_at e.members longest ++ w) (word_at e.members longest ++ x)
        in let inverse = inversion-longest A g (word_at e.members longest) is.is x w f.0 f.1
        in all-polynomials (word_at e.members longest ++ w) (word_at e.members longest ++ x) longest is.member (turned-low x) k c (record {
          polynomial = f.0;
          is = f.1;
          value = inverse-unique A g x w f.0 large.polynomial inverse large.is k ∙ large.value;
          above = large.above;
        })

    pub whole-within : (y : List ℕ) (w : ℕ) → w < length e.members → limit ≤ℤ MAX_COEFFICIENT → AreWithinLimits A limit y
        (word_at e.members w)
    whole-within y w l most = record {
      polynomials = λ x z above order below. within-more A x z limit MAX_COEFFICIENT most (all-polynomials x z w l below);
      inverses = λ x above below. all-inverses x (word_at e.members w);
    }
