-- The texts of single polynomials of a row, and of mu.
use Rattle.std.proofs.Common.{◌≡◌, ℕ, ◌-◌, ◌/◌, ◌%◌, ◌==◌, ◌<◌, Bool, true, false, if◌then◌else◌, List, [], length, Contains, codes, ◌↔◌}
use Rattle.std.proofs.Common.{Option, None, Some, IfSome, IfNone, IsSome}
use Rattle.std.proofs.Common.{ℤ, pos, refl, sym, ap, ◌∙◌}
use Rattle.std.specs.Fmt.{signed_decimal}
use Rattle.cox_base.specs.IntegerMatrix.{IntegerMatrix}
use Rattle.cox_base.specs.Admissible.{IsAdmissible}
use Rattle.cox_base.specs.ShortLex.{normal_form}
use Rattle.cox_base.specs.Length.{word_length}
use Rattle.cox_base.specs.Bruhat.{IsBelow}
use Rattle.cox_reflect.proofs.Elements.{same-refl, same-sym}
use Rattle.cox_reflect.proofs.Search.{normal_form-same, normal_form-equal}
use Rattle.cox_reflect.proofs.Lengths.{word_length-is}
use Rattle.cox_reflect.proofs.Bruhat.{below-same}
use Rattle.cox_poly.specs.Coefficients.{Coefficients}
use Rattle.cox_poly.specs.Polynomial.{coefficient}
use Rattle.cox_poly.specs.PolynomialText.{polynomial_text}
use Rattle.cox_hecke.specs.Row.{IsKazhdanLusztig, IsMu, middle_coefficient}
use Rattle.cox_hecke.proofs.AllRows.{row_of, row_of-is, mu-same, mu-by_row}
use Rattle.cox_hecke.proofs.PolynomialValues.{kazhdan_lusztig-same}
use Rattle.cox_context.specs.Closed.{IsClosed}
use Rattle.cox_context.specs.Numbers.{word_at}
use Rattle.cox_context.proofs.Shifting.{member-below}
use Rattle.cox_replies.specs.RowReply.{IsPolText, IsMuText}
use Rattle.cox_replies.proofs.PairTexts.{row-value, row-text}

-- the middle coefficient of 0
middle-zero : (d : ℕ) (f : Coefficients) → ((k : ℕ) → f k ≡ pos 0) → pos 0 ≡ middle_coefficient d f
middle-zero d f zeros = go (d % 2 == 1)
  where
    go : (odd : Bool) → pos 0 ≡ (if odd then f (d / 2) else pos 0)
    go true = sym (zeros (d / 2))
    go false = refl

module _ (A : IntegerMatrix) (g : IsAdmissible A) where
  pub pol-text : (y w v : List ℕ) (p : List ℤ) → v ≡ normal_form A w → IsKazhdanLusztig A y v (coefficient p)
      → IsPolText A y w (polynomial_text p)
  pol-text y w v p e is =
      (row_of A g w, row_of-is A g w, row-text A g w (row_of A g w) (row_of-is A g w) y v p (rw e (normal_form-same A g w)) is)

  -- not below a word of w
  below-w : (y w v : List ℕ) → v ≡ normal_form A w → (IsBelow A y v → ⊥) → IsBelow A y w → ⊥
  below-w y w v e none below =
      none (below-same A g (same-refl A g y) (rw e (same-sym A g (normal_form-same A g w))) below)

  pub pol-zero : (y w v : List ℕ) → v ≡ normal_form A w → (IsBelow A y v → ⊥) → IsPolText A y w (codes "0")
  pol-zero y w v e none =
      let zero : IsKazhdanLusztig A y w (coefficient []) =
      record { row = row_of A g w; is = row_of-is A g w; at = λ k. sym ((row_of-is A g w).outside y (below-w y w v e none) k) } in
      (row_of A g w, row_of-is A g w, row-text A g w (row_of A g w) (row_of-is A g w) y w [] (same-refl A g w) zero)

  -- the normal form has the same length
  length-same : (w v : List ℕ) → v ≡ normal_form A w → word_length A v ≡ word_length A w
  length-same w v e = ap (word_length A) e ∙ word_length-is A (normal_form A w)
      ∙ ap length (normal_form-equal A g (normal_form-same A g w)) ∙ sym (word_length-is A w)

  -- mu by another word of w
  pub mu-text : (y w v : List ℕ) (m : ℤ) → v ≡ normal_form A w → IsMu A y v m → IsMuText A y w (signed_decimal m)
  mu-text y w v m e is = (
    m,
    mu-by_row A g y w m (row_of A g w) (row_of-is A g w) (is.value
        ∙ ap (λ n. middle_coefficient (n - word_length A y) (is.row y)) (length-same w v e)
        ∙ ap (middle_coefficient (word_length A w - word_length A y)) (row-value A g w (row_of A g w) (row_of-is A g w) y v (is.row y)
        (rw e (normal_form-same A g w)) (record { row = is.row; is = is.is; at = λ k. refl }))),
    refl,
  )

  pub mu-none : (y v : List ℕ) → (IsBelow A y v → ⊥) → IsMu A y v (pos 0)
  mu-none y v none = mu-by_row A g y v (pos 0) (row_of A g v) (row_of-is A g v)
      (middle-zero (word_length A v - word_length A y) (row_of A g v y) ((row_of-is A g v).outside y none))

  -- an element that is no member is below none
  module _ (members : List (List ℕ)) (closed : IsClosed A members) where
    pub outside-below : (y : List ℕ) (i : ℕ) → i < length members → (Contains members (normal_form A y) → ⊥)
        → IsBelow A y (word_at members i) → ⊥
    outside-below y i within none below = none (member-below A g members closed y i within below)

    -- of a member with the normal form of y
    pub polynomials-member : (y : List ℕ) (x i : ℕ) (found : Option (List ℤ)) → word_at members x ≡ normal_form A y
        → IfSome found (λ p. IsKazhdanLusztig A (word_at members x) (word_at members i) (coefficient p))
        → IfSome found (λ p. IsKazhdanLusztig A y (word_at members i) (coefficient p))
    polynomials-member y x i None e is = tt
    polynomials-member y x i (Some p) e is = kazhdan_lusztig-same A g (word_at members x) y (word_at members i) (word_at members i)
        (coefficient p) (rw e (normal_form-same A g y)) (same-refl A g (word_at members i)) is

    pub below-member : (y : List ℕ) (x i : ℕ) (found : Option (List ℤ)) → word_at members x ≡ normal_form A y
        → IsSome found ↔ IsBelow A (word_at members x) (word_at members i) → IfNone found (IsBelow A y (word_at members i) → ⊥)
    below-member y x i None e tells = λ below.
        absurd (cc (tells.1 (below-same A g (rw e (same-sym A g (normal_form-same A g y))) (same-refl A g (word_at members i)) below)))
    below-member y x i (Some p) e tells = tt

    pub mu-member : (y : List ℕ) (x i : ℕ) (m : ℤ) → word_at members x ≡ normal_form A y
        → IsMu A (word_at members x) (word_at members i) m → IsMu A y (word_at members i) m
    mu-member y x i m e is = mu-same A g (word_at members x) y (word_at members i) m (rw e (normal_form-same A g y)) is
