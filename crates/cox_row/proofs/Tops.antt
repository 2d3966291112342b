-- Each x ≤ w is raised to an extremal element: so the polynomials at extremal elements are all polynomials of the row.
use Rattle.std.proofs.Common.{◌≡◌, ◌⊎◌, inl, inr, ℕ, zero, suc, ◌+◌, ◌<◌, ◌≤◌, List, [], ◌∷◌, ◌++◌, ⊎_elim, arith}
use Rattle.std.proofs.lemmas.Bool.{cases_lt}
use Rattle.cox_base.specs.IntegerMatrix.{IntegerMatrix}
use Rattle.cox_base.specs.Admissible.{IsAdmissible}
use Rattle.cox_base.specs.Element.{SameElement}
use Rattle.cox_base.specs.Length.{word_length}
use Rattle.cox_base.specs.Descents.{IsLeftDescent, IsRightDescent}
use Rattle.cox_base.specs.Bruhat.{IsBelow}
use Rattle.cox_reflect.proofs.Elements.{same-cons, same-push}
use Rattle.cox_reflect.proofs.Search.{word_length-equal}
use Rattle.cox_reflect.proofs.Roots.{left_descent-letter, descent-letter}
use Rattle.cox_reflect.proofs.Bruhat.{below-length}
use Rattle.cox_row.specs.Extremal.{IsExtremal}
use Rattle.cox_row.specs.Raised.{IsRaised, on_left, on_right, StandsFor}
use Rattle.cox_row.proofs.Raising.{stands-refl, stands-trans, raised-stands, raised-longer}

-- the descents of w up to the letter n are descents of x
record IsExtremalTo (A : IntegerMatrix) (w x : List ℕ) (n : ℕ) : Type 0 where
  pub left : (s : ℕ) → s ≤ n → IsLeftDescent A w s → IsLeftDescent A x s
  pub right : (s : ℕ) → s ≤ n → IsRightDescent A w s → IsRightDescent A x s

-- an extremal element that stands for x
pub record HasTop (A : IntegerMatrix) (w x : List ℕ) : Type 0 where
  pub top : List ℕ
  pub extremal : IsExtremal A w top
  pub stands : StandsFor A w x top

module _ (A : IntegerMatrix) (g : IsAdmissible A) where
  pub extremal-same : {w x y : List ℕ} → SameElement A x y → IsExtremal A w x → IsExtremal A w y
  extremal-same {w} {x} {y} e h = record {
    left = λ s d. rw (word_length-equal A g (same-cons A g s e), word_length-equal A g e) at (h.left s d);
    right = λ s d. rw (word_length-equal A g (same-push A g s e), word_length-equal A g e) at (h.right s d);
  }

  module _ (w x : List ℕ) where
    -- one letter more
    left-at : (s : ℕ) → (IsLeftDescent A w s → IsLeftDescent A x s) ⊎ ((y : List ℕ) × IsRaised A w x y)
    left-at s =
        ⊎_elim (λ (d : word_length A (s ∷ w) < word_length A w).
        ⊎_elim (λ (yes : word_length A (s ∷ x) < word_length A x). inl (λ _. yes))
        (λ (no : word_length A x ≤ word_length A (s ∷ x)). inr (s ∷ x, on_left s d (λ h. omega (arith, h, no))))
        (cases_lt (word_length A (s ∷ x)) (word_length A x)))
        (λ (none : word_length A w ≤ word_length A (s ∷ w)). inl (λ d. absurd (omega (arith, d, none))))
        (cases_lt (word_length A (s ∷ w)) (word_length A w))

    right-at : (s : ℕ) → (IsRightDescent A w s → IsRightDescent A x s) ⊎ ((y : List ℕ) × IsRaised A w x y)
    right-at s =
        ⊎_elim (λ (d : word_length A (w ++ s ∷ []) < word_length A w).
        ⊎_elim (λ (yes : word_length A (x ++ s ∷ []) < word_length A x). inl (λ _. yes))
        (λ (no : word_length A x ≤ word_length A (x ++ s ∷ [])). inr (x ++ s ∷ [], on_right s d (λ h. omega (arith, h, no))))
        (cases_lt (word_length A (x ++ s ∷ [])) (word_length A x)))
        (λ (none : word_length A w ≤ word_length A (w ++ s ∷ [])). inl (λ d. absurd (omega (arith, d, none))))
        (cases_lt (word_length A (w ++ s ∷ [])) (word_length A w))

    extremal-raised_to : (n : ℕ) → IsExtremalTo A w x n ⊎ ((y : List ℕ) × IsRaised A w x y)
    extremal-raised_to zero = inl record {
      left = λ s l d. absurd (let letter = left_descent-letter A g w s d in omega (arith, letter.from_one, l));
      right = λ s l d. absurd (let letter = descent-letter A g w s d in omega (arith, letter.from_one, l));
    }
    extremal-raised_to (suc n) = ⊎_elim
        (λ (h : IsExtremalTo A w x n). ⊎_elim
        (λ left. ⊎_elim (λ right. inl (more h left right)) (λ r. inr r) (right-at (suc n)))
        (λ r. inr r) (left-at (suc n)))
        (λ r. inr r) (extremal-raised_to n)
      where
        more : IsExtremalTo A w x n → (IsLeftDescent A w (suc n) → IsLeftDescent A x (suc n))
            → (IsRightDescent A w (suc n) → IsRightDescent A x (suc n)) → IsExtremalTo A w x (suc n)
        more h left right = record {
          left = λ s l. ⊎_elim (λ (less : s < suc n). h.left s (omega arith))
              (λ (m : suc n ≤ s). let e : suc n ≡ s = omega arith in rw e at left) (cases_lt s (suc n));
          right = λ s l. ⊎_elim (λ (less : s < suc n). h.right s (omega arith))
              (λ (m : suc n ≤ s). let e : suc n ≡ s = omega arith in rw e at right) (cases_lt s (suc n));
        }

    pub extremal_or_raised : IsExtremal A w x ⊎ ((y : List ℕ) × IsRaised A w x y)
    extremal_or_raised = ⊎_elim
        (λ (h : IsExtremalTo A w x A.rank). inl record {
          left = λ s d. h.left s (left_descent-letter A g w s d).to_rank d;
          right = λ s d. h.right s (descent-letter A g w s d).to_rank d;
        })
        (λ r. inr r) (extremal-raised_to A.rank)

  has_top : (w : List ℕ) (n : ℕ) (x : List ℕ) → word_length A w < word_length A x + n → IsBelow A x w → HasTop A w x
  has_top w zero x l b = absurd (omega (arith, l, below-length A g b))
  has_top w (suc n) x l b = ⊎_elim
      (λ (e : IsExtremal A w x). record { top = x; extremal = e; stands = stands-refl A g w x })
      (λ (r : (y : List ℕ) × IsRaised A w x y).
      let stands = raised-stands A g r.1
      in let h = has_top w n r.0 (omega (arith, l, raised-longer A g r.1)) (stands.to b)
      in record { top = h.top; extremal = h.extremal; stands = stands-trans A g stands h.stands })
      (extremal_or_raised w x)

  pub top-exists : (w x : List ℕ) → IsBelow A x w → HasTop A w x
  top-exists w x b = has_top w (suc (word_length A w)) x (omega arith) b
