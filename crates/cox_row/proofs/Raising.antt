-- Raising an element by the descents of another: what is raised stands for what it comes from, and comes later among the members.
use Rattle.std.proofs.Common.{◌≡◌, ℕ, ◌+◌, ◌<◌, ◌≤◌, List, [], ◌∷◌, ◌++◌, length, Option, None, Some, ap, ⊎_elim, arith}
use Rattle.std.proofs.lemmas.Bool.{cases_lt}
use Rattle.cox_base.specs.IntegerMatrix.{IntegerMatrix}
use Rattle.cox_base.specs.Admissible.{IsAdmissible}
use Rattle.cox_base.specs.Element.{SameElement}
use Rattle.cox_base.specs.ShortLex.{normal_form}
use Rattle.cox_base.specs.Length.{word_length}
use Rattle.cox_base.specs.Bruhat.{IsBelow}
use Rattle.cox_reflect.proofs.Elements.{same-refl, same-sym, same-square, same-push_twice}
use Rattle.cox_reflect.proofs.Search.{normal_form-same, word_length-equal}
use Rattle.cox_reflect.proofs.Deletion.{left_length, right_length}
use Rattle.cox_reflect.proofs.Roots.{left_descent-letter, descent-letter}
use Rattle.cox_reflect.proofs.Bruhat.{below-same, below-cons, below-push, below-ascent}
use Rattle.cox_hecke.proofs.PolynomialValues.{kazhdan_lusztig-same, kazhdan_lusztig-left, kazhdan_lusztig-right}
use Rattle.cox_context.specs.Closed.{IsClosed}
use Rattle.cox_context.specs.Numbers.{word_at}
use Rattle.cox_context.specs.Numbering.{IsNumberOf}
use Rattle.cox_context.proofs.Shifting.{length-at, member-below, below-right_ascent}
use Rattle.cox_row.specs.Raised.{IsRaised, on_left, on_right, IsRaisedTo, raise_to, LeadsTo, StandsFor}
use Rattle.cox_row.specs.LetterSets.{IsMissing, AreLeftDescents, AreRightDescents}

-- a letter that is missing on the left, or on the right, raises x
module _ (A : IntegerMatrix) (words : List (List ℕ)) (w x : List ℕ) (wanted present s : ℕ) (missing : IsMissing wanted present s) where
  leads : (y : List ℕ) (found : Option ℕ) → IsRaised A w x y → IsNumberOf words (normal_form A y) found
      → LeadsTo A words w x (raise_to found)
  leads y None r n = record { y = y; raised = r; number = n }
  leads y (Some k) r n = record { y = y; raised = r; number = n }

  pub leads-left : (found : Option ℕ) → AreLeftDescents A w wanted → AreLeftDescents A x present
      → IsNumberOf words (normal_form A (s ∷ x)) found → LeadsTo A words w x (raise_to found)
  leads-left found l m n = leads (s ∷ x) found
      (on_left s (rw missing.letter ((l missing.bit).0 missing.among)) (λ d. missing.lacks ((m missing.bit).1 (rw missing.letter at d)))) n

  pub leads-right : (found : Option ℕ) → AreRightDescents A w wanted → AreRightDescents A x present
      → IsNumberOf words (normal_form A (x ++ s ∷ [])) found → LeadsTo A words w x (raise_to found)
  leads-right found r h n = leads (x ++ s ∷ []) found
      (on_right s (rw missing.letter ((r missing.bit).0 missing.among)) (λ d. missing.lacks ((h missing.bit).1 (rw missing.letter at d)))) n

module _ (A : IntegerMatrix) (g : IsAdmissible A) where
  pub stands-refl : (w x : List ℕ) → StandsFor A w x x
  stands-refl w x = record { to = λ b. b; from = λ b. b; same = λ f p. p }

  pub stands-trans : {w x y z : List ℕ} → StandsFor A w x y → StandsFor A w y z → StandsFor A w x z
  stands-trans h j = record { to = λ b. j.to (h.to b); from = λ b. h.from (j.from b); same = λ f p. h.same f (j.same f p) }

  pub stands-same : {w x y z : List ℕ} → SameElement A y z → StandsFor A w x y → StandsFor A w x z
  stands-same {w} {x} {y} {z} e h = record {
    to = λ b. below-same A g e (same-refl A g w) (h.to b);
    from = λ b. h.from (below-same A g (same-sym A g e) (same-refl A g w) b);
    same = λ f p. h.same f (kazhdan_lusztig-same A g z y w w f (same-sym A g e) (same-refl A g w) p);
  }

  -- an element to which x is raised stands for it, and is one letter longer
  pub raised-stands : {w x y : List ℕ} → IsRaised A w x y → StandsFor A w x y
  raised-stands {w} {x} (on_left s d n) = record {
    to = λ b. below-cons A g x w s d b;
    from = λ b. below-same A g (same-square A g s x) (same-refl A g w) (below-cons A g (s ∷ x) w s d b);
    same = λ f p. kazhdan_lusztig-same A g (s ∷ s ∷ x) x w w f (same-square A g s x) (same-refl A g w)
        (kazhdan_lusztig-left A g (s ∷ x) w s f d p);
  }
  raised-stands {w} {x} (on_right s d n) = record {
    to = λ b. below-push A g x w s d b;
    from = λ b. below-same A g (same-push_twice A g x s) (same-refl A g w) (below-push A g (x ++ s ∷ []) w s d b);
    same = λ f p. kazhdan_lusztig-same A g ((x ++ s ∷ []) ++ s ∷ []) x w w f (same-push_twice A g x s) (same-refl A g w)
        (kazhdan_lusztig-right A g (x ++ s ∷ []) w s f d p);
  }

  pub raised-longer : {w x y : List ℕ} → IsRaised A w x y → word_length A y ≡ word_length A x + 1
  raised-longer {w} {x} (on_left s d n) =
      ⊎_elim (λ up. up) (λ down. absurd (n (omega (arith, down)))) (left_length A g s x (left_descent-letter A g w s d))
  raised-longer {w} {x} (on_right s d n) =
      ⊎_elim (λ up. up) (λ down. absurd (n (omega (arith, down)))) (right_length A g x s (descent-letter A g w s d))

  raised-above : {w x y : List ℕ} → IsRaised A w x y → IsBelow A x y
  raised-above {w} {x} (on_left s d n) = below-ascent A g x s (left_descent-letter A g w s d) (omega (arith, raised-longer (on_left s d n)))
  raised-above {w} {x} (on_right s d n) = below-right_ascent A g x s (omega (arith, raised-longer (on_right s d n)))

  module _ (words : List (List ℕ)) (closed : IsClosed A words) where
    -- a member to which x is raised
    pub raised-later : (w : List ℕ) (i k : ℕ) → i < length words → (r : IsRaisedTo A words w (word_at words i) (Some k))
        → (i < k) × (k < length words) × StandsFor A w (word_at words i) (word_at words k)
    raised-later w i k l r = (later, r.number.0, stands-same same (raised-stands r.raised))
      where
        same : SameElement A r.y (word_at words k)
        same = rw r.number.1 (same-sym A g (normal_form-same A g r.y))

        one_place : k ≤ i → k ≡ i
        one_place h =
            let up = closed.upward i k l r.number.0 (below-same A g (same-refl A g (word_at words i)) same (raised-above r.raised))
            in omega (arith, h, up)

        later : i < k
        later = ⊎_elim (λ h. h)
            (λ (h : k ≤ i). absurd (omega (
              arith,
              ap (λ j. length (word_at words j)) (one_place h),
              raised-longer r.raised,
              word_length-equal A g same,
              length-at A g words closed i l,
              length-at A g words closed k r.number.0,
            )))
            (cases_lt i k)

    -- what is no member is not below a member
    pub raised-outside : (i j : ℕ) → j < length words → IsRaisedTo A words (word_at words j) (word_at words i) None
        → IsBelow A (word_at words i) (word_at words j) → ⊥
    raised-outside i j l r b = r.number (member-below A g words closed r.y j l ((raised-stands r.raised).to b))
