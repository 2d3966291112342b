-- Exchange on either side, deletion, parity (Humphreys 5.8), and the law on s w t.
use Rattle.std.proofs.Common.{◌%◌, ◌≡◌, ℕ, ◌+◌, ◌*◌, ◌≤◌, ◌<◌, List, [], ◌∷◌, ◌++◌, length, reverse, ◌⊎◌, refl, ap, sym, ◌∙◌}
use Rattle.std.proofs.Common.{⊎_elim, inl, inr, arith}
use Rattle.std.proofs.lemmas.Bool.{cases_lt}
use Rattle.std.proofs.lemmas.List.{reverse-reverse}
use Rattle.std.proofs.lemmas.List.Elements.{All-head, All-tail}
use Rattle.cox_base.specs.Matrix.{IsLetter, IsWord}
use Rattle.cox_base.specs.IntegerMatrix.{IntegerMatrix}
use Rattle.cox_base.specs.Admissible.{IsAdmissible}
use Rattle.cox_base.specs.Element.{SameElement}
use Rattle.cox_base.specs.ShortLex.{normal_form}
use Rattle.cox_base.specs.Length.{word_length}
use Rattle.cox_base.specs.Reduced.{IsReduced}
use Rattle.cox_base.specs.Descents.{IsLeftDescent, IsRightDescent}
use Rattle.cox_reflect.specs.Exchange.{LeavesOneOut, LeavesTwoOut}
use Rattle.cox_reflect.specs.DerivedWords.{reflection, IsWithoutOne, this_one, later_one}
use Rattle.cox_reflect.proofs.Elements.{act-same, same-sym, same-trans, same-cons, same-push, same-square, same-push_twice}
use Rattle.cox_reflect.proofs.Elements.{same-drop_prefix}
use Rattle.cox_reflect.proofs.Action.{act-cons, act-append, reverse-act}
use Rattle.cox_reflect.specs.Action.{reflect}
use Rattle.cox_reflect.specs.WordAction.{act}
use Rattle.cox_reflect.proofs.Search.{normal_form-same, word_length-least, word_length-equal, word_length-length}
use Rattle.cox_reflect.proofs.Lengths.{word_length-reverse, word_length-cons_reverse, IsReduced-normal_form}
use Rattle.cox_reflect.proofs.Roots.{SignOf, longer, shorter, sign_of, descent-letter, left_descent-letter}
use Rattle.cox_reflect.proofs.Exchange.{Reflected, letter_goes, grows, reflected, act-reflection, length-without_one}

module _ (A : IntegerMatrix) (g : IsAdmissible A) where
  reflection-nil : (s : ℕ) → reflection [] s ≡ s ∷ []
  unfolding reflection
  reflection-nil s = refl

  -- where s shortens u on the right, u s is u without one of its letters
  pub exchange_right : (u : List ℕ) (s : ℕ) → IsRightDescent A u s → LeavesOneOut A u (u ++ s ∷ [])
  exchange_right u s d = go (reflected A g u [] s (descent-letter A g u s d))
    where
      go : Reflected A u [] s → LeavesOneOut A u (u ++ s ∷ [])
      go (letter_goes v w e) = record { rest = v; without = w; same = rw reflection-nil at e }
      go (grows h) =
          let longer_there : word_length A u < word_length A (u ++ s ∷ []) = rw reflection-nil at h in absurd (omega (arith, d))

  -- s u = u (u^-1 s u)
  pub reflection-left : (u : List ℕ) (s : ℕ) → SameElement A (u ++ reflection (reverse u) s) (s ∷ u)
  reflection-left u s =
      act-same A g (λ v. act-append A u (reflection (reverse u) s) v ∙ ap (act A u) (act-reflection A g (reverse u) s v)
      ∙ rw (reverse-reverse u, reverse-act A g u (reflect A s (act A u v)), act-cons A s u v))

  -- the same on the left
  pub exchange_left : (u : List ℕ) (s : ℕ) → IsLeftDescent A u s → LeavesOneOut A u (s ∷ u)
  exchange_left u s d = go (reflected A g u (reverse u) s (left_descent-letter A g u s d))
    where
      go : Reflected A u (reverse u) s → LeavesOneOut A u (s ∷ u)
      go (letter_goes v w e) =
          record { rest = v; without = w; same = same-trans A g (same-sym A g (reflection-left u s)) e }
      go (grows h) = absurd (omega (arith, d, h, word_length-equal A g (reflection-left u s)))

  -- ---- a letter changes the length by one

  pub right_length : (u : List ℕ) (s : ℕ) → IsLetter A.rank s
      → (word_length A (u ++ s ∷ []) ≡ word_length A u + 1) ⊎ (word_length A u ≡ word_length A (u ++ s ∷ []) + 1)
  right_length u s l = go (sign_of A g u s l)
    where
      go : SignOf A u s
          → (word_length A (u ++ s ∷ []) ≡ word_length A u + 1) ⊎ (word_length A u ≡ word_length A (u ++ s ∷ []) + 1)
      go (longer e p) = inl e
      go (shorter e n) = inr e

  pub left_length : (s : ℕ) (u : List ℕ) → IsLetter A.rank s
      → (word_length A (s ∷ u) ≡ word_length A u + 1) ⊎ (word_length A u ≡ word_length A (s ∷ u) + 1)
  left_length s u l =
      rw (← (word_length-cons_reverse A g s u), word_length-reverse A g u) at (right_length (reverse u) s l)

  -- |u| and l(u) differ by an even number
  pub parity : (u : List ℕ) → IsWord A.rank u → (d : ℕ) × (length u ≡ word_length A u + 2 * d)
  parity [] h = (0, omega (arith, word_length-length A g []))
  parity (s ∷ u) h =
      go (parity u (All-tail (IsLetter A.rank) s u h)) (left_length s u (All-head (IsLetter A.rank) s u h))
    where
      go : (d : ℕ) × (length u ≡ word_length A u + 2 * d)
          → (word_length A (s ∷ u) ≡ word_length A u + 1) ⊎ (word_length A u ≡ word_length A (s ∷ u) + 1)
          → (d : ℕ) × (length (s ∷ u) ≡ word_length A (s ∷ u) + 2 * d)
      go r side = ⊎_elim (λ e. (r.0, omega (arith, r.1, e))) (λ e. (r.0 + 1, omega (arith, r.1, e))) side

  -- ---- deletion

  -- a word that is not reduced names the element that it names without two of its letters
  pub deletion : (u : List ℕ) → IsWord A.rank u → word_length A u < length u → LeavesTwoOut A u u
  deletion [] h l = absurd (omega arith)
  deletion (s ∷ u) h l =
      ⊎_elim (further (deletion u (All-tail (IsLetter A.rank) s u h))) here (cases_lt (word_length A u) (length u))
    where
      further : (word_length A u < length u → LeavesTwoOut A u u) → word_length A u < length u
          → LeavesTwoOut A (s ∷ u) (s ∷ u)
      further rest k =
          let r = rest k
          in record {
            between = s ∷ r.between;
            rest = s ∷ r.rest;
            first = later_one r.first;
            second = later_one r.second;
            same = same-cons
                A g s r.same;
          }

      here : length u ≤ word_length A u → LeavesTwoOut A (s ∷ u) (s ∷ u)
      here k =
          let d : IsLeftDescent A u s = ⊎_elim (λ e. absurd (omega (arith, e, k, l))) (λ e. omega (arith, e))
          (left_length s u (All-head (IsLetter A.rank) s u h))
          in let r = exchange_left u s d
          in record { between = u; rest = r.rest; first = this_one; second = r.without; same = r.same }

  -- ---- the law on s w t

  sides_reduced : (s t : ℕ) (r : List ℕ) → IsReduced A r → word_length A ((s ∷ r) ++ t ∷ []) ≡ word_length A r
      → word_length A (s ∷ r) ≡ word_length A (r ++ t ∷ [])
      → word_length A (s ∷ r) ≡ word_length A r + 1 → SameElement A (s ∷ r) (r ++ t ∷ [])
  sides_reduced s t r h outer inner up = go (exchange_right (s ∷ r) t (omega (arith, outer, up)))
    where
      of_rest : {v : List ℕ} → IsWithoutOne v (s ∷ r) → SameElement A ((s ∷ r) ++ t ∷ []) v
          → SameElement A (s ∷ r) (r ++ t ∷ [])
      of_rest this_one e = same-trans A g (same-sym A g (same-push_twice A g (s ∷ r) t)) (same-push A g t e)
      of_rest (later_one {v = x} w) e =
          absurd (omega (
            arith,
            h,
            inner,
            up,
            length-without_one w,
            word_length-least A g (same-sym A g (same-drop_prefix A g (s ∷ []) {u = r ++ t ∷ []} {v = x} e)),
          ))

      go : LeavesOneOut A (s ∷ r) ((s ∷ r) ++ t ∷ []) → SameElement A (s ∷ r) (r ++ t ∷ [])
      go x = of_rest x.without x.same

  sides_longer : (s t : ℕ) (w : List ℕ) → word_length A ((s ∷ w) ++ t ∷ []) ≡ word_length A w
      → word_length A (s ∷ w) ≡ word_length A (w ++ t ∷ []) → word_length A (s ∷ w) ≡ word_length A w + 1
      → SameElement A (s ∷ w) (w ++ t ∷ [])
  sides_longer s t w outer inner up =
      let e : SameElement A (normal_form A w) w = normal_form-same A g w
      in let es = word_length-equal A g (same-cons A g s e)
      in let et = word_length-equal A g (same-push A g t e)
      in let est = word_length-equal A g (same-push A g t (same-cons A g s e))
      in let ew = word_length-equal A g e
      in same-trans A g (same-sym A g (same-cons A g s e))
      (same-trans A g
      (sides_reduced s t (normal_form A w) (IsReduced-normal_form A g w) (est ∙ outer ∙ sym ew) (es ∙ inner ∙ sym et)
      (omega (arith, es, up, ew)))
      (same-push A g t e))

  -- l(swt) = l(w) and l(sw) = l(wt) give sw = wt
  pub sides_same : (s t : ℕ) (w : List ℕ) → IsLetter A.rank s → word_length A ((s ∷ w) ++ t ∷ []) ≡ word_length A w
      → word_length A (s ∷ w) ≡ word_length A (w ++ t ∷ [])
      → SameElement A (s ∷ w) (w ++ t ∷ [])
  sides_same s t w l outer inner = ⊎_elim (sides_longer s t w outer inner) down (left_length s w l)
    where
      down : word_length A w ≡ word_length A (s ∷ w) + 1 → SameElement A (s ∷ w) (w ++ t ∷ [])
      down e =
          let twice : word_length A (s ∷ s ∷ w) ≡ word_length A w = word_length-equal A g (same-square A g s w)
          in let twice_t : word_length A ((s ∷ s ∷ w) ++ t ∷ []) ≡ word_length A (w ++ t ∷ []) = word_length-equal A g
          (same-push A g t (same-square A g s w))
          in let across : SameElement A (s ∷ s ∷ w) ((s ∷ w) ++ t ∷ [])
          = sides_longer s t (s ∷ w) (omega (arith, twice_t, inner)) (omega (arith, twice, outer)) (omega (arith, twice, e))
          in same-drop_prefix A g (s ∷ []) {u = s ∷ w} {v = w ++ t ∷ []} across

  pub parity_mod : (u : List ℕ) → IsWord A.rank u → length u % 2 ≡ word_length A u % 2
  parity_mod u h = let d = parity u h in omega (arith, d.1)
