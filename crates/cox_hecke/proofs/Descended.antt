-- P(sx,w) = P(x,w) for a left descent s of w, by induction on the length of w: (1 + T(s)) p has the same value at x and at sx, and s is a
-- left descent of each correction. So mu(u,w) is not 0, with s a left descent of w and not of u, only for u = sw: else P(u,w) = P(su,w) has
-- too low a degree.
use Rattle.std.proofs.Common.{◌≡◌, ◌≢◌, ℕ, zero, suc, ◌+◌, ◌-◌, ◌*◌, ◌/◌, ◌%◌, ◌≤◌, ◌<◌, Bool, true, false, not, if◌then◌else◌, List, []}
use Rattle.std.proofs.Common.{◌∷◌, ◌++◌}
use Rattle.std.proofs.Common.{reverse, ◌⊎◌, inl, inr, ⊎_elim, ℤ, pos, ◌-ℤ◌, refl, ap, sym, ◌∙◌, arith}
use Rattle.std.specs.Prelude.{All, ◌==◌}
use Rattle.std.proofs.lemmas.Int.{ints}
use Rattle.std.proofs.lemmas.Bool.{cases_lt}
use Rattle.std.proofs.lemmas.Bool.Decides.{nat_tests}
use Rattle.std.proofs.lemmas.List.{reverse-reverse}
use Rattle.std.proofs.lemmas.List.Elements.{All-head, All-tail, All-weaker}
use Rattle.cox_base.specs.declared.side.Side.TheVariants.{Left}
use Rattle.cox_base.specs.IntegerMatrix.{IntegerMatrix}
use Rattle.cox_base.specs.Admissible.{IsAdmissible}
use Rattle.cox_base.specs.Element.{SameElement}
use Rattle.cox_base.specs.Length.{word_length}
use Rattle.cox_base.specs.Descents.{IsLeftDescent, IsRightDescent}
use Rattle.cox_base.specs.Bruhat.{IsBelow}
use Rattle.cox_reflect.proofs.Elements.{same-sym, same-trans, same-cons, same-square, same-unreverse}
use Rattle.cox_reflect.proofs.Roots.{left_descent-letter, descent-reverse, reverse-descent}
use Rattle.cox_reflect.proofs.Lengths.{cons-word_length}
use Rattle.cox_reflect.proofs.Deletion.{left_length}
use Rattle.cox_reflect.proofs.Bruhat.{below-length, below-equal_length}
use Rattle.cox_reflect.proofs.WordsAndSubwords.{reverse-push}
use Rattle.cox_poly.specs.Coefficients.{Coefficients, times_q}
use Rattle.cox_poly.specs.Products.{times_q_power}
use Rattle.cox_poly.specs.Multiples.{scaled}
use Rattle.cox_rpoly.specs.InverseOperators.{shortens_left}
use Rattle.cox_hecke.specs.Family.{Family, RespectsElements}
use Rattle.cox_hecke.specs.Row.{IsRow, IsMu, middle_coefficient}
use Rattle.cox_hecke.specs.Step.{IsCorrection}
use Rattle.cox_hecke.specs.StepFamily.{step, Correction, AreCorrections, correction_sum}
use Rattle.cox_hecke.proofs.Descents.{reverse-back, shortens_left-back}
use Rattle.cox_hecke.proofs.Signed.{respected, at_inverses}
use Rattle.cox_hecke.proofs.ElementLists.{below_or_not}
use Rattle.cox_hecke.proofs.BarSums.{step-shorter, step-longer}
use Rattle.cox_hecke.proofs.Inverses.{row-reverse}
use Rattle.cox_hecke.proofs.AllRows.{row_of, row_of-is, mu-value, mu-by_row}
use Rattle.cox_hecke.proofs.LeftSteps.{left-recursion, left-corrections_exist}
use Rattle.cox_hecke.proofs.RightSteps.{mu-reverse}

middle_coefficient-none : (d : ℕ) (f : Coefficients) → ((k : ℕ) → f k ≡ pos 0) → middle_coefficient d f ≡ pos 0
middle_coefficient-none d f none = go (d % 2 == 1)
  where
    go : (b : Bool) → (if b then f (d / 2) else pos 0) ≡ pos 0
    go true = none (d / 2)
    go false = refl

-- what holds of all holds of each of a list
pub All-from : {X : Type 0} (P : X → Type 0) → ((x : X) → P x) → (xs : List X) → All P xs
All-from P all xs = λ i d l. all _

module _ (A : IntegerMatrix) (g : IsAdmissible A) where
  -- where mu(u,w) is not 0, u ≤ w, and the difference of the lengths is odd
  pub mu-below : (u w : List ℕ) (m : ℤ) → IsMu A u w m → m ≢ pos 0 → IsBelow A u w
  mu-below u w m c some = ⊎_elim (λ b. b)
      (λ (n : IsBelow A u w → ⊥). absurd (some (mu-value A g u w m (row_of A g w) c (row_of-is A g w)
      ∙ middle_coefficient-none (word_length A w - word_length A u) (row_of A g w u) ((row_of-is A g w).outside u n))))
      (below_or_not A g u w)

  pub mu-odd : (u w : List ℕ) (m : ℤ) (p : Family) → IsMu A u w m → m ≢ pos 0 → IsRow A w p
      → (j : ℕ) × (word_length A w ≡ word_length A u + suc (2 * j)) × (m ≡ p u j)
  mu-odd u w m p c some row = go ((word_length A w - word_length A u) % 2 == 1) refl
    where
      value : m ≡ middle_coefficient (word_length A w - word_length A u) (p u)
      value = mu-value A g u w m p c row

      go : (b : Bool) → ((word_length A w - word_length A u) % 2 == 1) ≡ b
          → (j : ℕ) × (word_length A w ≡ word_length A u + suc (2 * j)) × (m ≡ p u j)
      go true e =
          let odd : (word_length A w - word_length A u) % 2 ≡ 1 = grind (arith, nat_tests)
          in ((word_length A w - word_length A u) / 2, omega (arith, odd), rw e at value)
      go false e = absurd (some (rw e at value))

  -- ---- P(sx,w) = P(x,w)

  step-same : (s : ℕ) (p : Family) (x : List ℕ) → RespectsElements A p → shortens_left A s (s ∷ x) ≡ not (shortens_left A s x)
      → (k : ℕ) → step Left A s p (s ∷ x) k ≡ step Left A s p x k
  step-same s p x r back k = go (shortens_left A s x) refl
    where
      double : p (s ∷ s ∷ x) ≡ p x
      double = respected A g r (same-square A g s x)

      at : {f h : Coefficients} → f ≡ h → f k ≡ h k
      at e = ap (λ (f : Coefficients). f k) e

      go : (b : Bool) → shortens_left A s x ≡ b → step Left A s p (s ∷ x) k ≡ step Left A s p x k
      go true e =
          omega (
            arith,
            ints,
            at (step-longer A g s p (s ∷ x) (back ∙ ap not e)),
            at (step-shorter A g s p x e),
            at (ap times_q double),
          )
      go false e =
          omega (
            arith,
            ints,
            at (step-shorter A g s p (s ∷ x) (back ∙ ap not e)),
            at (step-longer A g s p x e),
            at double,
          )

  corrections-same : (w : List ℕ) (s : ℕ) (list : List Correction) (x : List ℕ)
      → All (λ c. (k : ℕ) → row_of A g c.element (s ∷ x) k ≡ row_of A g c.element x k) list
      → (k : ℕ) → correction_sum A w (row_of A g) list (s ∷ x) k ≡ correction_sum A w (row_of A g) list x k
  corrections-same w s [] x each k = refl
  corrections-same w s (c ∷ list) x each k =
      let one : row_of A g c.element (s ∷ x) ≡ row_of A g c.element x
      = λ i j. All-head (λ c. (k : ℕ) → row_of A g c.element (s ∷ x) k ≡ row_of A g c.element x k) c list each j i
      in omega (
        arith,
        ints,
        ap (λ (f : Coefficients). scaled c.mu (times_q_power ((word_length A w - word_length A c.element) / 2) f) k) one,
        corrections-same w s list x
            (All-tail (λ c. (k : ℕ) → row_of A g c.element (s ∷ x) k ≡ row_of A g c.element x k) c list each) k,
      )

  row-left_below : (n : ℕ) (w : List ℕ) → word_length A w < n → (s : ℕ) (p : Family) → IsRow A w p → IsLeftDescent A w s
      → (x : List ℕ) (k : ℕ) → p (s ∷ x) k ≡ p x k
  row-left_below zero w l s p row d x k = absurd (omega (arith, l))
  row-left_below (suc n) w l s p row d x k =
      left-recursion A g w s d v v_row list.0 list.1 (row_of A g) are_rows p row (s ∷ x) k
      ∙ both (step-same s v x v_row.element (shortens_left-back A g s x (left_descent-letter A g w s d)) k)
      (corrections-same w s list.0 x
      (All-weaker (λ c. IsCorrection Left A s (s ∷ w) c.element c.mu) (λ c. (k : ℕ)
      → row_of A g c.element (s ∷ x) k ≡ row_of A g c.element x k)
      (lower (λ z q a b. row-left_below n z q s (row_of A g z) a b)) list.0 list.1.each) k)
      ∙ sym (left-recursion A g w s d v v_row list.0 list.1 (row_of A g) are_rows p row x k)
    where
      v : Family
      v = row_of A g (s ∷ w)

      v_row : IsRow A (s ∷ w) v
      v_row = row_of-is A g (s ∷ w)

      list : (list : List Correction) × AreCorrections Left A s (s ∷ w) list
      list = left-corrections_exist A g w s d v v_row

      are_rows : All (λ c. IsRow A c.element (row_of A g c.element)) list.0
      are_rows = All-from (λ c. IsRow A c.element (row_of A g c.element)) (λ c. row_of-is A g c.element) list.0

      both : {a b c e : ℤ} → a ≡ c → b ≡ e → a -ℤ b ≡ c -ℤ e
      both f h = λ i. f i -ℤ h i

      lower : ((z : List ℕ) → word_length A z < n → IsRow A z (row_of A g z) → IsLeftDescent A z s
          → (x : List ℕ) (k : ℕ) → row_of A g z (s ∷ x) k ≡ row_of A g z x k)
          → (c : Correction) → IsCorrection Left A s (s ∷ w) c.element c.mu → (k : ℕ)
          → row_of A g c.element (s ∷ x) k ≡ row_of A g c.element x k
      lower below c is =
          below c.element (omega (arith, l, d, below-length A g (mu-below c.element (s ∷ w) c.mu is.is_mu is.some)))
          (row_of-is A g c.element) is.shortens x

  pub row-left : (w x : List ℕ) (s : ℕ) (p : Family) → IsRow A w p → IsLeftDescent A w s → (k : ℕ) → p (s ∷ x) k ≡ p x k
  row-left w x s p row d k = row-left_below (suc (word_length A w)) w (omega arith) s p row d x k

  pub row-right : (w x : List ℕ) (s : ℕ) (p : Family) → IsRow A w p → IsRightDescent A w s → (k : ℕ) → p (x ++ s ∷ []) k ≡ p x k
  row-right w x s p row d k =
      ap (λ (u : List ℕ). p u k) (sym (reverse-back x s))
      ∙ row-left (reverse w) (reverse x) s (at_inverses p) (row-reverse A g w p row) (descent-reverse A g w s d) k
      ∙ ap (λ (u : List ℕ). p u k) (reverse-reverse x)

  -- ---- mu

  pub mu-left : (w u : List ℕ) (s : ℕ) (m : ℤ) → IsMu A u w m → m ≢ pos 0 → IsLeftDescent A w s → (IsLeftDescent A u s → ⊥)
      → SameElement A u (s ∷ w)
  mu-left w u s m c some d n = go (mu-odd u w m p c some row) (below_or_not A g (s ∷ u) w)
    where
      p : Family
      p = row_of A g w

      row : IsRow A w p
      row = row_of-is A g w

      longer : word_length A (s ∷ u) ≡ word_length A u + 1
      longer = ⊎_elim (λ e. e) (λ e. absurd (n (omega (arith, e)))) (left_length A g s u (left_descent-letter A g w s d))

      go : (j : ℕ) × (word_length A w ≡ word_length A u + suc (2 * j)) × (m ≡ p u j)
          → IsBelow A (s ∷ u) w ⊎ (IsBelow A (s ∷ u) w → ⊥) → SameElement A u (s ∷ w)
      go (j, odd, value) (inr not_below) =
          absurd (some (value ∙ sym (row-left w u s p row d j) ∙ row.outside (s ∷ u) not_below j))
      go (j, odd, value) (inl below) = ⊎_elim
          (λ (less : word_length A (s ∷ u) < word_length A w).
          absurd (some (value ∙ sym (row-left w u s p row d j) ∙ row.degree (s ∷ u) j less (omega (arith, odd, longer)))))
          (λ (more : word_length A w ≤ word_length A (s ∷ u)).
          let same : SameElement A (s ∷ u) w = below-equal_length A g below (omega (arith, more, below-length A g below))
          in same-trans A g (same-sym A g (same-square A g s u)) (same-cons A g s same))
          (cases_lt (word_length A (s ∷ u)) (word_length A w))

  pub mu-shift_left : (w : List ℕ) (s : ℕ) → IsLeftDescent A w s → IsMu A (s ∷ w) w (pos 1)
  mu-shift_left w s d =
      let difference : word_length A w - word_length A (s ∷ w) ≡ 1 = omega (arith, d, cons-word_length A g s w)
      in let value : row_of A g w (s ∷ w) 0 ≡ pos 1
      = row-left w w s (row_of A g w) (row_of-is A g w) d 0 ∙ (row_of-is A g w).top 0
      in mu-by_row A g (s ∷ w) w (pos 1) (row_of A g w) (row_of-is A g w) (rw difference (sym value))

  pub mu-right : (w u : List ℕ) (s : ℕ) (m : ℤ) → IsMu A u w m → m ≢ pos 0 → IsRightDescent A w s → (IsRightDescent A u s → ⊥)
      → SameElement A u (w ++ s ∷ [])
  mu-right w u s m c some d n =
      let same : SameElement A (reverse u) (s ∷ reverse w)
      = mu-left (reverse w) (reverse u) s m (mu-reverse A g u w m c) some (descent-reverse A g w s d) (λ e. n (reverse-descent A g u s e))
      in same-unreverse A g (rw (reverse-push w s) same)

  pub mu-shift_right : (w : List ℕ) (s : ℕ) → IsRightDescent A w s → IsMu A (w ++ s ∷ []) w (pos 1)
  mu-shift_right w s d =
      rw (reverse-back w s, reverse-reverse w) at
      (mu-reverse A g (s ∷ reverse w) (reverse w) (pos 1) (mu-shift_left (reverse w) s (descent-reverse A g w s d)))
