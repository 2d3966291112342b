-- The step family of w by any left descent is its row: a list of corrections has the same sum as the sum over all elements below v = sw.
use Rattle.std.proofs.Common.{◌≡◌, ℕ, ◌-◌, ◌/◌, ◌≤◌, Bool, true, false, not, if◌then◌else◌, List, [], ◌∷◌, map, filter, ◌⊎◌, inl, inr}
use Rattle.std.proofs.Common.{⊎_elim}
use Rattle.std.proofs.Common.{ℤ, pos, ◌-ℤ◌, refl, ap, sym, ◌∙◌, arith}
use Rattle.std.specs.Prelude.{All}
use Rattle.std.specs.Ordering.{int_eq}
use Rattle.std.proofs.lemmas.Int.{ints}
use Rattle.std.proofs.lemmas.Bool.{false≢true}
use Rattle.std.proofs.lemmas.Bool.Decides.{Decides-int_eq}
use Rattle.std.proofs.lemmas.List.Elements.{All-nil, All-cons, All-head, All-tail}
use Rattle.cox_base.specs.declared.side.Side.TheVariants.{Left}
use Rattle.cox_base.specs.Matrix.{IsLetter}
use Rattle.cox_base.specs.IntegerMatrix.{IntegerMatrix}
use Rattle.cox_base.specs.Admissible.{IsAdmissible}
use Rattle.cox_base.specs.Element.{SameElement}
use Rattle.cox_base.specs.Length.{word_length}
use Rattle.cox_base.specs.Descents.{IsLeftDescent}
use Rattle.cox_base.specs.Bruhat.{IsBelow}
use Rattle.cox_reflect.proofs.Elements.{same-square}
use Rattle.cox_reflect.proofs.Search.{word_length-equal}
use Rattle.cox_reflect.proofs.Roots.{left_descent-letter}
use Rattle.cox_poly.specs.Coefficients.{Coefficients}
use Rattle.cox_poly.specs.Products.{times_q_power}
use Rattle.cox_poly.specs.Multiples.{minus, scaled}
use Rattle.cox_rpoly.specs.InverseOperators.{shortens_left}
use Rattle.cox_hecke.specs.Family.{Family, RespectsElements}
use Rattle.cox_hecke.specs.Sums.{sum_over}
use Rattle.cox_hecke.specs.Row.{IsRow}
use Rattle.cox_hecke.specs.ListedElements.{occurrences}
use Rattle.cox_hecke.specs.Step.{IsCorrection}
use Rattle.cox_hecke.specs.StepFamily.{step, Correction, corrected_elements, AreCorrections, correction_sum}
use Rattle.cox_hecke.proofs.Descents.{nat_lt-yes, yes-nat_lt, shortens_left-back}
use Rattle.cox_hecke.proofs.ListSums.{sum_over-lists}
use Rattle.cox_hecke.proofs.ElementLists.{Tells, below_list, occurrences-filter}
use Rattle.cox_hecke.proofs.OneRow.{row-same, row-unique}
use Rattle.cox_hecke.proofs.StepRow.{scale, half, correction, step_row, Corrects, correction-none, correction-value, step_row-at}
use Rattle.cox_hecke.proofs.StepRow.{corrections-is}
use Rattle.cox_hecke.proofs.StepRow.{scale-shortens, half-at, corrects_or_not, correction-same, scale-same}
use Rattle.cox_hecke.proofs.StepIsRow.{step_row-is}
use Rattle.cox_hecke.proofs.AllRows.{row_of, row_of-is, row_of-same, row_of-value, mu-value, mu-by_row}

module _ (A : IntegerMatrix) (g : IsAdmissible A) (w : List ℕ) (s : ℕ) (d : IsLeftDescent A w s) (p : Family)
    (row : IsRow A (s ∷ w) p) where
  letter : IsLetter A.rank s
  letter = left_descent-letter A g w s d

  rising : shortens_left A s (s ∷ w) ≡ false
  rising = shortens_left-back A g s w letter ∙ ap not (nat_lt-yes d)

  words : List (List ℕ)
  words = (below_list A g (s ∷ w)).0

  tells : Tells A (λ y. IsBelow A y (s ∷ w)) words
  unfolding words
  tells = (below_list A g (s ∷ w)).1

  term : List ℕ → Family
  term = correction A (s ∷ w) s p (row_of A g)

  number : List ℕ → ℤ
  number = scale A (s ∷ w) s p (row_of A g)

  step_row-is_row : IsRow A w (step_row A (s ∷ w) s p (row_of A g) words)
  step_row-is_row =
      row-same A g (s ∷ s ∷ w) w (step_row A (s ∷ w) s p (row_of A g) words) (same-square A g s w)
      (step_row-is A (s ∷ w) s p (row_of A g) g letter rising row (λ z b. row_of-is A g z) (row_of-same A g) words tells)

  corrects_or_none : (z : List ℕ) → Corrects A (s ∷ w) s p (row_of A g) z ⊎ (number z ≡ pos 0)
  unfolding number
  corrects_or_none = corrects_or_not A (s ∷ w) s p (row_of A g) g letter rising row (λ z b. row_of-is A g z) (row_of-same A g)

  term-respects : (x : List ℕ) → RespectsElements A (λ z. term z x)
  unfolding term
  term-respects = correction-same A (s ∷ w) s p (row_of A g) g letter rising row (λ z b. row_of-is A g z) (row_of-same A g)

  number-same : {y z : List ℕ} → SameElement A y z → number y ≡ number z
  unfolding number
  number-same e = scale-same A (s ∷ w) s p (row_of A g) g letter rising row (λ z b. row_of-is A g z) (row_of-same A g) e

  term-none : (z x : List ℕ) (k : ℕ) → number z ≡ pos 0 → term z x k ≡ pos 0
  unfolding number term
  term-none z x k e = ap (λ (f : Coefficients). f k) (correction-none A (s ∷ w) s p (row_of A g) z e x)

  -- a correction by its definition
  number-mu : (u : List ℕ) (m : ℤ) → IsCorrection Left A s (s ∷ w) u m → number u ≡ m
  unfolding number
  number-mu u m is = scale-shortens A (s ∷ w) s p (row_of A g) u (nat_lt-yes is.shortens) ∙ sym (mu-value A g u (s ∷ w) m p is.is_mu row)

  is-correction : (z : List ℕ) → (number z ≡ pos 0 → ⊥) → IsCorrection Left A s (s ∷ w) z (number z)
  unfolding number
  is-correction z some = ⊎_elim
      (λ (c : Corrects A (s ∷ w) s p (row_of A g) z). record {
        shortens = yes-nat_lt (word_length A (s ∷ z)) (word_length A z) c.shortens;
        is_mu = mu-by_row A g z (s ∷ w) (number z) p row (scale-shortens A (s ∷ w) s p (row_of A g) z c.shortens);
        some = some;
      })
      (λ (n : number z ≡ pos 0). absurd (some n))
      (corrects_or_none z)

  term-is : (c : Correction) → IsCorrection Left A s (s ∷ w) c.element c.mu → (rows : List ℕ → Family) → IsRow A c.element (rows c.element)
      → (x : List ℕ) (k : ℕ) → scaled c.mu (times_q_power ((word_length A w - word_length A c.element) / 2) (rows c.element x)) k
      ≡ term c.element x k
  unfolding term number
  term-is c is rows is_row x k =
      rw (sym (row_of-value A g c.element (rows c.element) is_row x), sym (number-mu c.element c.mu is), sym same) refl
      ∙ sym (correction-value A (s ∷ w) s p (row_of A g) c.element x k)
    where
      same : half A (s ∷ w) s p (row_of A g) c.element ≡ (word_length A w - word_length A c.element) / 2
      same = half-at A (s ∷ w) s p (row_of A g) c.element
          ∙ ap (λ (n : ℕ). (n - word_length A c.element) / 2) (word_length-equal A g (same-square A g s w))

  sum-is : (list : List Correction) → All (λ c. IsCorrection Left A s (s ∷ w) c.element c.mu) list → (rows : List ℕ → Family)
      → All (λ c. IsRow A c.element (rows c.element)) list → (x : List ℕ) (k : ℕ)
      → correction_sum A w rows list x k ≡ sum_over (corrected_elements list) (λ z. term z x) k
  sum-is [] are rows are_rows x k = refl
  sum-is (c ∷ list) are rows are_rows x k =
      omega (
        arith,
        ints,
        term-is c (All-head (λ c. IsCorrection Left A s (s ∷ w) c.element c.mu) c list are) rows
            (All-head (λ c. IsRow A c.element (rows c.element)) c list are_rows) x k,
        sum-is list (All-tail (λ c. IsCorrection Left A s (s ∷ w) c.element c.mu) c list are) rows
            (All-tail (λ c. IsRow A c.element (rows c.element)) c list are_rows) x k,
      )

  -- the same sum over all elements below sw
  sum-all : (list : List Correction) → AreCorrections Left A s (s ∷ w) list → (x : List ℕ) (k : ℕ)
      → sum_over (corrected_elements list) (λ z. term z x) k ≡ sum_over words (λ z. term z x) k
  sum-all list are x k =
      sum_over-lists A g (corrected_elements list) words (λ z. term z x) k (term-respects x)
      (λ z. go z (int_eq (number z) (pos 0)) refl)
    where
      go : (z : List ℕ) (b : Bool) → int_eq (number z) (pos 0) ≡ b
          → (term z x k ≡ pos 0) ⊎ ((occurrences A z (corrected_elements list) ≡ occurrences A z words) × (occurrences A z words ≤ 1))
      go z true e = inl (term-none z x k ((Decides-int_eq (number z) (pos 0)).0 e))
      go z false e = ⊎_elim
          (λ (c : Corrects A (s ∷ w) s p (row_of A g) z).
          let here : occurrences A z words ≡ 1 = ⊎_elim (λ y. y.0) (λ n. absurd (n.1 c.below)) (tells z)
          in let there : occurrences A z (corrected_elements list) ≡ 1 = are.once z (number z)
          (is-correction z (λ n. false≢true (sym e ∙ (Decides-int_eq (number z) (pos 0)).1 n)))
          in inr (there ∙ sym here, omega (arith, here)))
          (λ n. inl (term-none z x k n))
          (corrects_or_none z)

  -- ---- the recursion

  pub left-recursion : (list : List Correction) → AreCorrections Left A s (s ∷ w) list → (rows : List ℕ → Family)
      → All (λ c. IsRow A c.element (rows c.element)) list → (r : Family) → IsRow A w r → (x : List ℕ) (k : ℕ)
      → r x k ≡ minus (step Left A s p x) (correction_sum A w rows list x) k
  unfolding term
  left-recursion list are rows are_rows r is_row x k =
      row-unique A g w r (step_row A (s ∷ w) s p (row_of A g) words) is_row step_row-is_row x k
      ∙ step_row-at A (s ∷ w) s p (row_of A g) words x k
      ∙ ap (λ (z : ℤ). step Left A s p x k -ℤ z)
      (corrections-is A (s ∷ w) s p (row_of A g) words x k ∙ sym (sum-is list are.each rows are_rows x k ∙ sum-all list are x k))

  -- ---- there is a list of corrections

  kept : List ℕ → Bool
  kept z = not (int_eq (number z) (pos 0))

  with_number : List ℕ → Correction
  with_number z = record { element = z; mu = number z }

  list_of : List (List ℕ) → List Correction
  list_of zs = map with_number (filter kept zs)

  elements-list_of : (zs : List (List ℕ)) → corrected_elements (map with_number zs) ≡ zs
  unfolding with_number
  elements-list_of [] = refl
  elements-list_of (z ∷ zs) = ap (λ (ys : List (List ℕ)). z ∷ ys) (elements-list_of zs)

  each : (zs : List (List ℕ)) → All (λ c. IsCorrection Left A s (s ∷ w) c.element c.mu) (list_of zs)
  unfolding list_of kept with_number
  each [] = All-nil (λ c. IsCorrection Left A s (s ∷ w) c.element c.mu)
  each (z ∷ zs) = go (int_eq (number z) (pos 0)) refl (each zs)
    where
      go : (b : Bool) → int_eq (number z) (pos 0) ≡ b → All (λ c. IsCorrection Left A s (s ∷ w) c.element c.mu) (list_of zs)
          → All (λ c. IsCorrection Left A s (s ∷ w) c.element c.mu) (list_of (z ∷ zs))
      go true e rest = rw e rest
      go false e rest = rw e (All-cons (λ c. IsCorrection Left A s (s ∷ w) c.element c.mu) (with_number z) (list_of zs)
          (is-correction z (λ n. false≢true (sym e ∙ (Decides-int_eq (number z) (pos 0)).1 n))) rest)

  pub left-corrections_exist : (list : List Correction) × AreCorrections Left A s (s ∷ w) list
  unfolding list_of kept
  left-corrections_exist = (list_of words, record { each = each words; once = λ u m is. once u m is })
    where
      once : (u : List ℕ) (m : ℤ) → IsCorrection Left A s (s ∷ w) u m → occurrences A u (corrected_elements (list_of words)) ≡ 1
      once u m is =
          ap (occurrences A u) (elements-list_of (filter kept words))
          ∙ occurrences-filter A g kept (λ y z e. rw (number-same e) refl) words u
          ∙ go (int_eq (number u) (pos 0)) refl
        where
          go : (b : Bool) → int_eq (number u) (pos 0) ≡ b → (if not (int_eq (number u) (pos 0)) then occurrences A u words else 0) ≡ 1
          go true e = absurd (is.some (sym (number-mu u m is) ∙ (Decides-int_eq (number u) (pos 0)).0 e))
          go false e = rw e (⊎_elim (λ (k : Corrects A (s ∷ w) s p (row_of A g) u). ⊎_elim (λ y. y.0) (λ n. absurd (n.1 k.below)) (tells u))
              (λ n. absurd (is.some (sym (number-mu u m is) ∙ n))) (corrects_or_none u))
