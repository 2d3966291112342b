-- The step family of w = sv > v is the row of w: its degree bound, its value 1 at w, and that it is 0 unless x ≤ w.
use Rattle.std.proofs.Common.{◌≡◌, ℕ, zero, suc, ◌+◌, ◌-◌, ◌*◌, ◌≤◌, ◌<◌, Bool, true, false, not, if◌then◌else◌, List, ◌∷◌, ◌⊎◌, inl, inr}
use Rattle.std.proofs.Common.{⊎_elim}
use Rattle.std.proofs.Common.{ℤ, pos, ◌+ℤ◌, ◌-ℤ◌, ◌*ℤ◌, refl, ap, sym, ◌∙◌, subst, arith}
use Rattle.std.proofs.lemmas.Int.{ints}
use Rattle.std.proofs.lemmas.Bool.{cases_lt, cases_eq, false≢true}
use Rattle.cox_base.specs.declared.side.Side.TheVariants.{Left}
use Rattle.cox_base.specs.Matrix.{IsLetter}
use Rattle.cox_base.specs.IntegerMatrix.{IntegerMatrix}
use Rattle.cox_base.specs.Admissible.{IsAdmissible}
use Rattle.cox_base.specs.Element.{SameElement}
use Rattle.cox_base.specs.Length.{word_length}
use Rattle.cox_base.specs.Bruhat.{IsBelow}
use Rattle.cox_reflect.proofs.Elements.{same-refl, same-square}
use Rattle.cox_reflect.proofs.Bruhat.{below-same, below-trans, below-length, below-equal_length, below-cons}
use Rattle.cox_poly.specs.Coefficients.{Coefficients, zero_polynomial, one_polynomial, plus, times_q}
use Rattle.cox_poly.specs.Products.{times_q_power}
use Rattle.cox_poly.proofs.Coefficients.{times_q_power_at, times_q_power_below}
use Rattle.cox_rpoly.specs.InverseOperators.{shortens_left}
use Rattle.cox_hecke.specs.Family.{Family, RespectsElements}
use Rattle.cox_hecke.specs.Row.{IsRow}
use Rattle.cox_hecke.specs.ListedElements.{is_same, occurrences}
use Rattle.cox_hecke.specs.StepFamily.{step}
use Rattle.cox_hecke.proofs.Descents.{Moves, left_moves, shortens_left-same, shortens_left-back}
use Rattle.cox_hecke.proofs.ListSums.{sum_over-equal, sum_over-none, sum_over-one, same-is_same}
use Rattle.cox_hecke.proofs.ElementLists.{Tells, Tells-ListsEach, below_list}
use Rattle.cox_hecke.proofs.BarSums.{step-shorter, step-longer, step-respects}
use Rattle.cox_hecke.proofs.Balance.{times_q-none}
use Rattle.cox_hecke.proofs.OneRow.{row-from, row-long, row-longer, row-other, one_above, outside_path}
use Rattle.cox_hecke.proofs.StepRow.{scale, half, correction, corrections, step_row, Corrects, scale-is, correction-none, correction-value}
use Rattle.cox_hecke.proofs.StepRow.{step_row-at, corrections-is}
use Rattle.cox_hecke.proofs.StepRow.{size, upper, descent, lower_below, corrects_or_not, half-is, correction-same, corrections-respects}
use Rattle.cox_hecke.proofs.StepRow.{step_row-balanced}

nothing_shorter : (k : ℕ) → plus zero_polynomial (times_q zero_polynomial) k ≡ pos 0
nothing_shorter zero = refl
nothing_shorter (suc k) = refl

nothing_longer : (k : ℕ) → plus (times_q zero_polynomial) zero_polynomial k ≡ pos 0
nothing_longer zero = refl
nothing_longer (suc k) = refl

module _ (A : IntegerMatrix) (v : List ℕ) (s : ℕ) (p : Family) (P : List ℕ → Family) (g : IsAdmissible A) (l : IsLetter A.rank s)
    (rising : shortens_left A s v ≡ false) (row : IsRow A v p) (rows : (z : List ℕ) → IsBelow A z v → IsRow A z (P z))
    (same_rows : (y z : List ℕ) → SameElement A y z → P y ≡ P z) where
  longer : word_length A (s ∷ v) ≡ suc (word_length A v)
  longer = size A v s p P g l rising row rows same_rows

  -- the product of a scale with a coefficient that is 0
  no_product : (c a : ℤ) → a ≡ pos 0 → c *ℤ a ≡ pos 0
  no_product c a e = omega (arith, ints, ap (λ (z : ℤ). c *ℤ z) e)

  at_x : {f h : Coefficients} → f ≡ h → (k : ℕ) → f k ≡ h k
  at_x e k = ap (λ (f : Coefficients). f k) e

  -- ---- corrections by other elements meet the bound

  module _ (x : List ℕ) (k : ℕ) (bound : word_length A (s ∷ v) ≤ word_length A x + 2 * k) where
    far : (z : List ℕ) → Corrects A v s p P z → (SameElement A x z → ⊥) → correction A v s p P z x k ≡ pos 0
    far z c other =
        correction-value A v s p P z x k ∙ no_product (scale A v s p P z) (times_q_power (half A v s p P z) (P z x) k)
        (rw (half-is A v s p P g l rising row rows same_rows z c) (term (cases_lt k (suc c.degree))))
      where
        inside : (j : ℕ) → word_length A z ≤ word_length A x + 2 * j → P z x j ≡ pos 0
        inside j b = ⊎_elim
            (λ (less : word_length A x < word_length A z). (rows z c.below).degree x j less b)
            (λ (more : word_length A z ≤ word_length A x). row-other A g z (P z) (rows z c.below) x more other j)
            (cases_lt (word_length A x) (word_length A z))

        term : (k < suc c.degree) ⊎ (suc c.degree ≤ k) → times_q_power (suc c.degree) (P z x) k ≡ pos 0
        term (inl lower) = times_q_power_below (P z x) (suc c.degree) k lower
        term (inr from) =
            times_q_power_at (P z x) (suc c.degree) k (k - suc c.degree) (omega (arith, from))
            ∙ inside (k - suc c.degree) (omega (arith, from, bound, longer, c.odd))

    far_or_none : (z : List ℕ) → (SameElement A x z → ⊥) → correction A v s p P z x k ≡ pos 0
    far_or_none z other = ⊎_elim (λ (c : Corrects A v s p P z). far z c other)
        (λ (n : scale A v s p P z ≡ pos 0). at_x (correction-none A v s p P z n x) k)
        (corrects_or_not A v s p P g l rising row rows same_rows z)

    -- where sx > x: all of them
    corrections-longer : (words : List (List ℕ)) → shortens_left A s x ≡ false → corrections A v s p P words x k ≡ pos 0
    corrections-longer words e =
        corrections-is A v s p P words x k ∙ sum_over-none words (λ z. correction A v s p P z x) k
        (λ z. ⊎_elim
        (λ (c : Corrects A v s p P z). far z c (λ same. false≢true (sym e ∙ shortens_left-same A g s same ∙ c.shortens)))
        (λ (n : scale A v s p P z ≡ pos 0). at_x (correction-none A v s p P z n x) k)
        (corrects_or_not A v s p P g l rising row rows same_rows z))

    -- else all but the correction by x
    corrections-own : (words : List (List ℕ)) → corrections A v s p P words x k ≡ pos (occurrences A x words) *ℤ correction A v s p P x x k
    corrections-own words =
        corrections-is A v s p P words x k
        ∙ sum_over-equal words (λ z. correction A v s p P z x) (λ z. if is_same A x z then correction A v s p P z x else zero_polynomial) k
        (λ z. term z (is_same A x z) refl)
        ∙ sum_over-one A g words x (λ z. correction A v s p P z x) k (correction-same A v s p P g l rising row rows same_rows x)
      where
        term : (z : List ℕ) (b : Bool) → is_same A x z ≡ b
            → correction A v s p P z x k ≡ (if is_same A x z then correction A v s p P z x else zero_polynomial) k
        term z true e = rw e refl
        term z false e = rw e (far_or_none z (λ same. false≢true (sym e ∙ same-is_same A g same)))

  -- ---- the correction by x itself: it is q P(x,v) beyond the bound

  own : (x : List ℕ) (j : ℕ) → shortens_left A s x ≡ true → IsBelow A x v → word_length A x < word_length A v
      → word_length A v ≤ word_length A x + suc (2 * j) → correction A v s p P x x (suc j) ≡ p x j
  own x j e b less bound = ⊎_elim (λ (full : word_length A v ≡ word_length A x + suc (2 * j)). at_middle full)
      (λ (n : word_length A v ≡ word_length A x + suc (2 * j) → ⊥). above (omega (arith, n, bound)))
      (cases_eq (word_length A v) (word_length A x + suc (2 * j)))
    where
      at_middle : word_length A v ≡ word_length A x + suc (2 * j) → correction A v s p P x x (suc j) ≡ p x j
      at_middle full =
          let c : Corrects A v s p P x = record { below = b; shortens = e; degree = j; odd = full }
          in correction-value A v s p P x x (suc j)
          ∙ rw (half-is A v s p P g l rising row rows same_rows x c, scale-is A v s p P x c j full)
          (ap (λ (z : ℤ). p x j *ℤ z) (times_q_power_at (P x x) (suc j) (suc j) 0 (omega arith) ∙ (rows x b).top 0) ∙ omega (arith, ints))

      above : word_length A v ≤ word_length A x + 2 * j → correction A v s p P x x (suc j) ≡ p x j
      above low = ⊎_elim (λ (c : Corrects A v s p P x). higher c)
          (λ (n : scale A v s p P x ≡ pos 0). at_x (correction-none A v s p P x n x) (suc j))
          (corrects_or_not A v s p P g l rising row rows same_rows x)
          ∙ sym (row.degree x j less low)
        where
          higher : Corrects A v s p P x → correction A v s p P x x (suc j) ≡ pos 0
          higher c =
              correction-value A v s p P x x (suc j)
              ∙ no_product (scale A v s p P x) (times_q_power (half A v s p P x) (P x x) (suc j))
              (rw (half-is A v s p P g l rising row rows same_rows x c)
              (times_q_power_at (P x x) (suc c.degree) (suc j) (j - c.degree) (omega (arith, low, c.odd))
              ∙ (rows x b).top (j - c.degree) ∙ one_above (j - c.degree) (omega (arith, low, c.odd))))

  -- ---- the degree bound

  degree : (words : List (List ℕ)) → Tells A (λ y. IsBelow A y v) words → (x : List ℕ) (k : ℕ) → word_length A x < word_length A (s ∷ v)
      → word_length A (s ∷ v) ≤ word_length A x + 2 * k → step_row A v s p P words x k ≡ pos 0
  degree words each x k less bound =
      step_row-at A v s p P words x k ∙ go (shortens_left A s x) refl (left_moves A g s x l) k bound
    where
      moves : (b : Bool) → shortens_left A s x ≡ b → Moves (shortens_left A s x) (word_length A x) (word_length A (s ∷ x))
          → Moves b (word_length A x) (word_length A (s ∷ x))
      moves b e m = subst (λ (b : Bool). Moves b (word_length A x) (word_length A (s ∷ x))) e m

      -- at an element of the length of v, other than v
      not_v : (y : List ℕ) → shortens_left A s y ≡ true → SameElement A y v → ⊥
      not_v y e same = false≢true (sym rising ∙ sym (shortens_left-same A g s same) ∙ e)

      low_v : (y : List ℕ) (j : ℕ) → shortens_left A s y ≡ true → word_length A v ≤ word_length A y + 2 * j → p y j ≡ pos 0
      low_v y j e b = ⊎_elim
          (λ (short : word_length A y < word_length A v). row.degree y j short b)
          (λ (long : word_length A v ≤ word_length A y). row-other A g v p row y long (not_v y e) j)
          (cases_lt (word_length A y) (word_length A v))

      go : (b : Bool) → shortens_left A s x ≡ b → Moves (shortens_left A s x) (word_length A x) (word_length A (s ∷ x)) → (k : ℕ)
          → word_length A (s ∷ v) ≤ word_length A x + 2 * k → step Left A s p x k -ℤ corrections A v s p P words x k ≡ pos 0
      go b e m zero bound = absurd (omega (arith, less, bound))
      go false e m (suc j) bound =
          let m' : word_length A (s ∷ x) ≡ suc (word_length A x) = moves false e m
          in let here : p x (suc j) ≡ pos 0
          = ⊎_elim (λ (short : word_length A x < word_length A v). row.degree x (suc j) short (omega (arith, bound, longer)))
          (λ (long : word_length A v ≤ word_length A x). row-long A g v p row x long (suc j) (omega arith))
          (cases_lt (word_length A x) (word_length A v))
          in let there : p (s ∷ x) j ≡ pos 0
          = low_v (s ∷ x) j (shortens_left-back A g s x l ∙ ap not e) (omega (arith, bound, longer, m'))
          in omega (
            arith,
            ints,
            at_x (step-longer A g s p x e) (suc j),
            here,
            there,
            corrections-longer x (suc j) bound words e,
          )
      go true e m (suc j) bound =
          let m' : word_length A x ≡ suc (word_length A (s ∷ x)) = moves true e m
          in let there : p (s ∷ x) (suc j)
          ≡ pos 0 = row.degree (s ∷ x) (suc j) (omega (arith, less, longer, m')) (omega (arith, bound, longer, m'))
          in let same : corrections A v s p P words x (suc j) ≡ p x j = corrections-own x (suc j) bound words ∙ middle
          in omega (arith, ints, at_x (step-shorter A g s p x e) (suc j), there, same)
        where
          middle : pos (occurrences A x words) *ℤ correction A v s p P x x (suc j) ≡ p x j
          middle = ⊎_elim (λ (y : (occurrences A x words ≡ 1) × IsBelow A x v). inside y.0 y.1)
              (λ (n : (occurrences A x words ≡ 0) × (IsBelow A x v → ⊥)). rw n.0 (omega (arith, ints, row.outside x n.1 j))) (each x)
            where
              inside : occurrences A x words ≡ 1 → IsBelow A x v → pos (occurrences A x words) *ℤ correction A v s p P x x (suc j) ≡ p x j
              inside one b =
                  let short : word_length A x < word_length A v
                  = ⊎_elim (λ l. l) (λ (long : word_length A v ≤ word_length A x).
                  absurd (not_v x e (below-equal_length A g b (omega (arith, long, below-length A g b)))))
                  (cases_lt (word_length A x) (word_length A v))
                  in rw one (omega (arith, ints, own x j e b short (omega (arith, bound, longer))))

  -- ---- the row

  pub step_row-is : (words : List (List ℕ)) → Tells A (λ y. IsBelow A y v) words → IsRow A (s ∷ v) (step_row A v s p P words)
  step_row-is words each =
      let list = below_list A g (s ∷ v)
      in row-from A g (s ∷ v) (step_row A v s p P words) list.0 respects outside top (degree words each)
      (Tells-ListsEach A (λ y. IsBelow A y (s ∷ v)) list.0 list.1).once
      (step_row-balanced A v s p P g l rising row rows same_rows list.0 list.1 words)
    where
      respects : RespectsElements A (step_row A v s p P words)
      respects x y e k =
          omega (
            arith,
            ints,
            step_row-at A v s p P words x k,
            step_row-at A v s p P words y k,
            step-respects A g s p row.element x y e k,
            corrections-respects A v s p P g l rising row rows same_rows words x y e k,
          )

      -- at an x for which all rows of elements below v are 0, and p is 0 at x
      only_there : (x : List ℕ) (k : ℕ) → ((z : List ℕ) → IsBelow A z v → (j : ℕ) → P z x j ≡ pos 0)
          → corrections A v s p P words x k ≡ pos 0
      only_there x k none =
          corrections-is A v s p P words x k ∙ sum_over-none words (λ z. correction A v s p P z x) k
          (λ z. ⊎_elim
          (λ (c : Corrects A v s p P z). correction-value A v s p P z x k
          ∙ no_product (scale A v s p P z) (times_q_power (half A v s p P z) (P z x) k) (power z c.below (half A v s p P z)))
          (λ (n : scale A v s p P z ≡ pos 0). at_x (correction-none A v s p P z n x) k)
          (corrects_or_not A v s p P g l rising row rows same_rows z))
        where
          power : (z : List ℕ) → IsBelow A z v → (n : ℕ) → times_q_power n (P z x) k ≡ pos 0
          power z b n = ⊎_elim (λ (low : k < n). times_q_power_below (P z x) n k low)
              (λ (from : n ≤ k). times_q_power_at (P z x) n k (k - n) (omega (arith, from)) ∙ none z b (k - n)) (cases_lt k n)

      outside : (x : List ℕ) → (IsBelow A x (s ∷ v) → ⊥) → (k : ℕ) → step_row A v s p P words x k ≡ pos 0
      outside x n k =
          let here : p x ≡ zero_polynomial = outside_path A g v p row.outside x (λ b. n (below-trans A g b shorter_below))
          in let there : p (s ∷ x) ≡ zero_polynomial =
          outside_path A g v p row.outside (s ∷ x) (λ b. n (moved (below-trans A g b shorter_below)))
          in omega (
            arith,
            ints,
            step_row-at A v s p P words x k,
            nothing here there k (shortens_left A s x) refl,
            only_there x k (λ z b. (rows z b).outside x (λ c. n (below-trans A g c (below-trans A g b shorter_below)))),
          )
        where
          shorter_below : IsBelow A v (s ∷ v)
          shorter_below = lower_below A v s p P g l rising row rows same_rows

          moved : IsBelow A (s ∷ x) (s ∷ v) → IsBelow A x (s ∷ v)
          moved b =
              below-same A g (same-square A g s x) (same-refl A g (s ∷ v))
              (below-cons A g (s ∷ x) (s ∷ v) s (descent A v s p P g l rising row rows same_rows) b)

          nothing : p x ≡ zero_polynomial → p (s ∷ x) ≡ zero_polynomial → (k : ℕ) (b : Bool) → shortens_left A s x ≡ b
              → step Left A s p x k ≡ pos 0
          nothing here there k true e =
              at_x (step-shorter A g s p x e) k ∙ rw (here, there) (nothing_shorter k)
          nothing here there k false e =
              at_x (step-longer A g s p x e) k ∙ rw (here, there) (nothing_longer k)

      top : (k : ℕ) → step_row A v s p P words (s ∷ v) k ≡ one_polynomial k
      top k =
          let none : p (s ∷ v) ≡ zero_polynomial = λ i j. row-longer A g v p row (s ∷ v) (omega (arith, longer)) j i
          in let one : p (s ∷ s ∷ v) k ≡ one_polynomial k = row.element (s ∷ s ∷ v) v (same-square A g s v) k ∙ row.top k
          in let first : step Left A s p (s ∷ v) k ≡ p (s ∷ s ∷ v) k +ℤ times_q zero_polynomial k
          = at_x (step-shorter A g s p (s ∷ v) (upper A v s p P g l rising row rows same_rows)) k ∙ rw none refl
          in omega (
            arith,
            ints,
            step_row-at A v s p P words (s ∷ v) k,
            first,
            at_x times_q-none k,
            one,
            only_there (s ∷ v) k
                (λ z b. row-longer A g z (P z) (rows z b) (s ∷ v) (omega (arith, longer, below-length A g b))),
          )
