-- A cell: the action on functions of its elements alone. A function that is 0 at the elements below the cell that are not in it stays so,
-- and in the cell only the elements of the cell count. So what holds of words of the action over all elements holds of words of the action
-- over the cell.
use Rattle.std.proofs.Common.{◌≡◌, ◌≢◌, ℕ, zero, suc, ◌≤◌, ◌<◌, Bool, true, false, List, [], ◌∷◌, ◌⊎◌, inl, inr, ⊎_elim}
use Rattle.std.proofs.Common.{ℤ, pos, refl, ap, ap₂, sym, ◌∙◌, arith}
use Rattle.std.specs.Prelude.{nat_lt}
use Rattle.std.proofs.lemmas.Int.{ints}
use Rattle.std.proofs.lemmas.Bool.{false≢true}
use Rattle.cox_base.specs.IntegerMatrix.{IntegerMatrix}
use Rattle.cox_base.specs.Admissible.{IsAdmissible}
use Rattle.cox_base.specs.Element.{SameElement}
use Rattle.cox_reflect.proofs.Elements.{same-refl}
use Rattle.cox_poly.specs.Coefficients.{Coefficients, zero_polynomial, plus, times_q}
use Rattle.cox_poly.specs.Multiples.{negated, scaled}
use Rattle.cox_rpoly.specs.InverseOperators.{shortens_left}
use Rattle.cox_hecke.specs.Family.{Family, RespectsElements}
use Rattle.cox_hecke.specs.ListedElements.{occurrences}
use Rattle.cox_hecke.specs.Sums.{sum_over}
use Rattle.cox_hecke.proofs.Signed.{respected}
use Rattle.cox_hecke.proofs.Descents.{nat_lt-yes}
use Rattle.cox_hecke.proofs.ListSums.{sum_over-lists, sum_over-named, sum_over-equal, sum_over-none, occurrences-same}
use Rattle.cox_module.proofs.ActionOnFunctions.{only_if, through, through_word}
use Rattle.cox_module.proofs.EdgeWeights.{weight, weight-same, weight_or_not, through-respects}

module _ (A : IntegerMatrix) (g : IsAdmissible A) (members cell : List (List ℕ)) where
  -- whether x is in the cell
  pub is_in : List ℕ → Bool
  is_in x = nat_lt 0 (occurrences A x cell)

  pub is_in-yes : (x : List ℕ) → occurrences A x cell ≡ 1 → is_in x ≡ true
  unfolding is_in
  is_in-yes x e = rw e refl

  pub is_in-no : (x : List ℕ) → occurrences A x cell ≡ 0 → is_in x ≡ false
  unfolding is_in
  is_in-no x e = rw e refl

  is_in-named : (x : List ℕ) → (occurrences A x cell ≡ 0 → ⊥) → is_in x ≡ true
  unfolding is_in
  is_in-named x n = nat_lt-yes (let some : 0 < occurrences A x cell = omega (arith, n) in some)

  pub is_in-same : {x y : List ℕ} → SameElement A x y → is_in x ≡ is_in y
  unfolding is_in
  is_in-same e = rw (occurrences-same A g cell e) refl

  -- the function on the cell, 0 elsewhere
  pub cut : Family → Family
  cut f x = only_if (is_in x) (f x)

  pub cut-in : (f : Family) (x : List ℕ) → is_in x ≡ true → cut f x ≡ f x
  unfolding cut
  cut-in f x e = rw e refl

  pub cut-out : (f : Family) (x : List ℕ) → is_in x ≡ false → cut f x ≡ zero_polynomial
  unfolding cut
  cut-out f x e = rw e refl

  pub cut-respects : (f : Family) → RespectsElements A f → RespectsElements A (cut f)
  unfolding cut
  cut-respects f r x y e k = rw (is_in-same e, respected A g r e) refl

  module _ (Below : List ℕ → Type 0)
      (complete : (y : List ℕ) → occurrences A y members ≡ 1)
      (once : (y : List ℕ) → is_in y ≡ true → occurrences A y cell ≡ 1)
      (down : (s : ℕ) (x y : List ℕ) → Below x → shortens_left A s x ≡ false → weight A g s x y ≢ pos 0 → Below y)
      (convex : (s : ℕ) (x y : List ℕ) → Below x → shortens_left A s x ≡ false → weight A g s x y ≢ pos 0 → is_in y ≡ true → is_in x ≡ true)
    where
      -- h agrees with f below the cell: it is f in the cell, and 0 outside
      pub Agrees : Family → Family → Type 0
      Agrees h f = (x : List ℕ) → Below x → h x ≡ cut f x

      module _ (s : ℕ) (f h : Family) (r : RespectsElements A f) (agrees : Agrees h f) (x : List ℕ) (below : Below x)
          (rises : shortens_left A s x ≡ false) where
        -- in the sum over all elements h is the function that is cut
        as_cut : (k : ℕ) → sum_over members (λ y. scaled (weight A g s x y) (h y)) k
            ≡ sum_over members (λ y. scaled (weight A g s x y) (cut f y)) k
        unfolding Agrees
        as_cut k = sum_over-equal members (λ y. scaled (weight A g s x y) (h y)) (λ y. scaled (weight A g s x y) (cut f y)) k
            (λ y. ⊎_elim (λ e. rw e (omega (arith, ints)))
            (λ n. ap (λ (c : Coefficients). scaled (weight A g s x y) c k) (unfolded y n)) (weight_or_not A g s x y))
          where
            unfolded : (y : List ℕ) → weight A g s x y ≢ pos 0 → h y ≡ cut f y
            unfolded y n = agrees y (down s x y below rises n)

        -- for x in the cell: only the elements of the cell count
        inside : (k : ℕ) → sum_over members (λ y. scaled (weight A g s x y) (cut f y)) k
            ≡ sum_over cell (λ y. scaled (weight A g s x y) (f y)) k
        inside k =
            sym (sum_over-lists A g cell members (λ y. scaled (weight A g s x y) (cut f y)) k respects
            (λ y. go y (is_in y) refl))
            ∙ sum_over-named A g cell (λ y. scaled (weight A g s x y) (cut f y)) (λ y. scaled (weight A g s x y) (f y)) k
            (λ y named. ap (λ (c : Coefficients). scaled (weight A g s x y) c k) (cut-in f y (is_in-named y named)))
          where
            respects : RespectsElements A (λ y. scaled (weight A g s x y) (cut f y))
            respects y z e j = ap₂ (λ (m : ℤ) (c : Coefficients). scaled m c j) (weight-same A g s (same-refl A g x) e)
                (respected A g (cut-respects f r) e)

            go : (y : List ℕ) (b : Bool) → is_in y ≡ b → (scaled (weight A g s x y) (cut f y) k ≡ pos 0)
                ⊎ ((occurrences A y cell ≡ occurrences A y members) × (occurrences A y members ≤ 1))
            go y true e = inr (once y e ∙ sym (complete y), let one = complete y in omega (arith, one))
            go y false e = inl (rw (cut-out f y e) (omega (arith, ints)))

        -- for x below the cell: nothing counts
        outside : is_in x ≡ false → (k : ℕ) → sum_over members (λ y. scaled (weight A g s x y) (cut f y)) k ≡ pos 0
        outside n k = sum_over-none members (λ y. scaled (weight A g s x y) (cut f y)) k
            (λ y. ⊎_elim (λ e. rw e (omega (arith, ints))) (λ some. go y some (is_in y) refl) (weight_or_not A g s x y))
          where
            go : (y : List ℕ) → weight A g s x y ≢ pos 0 → (b : Bool) → is_in y ≡ b → scaled (weight A g s x y) (cut f y) k ≡ pos 0
            go y some true e = absurd (false≢true (sym n ∙ convex s x y below rises some e))
            go y some false e = rw (cut-out f y e) (omega (arith, ints))

      agree-one : (s : ℕ) (f h : Family) → RespectsElements A f → Agrees h f
          → Agrees (through A (weight A g) members s h) (through A (weight A g) cell s f)
      unfolding Agrees cut
      agree-one s f h r agrees x below = go (shortens_left A s x) refl
        where
          falling : (b : Bool) (c : Coefficients) → negated (only_if b c) ≡ only_if b (negated c)
          falling true c = refl
          falling false c = refl

          none : (k : ℕ) (c : Coefficients) → ((j : ℕ) → c j ≡ pos 0) → plus (times_q (times_q zero_polynomial)) (times_q c) k ≡ pos 0
          none zero c z = refl
          none (suc zero) c z = omega (arith, ints, z zero)
          none (suc (suc k)) c z = omega (arith, ints, z (suc k))

          rising : shortens_left A s x ≡ false → (b : Bool) → is_in x ≡ b
              → plus (times_q (times_q (h x))) (times_q (sum_over members (λ y. scaled (weight A g s x y) (h y))))
              ≡ only_if b (plus (times_q (times_q (f x))) (times_q (sum_over cell (λ y. scaled (weight A g s x y) (f y)))))
          rising e true i =
              ap₂ (λ (p q : Coefficients). plus (times_q (times_q p)) (times_q q)) (agrees x below ∙ cut-in f x i)
              (λ j k. (as_cut s f h r agrees x below e k ∙ inside s f h r agrees x below e k) j)
          rising e false i =
              ap (λ (p : Coefficients). plus (times_q (times_q p)) (times_q (sum_over members (λ y. scaled (weight A g s x y) (h y)))))
              (agrees x below ∙ cut-out f x i)
              ∙ (λ j k. none k (sum_over members (λ y. scaled (weight A g s x y) (h y)))
              (λ n. as_cut s f h r agrees x below e n ∙ outside s f h r agrees x below e i n) j)

          go : (b : Bool) → shortens_left A s x ≡ b
              → through A (weight A g) members s h x ≡ only_if (is_in x) (through A (weight A g) cell s f x)
          go true e = rw e (ap negated (agrees x below) ∙ falling (is_in x) (f x))
          go false e = rw e (rising e (is_in x) refl)

      agree-word : (u : List ℕ) (f h : Family) → RespectsElements A f → Agrees h f
          → Agrees (through_word A (weight A g) members u h) (through_word A (weight A g) cell u f)
      agree-word [] f h r agrees = agrees
      agree-word (s ∷ u) f h r agrees =
          agree-word u (through A (weight A g) cell s f) (through A (weight A g) members s h) (through-respects A g cell s f r)
          (agree-one s f h r agrees)

      -- what holds of two words over all elements holds of them over the cell
      pub cut-words : (u v : List ℕ)
          → ((h : Family) → RespectsElements A h → through_word A (weight A g) members u h ≡ through_word A (weight A g) members v h)
          → (f : Family) → RespectsElements A f → (x : List ℕ) → Below x → is_in x ≡ true
          → through_word A (weight A g) cell u f x ≡ through_word A (weight A g) cell v f x
      unfolding Agrees
      cut-words u v same f r x below inner =
          sym (cut-in (through_word A (weight A g) cell u f) x inner) ∙ sym (agree-word u f (cut f) r (λ y b. refl) x below)
          ∙ ap (λ (h : Family). h x) (same (cut f) (cut-respects f r))
          ∙ agree-word v f (cut f) r (λ y b. refl) x below ∙ cut-in (through_word A (weight A g) cell v f) x inner
