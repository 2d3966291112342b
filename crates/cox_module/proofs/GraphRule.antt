-- The rule of the W-graph: what t(s) makes of a row, by the recursion of rows (Kazhdan and Lusztig 1979, 2.3).
use Rattle.std.proofs.Common.{◌≡◌, ◌≢◌, ℕ, zero, suc, ◌+◌, ◌-◌, ◌*◌, ◌/◌, ◌≤◌, Bool, true, false, not, if◌then◌else◌, List, [], ◌∷◌}
use Rattle.std.proofs.Common.{◌⊎◌, inl, inr, ⊎_elim, ℤ, pos, ◌+ℤ◌, ◌-ℤ◌, ◌*ℤ◌, neg_ℤ, refl, ap, ap₂, sym, ◌∙◌, arith}
use Rattle.std.specs.Prelude.{All}
use Rattle.std.specs.Ordering.{int_eq}
use Rattle.std.proofs.lemmas.Int.{ints}
use Rattle.std.proofs.lemmas.Bool.{false≢true}
use Rattle.std.proofs.lemmas.Bool.Decides.{Decides-int_eq}
use Rattle.std.proofs.lemmas.List.Elements.{All-head, All-tail}
use Rattle.cox_base.specs.declared.side.Side.TheVariants.{Left}
use Rattle.cox_base.specs.Matrix.{IsLetter}
use Rattle.cox_base.specs.IntegerMatrix.{IntegerMatrix}
use Rattle.cox_base.specs.Admissible.{IsAdmissible}
use Rattle.cox_base.specs.Element.{SameElement}
use Rattle.cox_base.specs.Length.{word_length}
use Rattle.cox_base.specs.Descents.{IsLeftDescent}
use Rattle.cox_reflect.proofs.Elements.{same-sym, same-trans, same-refl, same-square, same-cons}
use Rattle.cox_reflect.proofs.Search.{word_length-equal}
use Rattle.cox_poly.specs.Coefficients.{Coefficients, plus, times_q, times_q_less_one}
use Rattle.cox_poly.specs.Products.{times_q_power}
use Rattle.cox_poly.specs.Multiples.{minus, negated, scaled}
use Rattle.cox_rpoly.specs.InverseOperators.{shortens_left}
use Rattle.cox_hecke.specs.Family.{Family, RespectsElements}
use Rattle.cox_hecke.specs.ListedElements.{occurrences}
use Rattle.cox_hecke.specs.Sums.{sum_over}
use Rattle.cox_hecke.specs.Row.{IsRow}
use Rattle.cox_hecke.specs.Step.{IsCorrection}
use Rattle.cox_hecke.specs.StepFamily.{step, Correction, corrected_elements, AreCorrections, correction_sum}
use Rattle.cox_hecke.proofs.Descents.{nat_lt-yes, yes-nat_lt, no-nat_lt, shortens_left-back, Moves, left_moves}
use Rattle.cox_hecke.proofs.ListSums.{sum_over-lists, same-is_same, not_same-is_same}
use Rattle.cox_hecke.proofs.OneRow.{row-same}
use Rattle.cox_hecke.proofs.AllRows.{row_of, row_of-is, row_of-same}
use Rattle.cox_hecke.proofs.Descended.{row-left, mu-left, mu-odd, All-from}
use Rattle.cox_hecke.proofs.StepFamilies.{recursion, corrections_exist}
use Rattle.cox_module.proofs.ActionOnFunctions.{through, lift, spread, hit}
use Rattle.cox_module.proofs.LinearOperators.{lift-linear}
use Rattle.cox_module.proofs.PowersOfV.{spread-none, spread-plus, spread-negated, spread-scaled, spread-times_q, lift-power}
use Rattle.cox_module.proofs.EdgeWeights.{mu_at, mu_at-is, mu_at-value, mu_at-same, mu_at-short, weight, weight-none, weight-edge}
use Rattle.cox_module.proofs.EdgeWeights.{weight-same, weight-shift}

-- ---- polynomials

-- lift n of q^.. and signs, as the rule needs it
turned : (n : ℕ) (a b c : Coefficients)
    → lift (suc n) (spread (minus (times_q a) (plus b c)))
    ≡ plus (times_q (times_q (lift (suc n) (spread a)))) (times_q (plus (lift n (spread b)) (lift n (spread c))))
turned n a b c =
    ap (lift (suc n)) (λ i k. parts k i)
    ∙ (lift-linear (suc n)).of_plus (times_q (times_q (spread a))) (negated (plus (spread b) (spread c)))
    ∙ ap₂ (λ (f h : Coefficients). plus f h)
    ((lift-linear (suc n)).of_times_q (times_q (spread a)) ∙ ap times_q ((lift-linear (suc n)).of_times_q (spread a)))
    (ap (λ (f : Coefficients). negated (times_q f)) ((lift-linear n).of_negated (plus (spread b) (spread c)))
    ∙ (λ i k. twice (lift n (plus (spread b) (spread c))) k i)
    ∙ ap times_q ((lift-linear n).of_plus (spread b) (spread c)))
  where
    negative : (x y z : ℤ) → x -ℤ (y +ℤ z) ≡ x +ℤ neg_ℤ (y +ℤ z)
    negative x y z = omega (arith, ints)

    parts : (k : ℕ) → spread (minus (times_q a) (plus b c)) k ≡ plus (times_q (times_q (spread a))) (negated (plus (spread b) (spread c))) k
    parts k =
        ap (λ (f : Coefficients). spread f k) (λ i j. negative (times_q a j) (b j) (c j) i)
        ∙ spread-plus (times_q a) (negated (plus b c)) k
        ∙ ap₂ (λ (x y : ℤ). x +ℤ y) (spread-times_q a k) (spread-negated (plus b c) k ∙ ap neg_ℤ (spread-plus b c k))

    twice : (f : Coefficients) (k : ℕ) → negated (times_q (negated f)) k ≡ times_q f k
    twice f zero = refl
    twice f (suc k) = let e : neg_ℤ (neg_ℤ (f k)) ≡ f k = omega (arith, ints) in e

module _ (A : IntegerMatrix) (g : IsAdmissible A) where
  -- - q T(s)^-1 h is q h less (1 + T(s)) h
  pub hit-step : (s : ℕ) (h : Family) (u : List ℕ) (k : ℕ) → hit A s h u k ≡ minus (times_q (h u)) (step Left A s h u) k
  hit-step s h u k = go (shortens_left A s u)
    where
      go : (b : Bool)
          → negated (if b then h (s ∷ u) else minus (times_q (h (s ∷ u))) (times_q_less_one (h u))) k
          ≡ minus (times_q (h u)) (if b then plus (h (s ∷ u)) (times_q (h u)) else plus (times_q (h (s ∷ u))) (h u)) k
      go true = omega (arith, ints)
      go false = omega (arith, ints)

  -- t(s) D(x) = -D(x) for a left descent s of x
  pub hit-descent : (s : ℕ) (x u : List ℕ) → IsLeftDescent A x s → hit A s (row_of A g x) u ≡ negated (row_of A g x u)
  hit-descent s x u d = λ i k. (hit-step s (row_of A g x) u k ∙ go (shortens_left A s u) k) i
    where
      same : row_of A g x (s ∷ u) ≡ row_of A g x u
      same = λ i k. row-left A g x u s (row_of A g x) (row_of-is A g x) d k i

      go : (b : Bool) (k : ℕ)
          → minus (times_q (row_of A g x u)) (if b then plus (row_of A g x (s ∷ u)) (times_q (row_of A g x u))
          else plus (times_q (row_of A g x (s ∷ u))) (row_of A g x u)) k ≡ negated (row_of A g x u) k
      go true k = rw same (omega (arith, ints))
      go false k = rw same (omega (arith, ints))

  -- a list of corrections does not name what is the element of none of them
  named_by_none : (y : List ℕ) (P : Correction → Type 0) (list : List Correction) → All P list
      → ((c : Correction) → P c → SameElement A y c.element → ⊥) → occurrences A y (corrected_elements list) ≡ 0
  named_by_none y P [] all none = refl
  named_by_none y P (c ∷ list) all none =
      rw (not_same-is_same A g y c.element (none c (All-head P c list all))) (named_by_none y P list (All-tail P c list all) none)

  -- (-v)^(N - l(x)) f(v^2)
  unfoldable pub raise : ℕ → List ℕ → Coefficients → Coefficients
  raise N x f = lift (N - word_length A x) (spread f)

  pub raise-is : (N : ℕ) (x : List ℕ) (f : Coefficients) → raise N x f ≡ lift (N - word_length A x) (spread f)
  unfolding raise
  raise-is N x f = refl

  module _ (members : List (List ℕ)) (N : ℕ) (complete : (y : List ℕ) → occurrences A y members ≡ 1)
      (bound : (y : List ℕ) → word_length A y ≤ N) where
    -- the terms of the sum
    term : ℕ → List ℕ → List ℕ → Family
    term s u x y = scaled (weight A g s x y) (raise N y (row_of A g y u))

    term-respects : (s : ℕ) (u x : List ℕ) → RespectsElements A (term s u x)
    unfolding term raise
    term-respects s u x y z e k =
        rw (weight-same A g s (same-refl A g x) e, word_length-equal A g e, row_of-same A g y z e) refl

    term-none : (s : ℕ) (u x y : List ℕ) (k : ℕ) → weight A g s x y ≡ pos 0 → term s u x y k ≡ pos 0
    unfolding term
    term-none s u x y k e = rw e (omega (arith, ints))

    module _ (s : ℕ) (l : IsLetter A.rank s) (u x : List ℕ) (rises : shortens_left A s x ≡ false) where
      longer : word_length A (s ∷ x) ≡ suc (word_length A x)
      longer = go (shortens_left A s x) rises (left_moves A g s x l)
        where
          go : (b : Bool) → b ≡ false → Moves b (word_length A x) (word_length A (s ∷ x)) → word_length A (s ∷ x) ≡ suc (word_length A x)
          go true e m = absurd (false≢true (sym e))
          go false e m = m

      descent : IsLeftDescent A (s ∷ x) s
      descent = yes-nat_lt (word_length A (s ∷ s ∷ x)) (word_length A (s ∷ x)) (shortens_left-back A g s x l ∙ ap not rises)

      square : SameElement A (s ∷ s ∷ x) x
      square = same-square A g s x

      found : (list : List Correction) × AreCorrections Left A s (s ∷ s ∷ x) list
      found = corrections_exist A g Left (s ∷ x) s descent

      -- a correction is shorter than x, and its mu is the weight
      shorter : (c : Correction) → IsCorrection Left A s (s ∷ s ∷ x) c.element c.mu
          → (j : ℕ) × (word_length A x ≡ word_length A c.element + suc (2 * j))
      shorter c is =
          let odd = mu-odd A g c.element (s ∷ s ∷ x) c.mu (row_of A g (s ∷ s ∷ x)) is.is_mu is.some (row_of-is A g (s ∷ s ∷ x))
          in (odd.0, sym (word_length-equal A g square) ∙ odd.1)

      weight-mu : (c : Correction) → IsCorrection Left A s (s ∷ s ∷ x) c.element c.mu → weight A g s x c.element ≡ c.mu
      weight-mu c is =
          let odd = shorter c is
          in let up : mu_at A g x c.element ≡ pos 0 = mu_at-short A g x c.element (omega (arith, odd.1))
          in let down : mu_at A g c.element x ≡ c.mu
          = mu_at-same A g (same-refl A g c.element) (same-sym A g square) ∙ mu_at-value A g c.element (s ∷ s ∷ x) c.mu is.is_mu
          in weight-edge A g s x c.element (nat_lt-yes is.shortens) ∙ omega (arith, ints, up, down)

      -- one correction
      one : (c : Correction) → IsCorrection Left A s (s ∷ s ∷ x) c.element c.mu
          → lift (N - word_length A (s ∷ x)) (spread (scaled c.mu
          (times_q_power ((word_length A (s ∷ x) - word_length A c.element) / 2) (row_of A g c.element u)))) ≡ term s u x c.element
      unfolding term raise
      one c is =
          let odd = shorter c is
          in let half : (word_length A (s ∷ x) - word_length A c.element) / 2 ≡ suc odd.0 = omega (arith, odd.1, longer)
          in let high : N - word_length A c.element ≡ (N - word_length A (s ∷ x)) + (suc odd.0 + suc odd.0)
          = omega (arith, odd.1, longer, bound (s ∷ x))
          in ap (lift (N - word_length A (s ∷ x))) (λ i k. spread-scaled c.mu
          (times_q_power ((word_length A (s ∷ x) - word_length A c.element) / 2) (row_of A g c.element u)) k i)
          ∙ (lift-linear (N - word_length A (s ∷ x))).of_scaled c.mu
          (spread (times_q_power ((word_length A (s ∷ x) - word_length A c.element) / 2) (row_of A g c.element u)))
          ∙ ap₂ (λ (m : ℤ) (f : Coefficients). scaled m f) (sym (weight-mu c is))
          (rw half (lift-power (suc odd.0) (N - word_length A (s ∷ x)) (N - word_length A c.element) (row_of A g c.element u) high))

      -- all corrections
      all : (list : List Correction) → All (λ c. IsCorrection Left A s (s ∷ s ∷ x) c.element c.mu) list
          → lift (N - word_length A (s ∷ x)) (spread (correction_sum A (s ∷ x) (row_of A g) list u))
          ≡ sum_over (corrected_elements list) (term s u x)
      all [] each = ap (lift (N - word_length A (s ∷ x))) (λ i k. spread-none k i) ∙ (lift-linear (N - word_length A (s ∷ x))).of_none
      all (c ∷ list) each =
          let first : Coefficients
          = scaled c.mu (times_q_power ((word_length A (s ∷ x) - word_length A c.element) / 2) (row_of A g c.element u))
          in let rest : Coefficients = correction_sum A (s ∷ x) (row_of A g) list u
          in ap (lift (N - word_length A (s ∷ x))) (λ i k. spread-plus first rest k i)
          ∙ (lift-linear (N - word_length A (s ∷ x))).of_plus (spread first) (spread rest)
          ∙ ap₂ (λ (f h : Coefficients). plus f h) (one c (All-head (λ c. IsCorrection Left A s (s ∷ s ∷ x) c.element c.mu) c list each))
          (all list (All-tail (λ c. IsCorrection Left A s (s ∷ s ∷ x) c.element c.mu) c list each))

      -- y is sx
      raised : (y : List ℕ) → shortens_left A s y ≡ true → mu_at A g x y ≢ pos 0
          → occurrences A y ((s ∷ x) ∷ corrected_elements found.0) ≡ 1
      raised y e some =
          let same : SameElement A x (s ∷ y) = mu-left A g y x s (mu_at A g x y) (mu_at-is A g x y) some
          (yes-nat_lt (word_length A (s ∷ y)) (word_length A y) e) (no-nat_lt (word_length A (s ∷ x)) (word_length A x) rises)
          in let is : SameElement A y (s ∷ x) = same-trans A g (same-sym A g (same-square A g s y)) (same-cons A g s (same-sym A g same))
          in rw (same-is_same A g is) (ap suc (named_by_none y (λ c. IsCorrection Left A s (s ∷ s ∷ x) c.element c.mu) found.0 found.1.each
          (λ c ok e'. let odd = shorter c ok in omega (arith, odd.1, longer, word_length-equal A g is, word_length-equal A g e'))))

      -- y is a correction
      lowered : (y : List ℕ) → shortens_left A s y ≡ true → mu_at A g y x ≢ pos 0
          → occurrences A y ((s ∷ x) ∷ corrected_elements found.0) ≡ 1
      lowered y e some =
          let same : mu_at A g y (s ∷ s ∷ x) ≡ mu_at A g y x = mu_at-same A g (same-refl A g y) square
          in let is : IsCorrection Left A s (s ∷ s ∷ x) y (mu_at A g y (s ∷ s ∷ x)) = record {
            shortens = yes-nat_lt (word_length A (s ∷ y)) (word_length A y) e;
            is_mu = mu_at-is A g y (s ∷ s ∷ x);
            some = λ z. some (sym same ∙ z);
          }
          in let odd = shorter (record { element = y; mu = mu_at A g y (s ∷ s ∷ x) }) is
          in rw (not_same-is_same A g y (s ∷ x) (λ e'. omega (arith, odd.1, longer, word_length-equal A g e')))
          (found.1.once y (mu_at A g y (s ∷ s ∷ x)) is)

      named : (y : List ℕ) → (weight A g s x y ≡ pos 0) ⊎ (occurrences A y ((s ∷ x) ∷ corrected_elements found.0) ≡ 1)
      named y = go (shortens_left A s y) refl (int_eq (mu_at A g x y) (pos 0)) refl (int_eq (mu_at A g y x) (pos 0)) refl
        where
          no : (m : ℤ) → int_eq m (pos 0) ≡ false → m ≢ pos 0
          no m e z = false≢true (sym e ∙ (Decides-int_eq m (pos 0)).1 z)

          go : (b : Bool) → shortens_left A s y ≡ b → (p : Bool) → int_eq (mu_at A g x y) (pos 0) ≡ p
              → (q : Bool) → int_eq (mu_at A g y x) (pos 0) ≡ q
              → (weight A g s x y ≡ pos 0) ⊎ (occurrences A y ((s ∷ x) ∷ corrected_elements found.0) ≡ 1)
          go false e p f q h = inl (weight-none A g s x y e)
          go true e false f q h = inr (raised y e (no (mu_at A g x y) f))
          go true e true f false h = inr (lowered y e (no (mu_at A g y x) h))
          go true e true f true h = inl (weight-edge A g s x y e ∙ omega (
            arith,
            ints,
            (Decides-int_eq (mu_at A g x y) (pos 0)).0 f,
            (Decides-int_eq (mu_at A g y x) (pos 0)).0 h,
          ))

      -- the list with sx before the corrections will do
      whole : sum_over ((s ∷ x) ∷ corrected_elements found.0) (term s u x) ≡ sum_over members (term s u x)
      whole = λ i k. sum_over-lists A g ((s ∷ x) ∷ corrected_elements found.0) members (term s u x) k (term-respects s u x)
          (λ y. ⊎_elim (λ e. inl (term-none s u x y k e))
          (λ (e : occurrences A y ((s ∷ x) ∷ corrected_elements found.0) ≡ 1).
          inr (e ∙ sym (complete y), let z = complete y in omega (arith, z))) (named y)) i

      -- sx itself
      first : lift (N - word_length A (s ∷ x)) (spread (row_of A g (s ∷ x) u)) ≡ term s u x (s ∷ x)
      unfolding term raise
      first = (λ i k. unit (lift (N - word_length A (s ∷ x)) (spread (row_of A g (s ∷ x) u)) k) i)
          ∙ ap (λ (m : ℤ). scaled m (lift (N - word_length A (s ∷ x)) (spread (row_of A g (s ∷ x) u))))
          (sym (weight-shift A g s x descent (omega (arith, longer))))
        where
          unit : (a : ℤ) → a ≡ pos 1 *ℤ a
          unit a = omega (arith, ints)

      divided : hit A s (row_of A g x) u
          ≡ minus (times_q (row_of A g x u)) (plus (row_of A g (s ∷ x) u) (correction_sum A (s ∷ x) (row_of A g) found.0 u))
      divided = λ i k. at k i
        where
          at : (k : ℕ) → hit A s (row_of A g x) u k
              ≡ minus (times_q (row_of A g x u)) (plus (row_of A g (s ∷ x) u) (correction_sum A (s ∷ x) (row_of A g) found.0 u)) k
          at k =
              let e = recursion A g Left (s ∷ x) s descent (row_of A g x)
              (row-same A g x (s ∷ s ∷ x) (row_of A g x) (same-sym A g square) (row_of-is A g x)) found.0 found.1 (row_of A g)
              (All-from (λ c. IsRow A c.element (row_of A g c.element)) (λ c. row_of-is A g c.element) found.0)
              (row_of A g (s ∷ x)) (row_of-is A g (s ∷ x)) u k
              in hit-step s (row_of A g x) u k ∙ omega (arith, ints, e)

      rule : plus (times_q (times_q (raise N x (row_of A g x u)))) (times_q (sum_over members (term s u x)))
          ≡ raise N x (hit A s (row_of A g x) u)
      unfolding raise
      rule = sym (
          ap (λ (f : Coefficients). lift (N - word_length A x) (spread f)) divided
          ∙ ap (λ (n : ℕ). lift n (spread (minus (times_q (row_of A g x u))
          (plus (row_of A g (s ∷ x) u) (correction_sum A (s ∷ x) (row_of A g) found.0 u))))) high
          ∙ turned (N - word_length A (s ∷ x)) (row_of A g x u) (row_of A g (s ∷ x) u) (correction_sum A (s ∷ x) (row_of A g) found.0 u)
          ∙ ap₂ (λ (f h : Coefficients). plus (times_q (times_q f)) (times_q h))
          (ap (λ (n : ℕ). lift n (spread (row_of A g x u))) (sym high))
          (ap₂ (λ (f h : Coefficients). plus f h) first (all found.0 found.1.each) ∙ whole)
          )
        where
          high : N - word_length A x ≡ suc (N - word_length A (s ∷ x))
          high = omega (arith, longer, bound (s ∷ x))

    -- the rule: t(s) takes row to row as the W-graph says
    pub through-basis : (s : ℕ) → IsLetter A.rank s → (u x : List ℕ)
        → through A (weight A g) members s (λ y. raise N y (row_of A g y u)) x ≡ raise N x (hit A s (row_of A g x) u)
    unfolding term raise
    through-basis s l u x = go (shortens_left A s x) refl
      where
        falls : shortens_left A s x ≡ true → negated (raise N x (row_of A g x u)) ≡ raise N x (hit A s (row_of A g x) u)
        falls e =
            sym (ap (λ (f : Coefficients). lift (N - word_length A x) (spread f))
            (hit-descent s x u (yes-nat_lt (word_length A (s ∷ x)) (word_length A x) e))
            ∙ ap (lift (N - word_length A x)) (λ i k. spread-negated (row_of A g x u) k i)
            ∙ (lift-linear (N - word_length A x)).of_negated (spread (row_of A g x u)))

        go : (b : Bool) → shortens_left A s x ≡ b
            → through A (weight A g) members s (λ y. raise N y (row_of A g y u)) x ≡ raise N x (hit A s (row_of A g x) u)
        go true e = rw e (falls e)
        go false e = rw e (rule s l u x e)
