-- The action along words on the functions that a row gives, and that it depends on the element alone.
use Rattle.std.proofs.Common.{◌≡◌, ℕ, zero, suc, ◌-◌, ◌≤◌, Bool, true, false, if◌then◌else◌, List, [], ◌∷◌, ◌++◌, length, ℤ, ◌+ℤ◌, ◌-ℤ◌}
use Rattle.std.proofs.Common.{neg_ℤ}
use Rattle.std.proofs.Common.{refl, ap, ap₂, sym, ◌∙◌, arith, append_assoc}
use Rattle.std.proofs.lemmas.Int.{ints}
use Rattle.std.proofs.lemmas.List.Elements.{All-head, All-tail}
use Rattle.std.proofs.lemmas.List.{append-nil}
use Rattle.cox_base.specs.Matrix.{IsLetter, IsWord}
use Rattle.cox_base.specs.IntegerMatrix.{IntegerMatrix}
use Rattle.cox_base.specs.Admissible.{IsAdmissible}
use Rattle.cox_base.specs.Element.{SameElement}
use Rattle.cox_base.specs.Length.{word_length}
use Rattle.cox_base.specs.Reduced.{IsReduced}
use Rattle.cox_reflect.proofs.Search.{word_length-equal}
use Rattle.cox_poly.specs.Coefficients.{Coefficients, plus, times_q, times_q_less_one}
use Rattle.cox_poly.specs.Multiples.{minus, negated}
use Rattle.cox_rpoly.specs.InverseOperators.{shortens_left, left_inverse, left_inverse_word}
use Rattle.cox_rpoly.specs.Sign.{times_sign}
use Rattle.cox_hecke.specs.Family.{Family, RespectsElements}
use Rattle.cox_hecke.specs.ListedElements.{occurrences}
use Rattle.cox_hecke.proofs.AllRows.{row_of, row_of-is}
use Rattle.cox_hecke.proofs.OperatorLaws.{left_inverse_word-same}
use Rattle.cox_module.proofs.ActionOnFunctions.{through, through_word, lift, spread, hit, hit_word}
use Rattle.cox_module.proofs.LinearOperators.{IsLinear, itself-linear, negated-linear, times_q-linear}
use Rattle.cox_module.proofs.LinearOperators.{joined-linear, lift-linear, through-linear}
use Rattle.cox_module.proofs.LinearOperators.{through-plus}
use Rattle.cox_module.proofs.PowersOfV.{spread-plus, spread-negated, spread-times_q}
use Rattle.cox_module.proofs.EdgeWeights.{weight}
use Rattle.cox_module.proofs.GraphRule.{raise, raise-is, through-basis}

-- ---- - q T(s)^-1 as a combination of the values at su and at u; the same with v^2 in the place of q

abbrev combine : Bool → Coefficients → Coefficients → Coefficients
combine true a c = negated a
combine false a c = plus (negated (times_q a)) (plus (times_q c) (negated c))

abbrev combine_spread : Bool → Coefficients → Coefficients → Coefficients
combine_spread true a c = negated a
combine_spread false a c = plus (negated (times_q (times_q a))) (plus (times_q (times_q c)) (negated c))

hit-combine : (A : IntegerMatrix) (t : ℕ) (h : Family) (u : List ℕ) (b : Bool) → shortens_left A t u ≡ b
    → hit A t h u ≡ combine b (h (t ∷ u)) (h u)
hit-combine A t h u true e = rw e refl
hit-combine A t h u false e = rw e (λ i k. at (times_q (h (t ∷ u)) k) (times_q (h u) k) (h u k) i)
  where
    at : (a q c : ℤ) → neg_ℤ (a -ℤ (q -ℤ c)) ≡ neg_ℤ a +ℤ (q +ℤ neg_ℤ c)
    at a q c = omega (arith, ints)

lift-combine : (n : ℕ) (b : Bool) (a c : Coefficients)
    → lift n (spread (combine b a c)) ≡ combine_spread b (lift n (spread a)) (lift n (spread c))
lift-combine n true a c = ap (lift n) (λ i k. spread-negated a k i) ∙ (lift-linear n).of_negated (spread a)
lift-combine n false a c =
    ap (lift n) (λ i k. at k i)
    ∙ (lift-linear n).of_plus (negated (times_q (times_q (spread a)))) (plus (times_q (times_q (spread c))) (negated (spread c)))
    ∙ ap₂ (λ (f h : Coefficients). plus f h)
    ((lift-linear n).of_negated (times_q (times_q (spread a))) ∙ ap negated (squared (spread a)))
    ((lift-linear n).of_plus (times_q (times_q (spread c))) (negated (spread c))
    ∙ ap₂ (λ (f h : Coefficients). plus f h) (squared (spread c)) ((lift-linear n).of_negated (spread c)))
  where
    squared : (f : Coefficients) → lift n (times_q (times_q f)) ≡ times_q (times_q (lift n f))
    squared f = (lift-linear n).of_times_q (times_q f) ∙ ap times_q ((lift-linear n).of_times_q f)

    at : (k : ℕ) → spread (plus (negated (times_q a)) (plus (times_q c) (negated c))) k
        ≡ plus (negated (times_q (times_q (spread a)))) (plus (times_q (times_q (spread c))) (negated (spread c))) k
    at k =
        spread-plus (negated (times_q a)) (plus (times_q c) (negated c)) k
        ∙ ap₂ (λ (x y : ℤ). x +ℤ y) (spread-negated (times_q a) k ∙ ap neg_ℤ (spread-times_q a k))
        (spread-plus (times_q c) (negated c) k ∙ ap₂ (λ (x y : ℤ). x +ℤ y) (spread-times_q c k) (spread-negated c k))

-- ---- the sign of a product of operators

sign-linear : (n : ℕ) → IsLinear (times_sign n)
sign-linear zero = itself-linear
sign-linear (suc n) = joined-linear {T = negated} {U = times_sign n} negated-linear (sign-linear n)

left_inverse-linear : {T : Coefficients → Coefficients} → IsLinear T → (A : IntegerMatrix) (s : ℕ) (h : Family)
    → left_inverse A s (λ x. T (h x)) ≡ (λ x. T (left_inverse A s h x))
left_inverse-linear {T} t A s h = λ i x. at x (shortens_left A s x) i
  where
    apart : (f c : Coefficients) → minus f (times_q_less_one c) ≡ plus f (negated (plus (times_q c) (negated c)))
    apart f c = λ i k. go (f k) (times_q c k) (c k) i
      where
        go : (a q d : ℤ) → a -ℤ (q -ℤ d) ≡ a +ℤ neg_ℤ (q +ℤ neg_ℤ d)
        go a q d = omega (arith, ints)

    at : (x : List ℕ) (b : Bool)
        → (if b then T (h (s ∷ x)) else minus (times_q (T (h (s ∷ x)))) (times_q_less_one (T (h x))))
        ≡ T (if b then h (s ∷ x) else minus (times_q (h (s ∷ x))) (times_q_less_one (h x)))
    at x true = refl
    at x false =
        apart (times_q (T (h (s ∷ x)))) (T (h x))
        ∙ ap₂ (λ (f c : Coefficients). plus f (negated c)) (sym (t.of_times_q (h (s ∷ x))))
        (ap₂ (λ (f c : Coefficients). plus f c) (sym (t.of_times_q (h x))) (sym (t.of_negated (h x)))
        ∙ sym (t.of_plus (times_q (h x)) (negated (h x))))
        ∙ ap (plus (T (times_q (h (s ∷ x))))) (sym (t.of_negated (plus (times_q (h x)) (negated (h x)))))
        ∙ sym (t.of_plus (times_q (h (s ∷ x))) (negated (plus (times_q (h x)) (negated (h x)))))
        ∙ ap T (sym (apart (times_q (h (s ∷ x))) (h x)))

hit_word-sign : (A : IntegerMatrix) (u : List ℕ) (h : Family) → hit_word A u h ≡ (λ x. times_sign (length u) (left_inverse_word A u h x))
hit_word-sign A [] h = refl
hit_word-sign A (s ∷ u) h =
    ap (hit A s) (hit_word-sign A u h)
    ∙ (λ i x. negated (left_inverse-linear (sign-linear (length u)) A s (left_inverse_word A u h) i x))

module _ (A : IntegerMatrix) (g : IsAdmissible A) where
  pub hit_word-same : (u v : List ℕ) (h : Family) → IsReduced A u → IsReduced A v → SameElement A u v → RespectsElements A h
      → hit_word A u h ≡ hit_word A v h
  hit_word-same u v h c d e r =
      let size : length u ≡ length v = sym c ∙ word_length-equal A g e ∙ d
      in let same : left_inverse_word A u h ≡ left_inverse_word A v h = left_inverse_word-same A g u v h c d e r
      in hit_word-sign A u h ∙ (λ i x. times_sign (size i) (same i x)) ∙ sym (hit_word-sign A v h)

  module _ (members : List (List ℕ)) (N : ℕ) (complete : (y : List ℕ) → occurrences A y members ≡ 1)
      (bound : (y : List ℕ) → word_length A y ≤ N) where
    -- the coefficient of T(u) in t(w) D(x), raised, for each x
    unfoldable pub raised_at : List ℕ → List ℕ → Family
    raised_at w u x = raise A g N x (hit_word A w (row_of A g x) u)

    parts : (t : ℕ) (w u : List ℕ) (b : Bool) → shortens_left A t u ≡ b → (x : List ℕ)
        → raised_at (t ∷ w) u x ≡ combine_spread b (raised_at w (t ∷ u) x) (raised_at w u x)
    unfolding raised_at
    parts t w u b e x =
        ap (raise A g N x) (hit-combine A t (hit_word A w (row_of A g x)) u b e)
        ∙ raise-is A g N x (combine b (hit_word A w (row_of A g x) (t ∷ u)) (hit_word A w (row_of A g x) u))
        ∙ lift-combine (N - word_length A x) b (hit_word A w (row_of A g x) (t ∷ u)) (hit_word A w (row_of A g x) u)
        ∙ ap₂ (combine_spread b) (sym (raise-is A g N x (hit_word A w (row_of A g x) (t ∷ u))))
        (sym (raise-is A g N x (hit_word A w (row_of A g x) u)))

    through-combine : (s : ℕ) (b : Bool) (f h : Family)
        → through A (weight A g) members s (λ x. combine_spread b (f x) (h x))
        ≡ (λ x. combine_spread b (through A (weight A g) members s f x) (through A (weight A g) members s h x))
    through-combine s true f h = through-linear A (weight A g) members negated-linear s f
    through-combine s false f h =
        through-plus A (weight A g) members s (λ x. negated (times_q (times_q (f x)))) (λ x. plus (times_q (times_q (h x))) (negated (h x)))
        ∙ both
        (through-linear A (weight A g) members {T = λ p. negated (times_q (times_q p))}
        (joined-linear {T = negated} {U = λ p. times_q (times_q p)} negated-linear squared) s f)
        (through-plus A (weight A g) members s (λ x. times_q (times_q (h x))) (λ x. negated (h x))
        ∙ both (through-linear A (weight A g) members {T = λ p. times_q (times_q p)} squared s h)
        (through-linear A (weight A g) members negated-linear s h))
      where
        both : {p q p' q' : Family} → p ≡ p' → q ≡ q' → ◌≡◌ {A = Family} (λ x. plus (p x) (q x)) (λ x. plus (p' x) (q' x))
        both e e' = λ i x. plus (e i x) (e' i x)

        squared : IsLinear (λ p. times_q (times_q p))
        squared = joined-linear {T = times_q} {U = times_q} times_q-linear times_q-linear

    -- one letter more
    one_more : (w : List ℕ) (s : ℕ) → IsLetter A.rank s → (u : List ℕ)
        → through A (weight A g) members s (raised_at w u) ≡ raised_at (w ++ s ∷ []) u
    unfolding raised_at
    one_more [] s l u = λ i x. through-basis A g members N complete bound s l u x i
    one_more (t ∷ w) s l u = longer (shortens_left A t u) refl (one_more w s l (t ∷ u)) (one_more w s l u)
      where
        longer : (b : Bool) → shortens_left A t u ≡ b
            → through A (weight A g) members s (raised_at w (t ∷ u)) ≡ raised_at (w ++ s ∷ []) (t ∷ u)
            → through A (weight A g) members s (raised_at w u) ≡ raised_at (w ++ s ∷ []) u
            → through A (weight A g) members s (raised_at (t ∷ w) u) ≡ raised_at (t ∷ w ++ s ∷ []) u
        longer b e first second =
            ap (through A (weight A g) members s) (λ i x. parts t w u b e x i)
            ∙ through-combine s b (raised_at w (t ∷ u)) (raised_at w u)
            ∙ (λ i x. combine_spread b (first i x) (second i x))
            ∙ (λ i x. sym (parts t (w ++ s ∷ []) u b e x) i)

    -- along a word
    pub along-basis : (v : List ℕ) → IsWord A.rank v → (w u : List ℕ)
        → through_word A (weight A g) members v (raised_at w u) ≡ raised_at (w ++ v) u
    along-basis [] l w u = ap (λ (z : List ℕ). raised_at z u) (sym (append-nil w))
    along-basis (s ∷ v) l w u =
        ap (through_word A (weight A g) members v) (one_more w s (All-head (IsLetter A.rank) s v l) u)
        ∙ along-basis v (All-tail (IsLetter A.rank) s v l) (w ++ s ∷ []) u
        ∙ ap (λ (z : List ℕ). raised_at z u) (append_assoc w (s ∷ []) v)

    -- two reduced words of one element act alike on what the rows give
    pub along-same : (u v : List ℕ) → IsWord A.rank u → IsWord A.rank v → IsReduced A u → IsReduced A v → SameElement A u v
        → (z : List ℕ)
        → through_word A (weight A g) members u (raised_at [] z) ≡ through_word A (weight A g) members v (raised_at [] z)
    unfolding raised_at
    along-same u v l m c d e z = along-basis u l [] z ∙ (λ i x. same x i) ∙ sym (along-basis v m [] z)
      where
        same : (x : List ℕ) → raised_at u z x ≡ raised_at v z x
        same x = ap (λ (f : Family). raise A g N x (f z)) (hit_word-same u v (row_of A g x) c d e (row_of-is A g x).element)
