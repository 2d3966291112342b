-- The longest element w0: its images of the simple roots are nonpositive, so those of all nonnegative roots are. So a letter that does not
-- shorten x shortens w0 x, and l(w0 x) + l(x) = l(w0).
use Rattle.std.proofs.Common.{◌≡◌, ℕ, zero, suc, ◌+◌, ◌≤◌, List, [], ◌∷◌, ◌++◌, ℤ, pos, ◌-ℤ◌, ◌*ℤ◌, neg_ℤ, ◌≤ℤ◌}
use Rattle.std.proofs.Common.{refl, ap, sym, ◌∙◌, ⊎_elim, arith}
use Rattle.std.proofs.Math.Path.{fun_ext}
use Rattle.std.proofs.lemmas.Bool.{cases_eq}
use Rattle.std.proofs.lemmas.Int.{ints}
use Rattle.std.proofs.lemmas.List.{append-nil, append_assoc}
use Rattle.cox_base.specs.Matrix.{IsLetter, IsWord}
use Rattle.cox_base.specs.IntegerMatrix.{IntegerMatrix}
use Rattle.cox_base.specs.Admissible.{IsAdmissible}
use Rattle.cox_base.specs.Element.{SameElement}
use Rattle.cox_base.specs.Length.{word_length}
use Rattle.cox_base.specs.Descents.{IsRightDescent}
use Rattle.cox_lemmas.proofs.Ring.{linears, multiply_out, mul_neg, neg_mul, product_nonnegative}
use Rattle.cox_reflect.specs.Action.{Vector, simple_root, minus_multiple}
use Rattle.cox_reflect.specs.WordAction.{act, IsNonnegative, IsNonpositive}
use Rattle.cox_reflect.proofs.Sums.{letter_cases, letter_above, last_letter, simple_root-self, simple_root-other}
use Rattle.cox_reflect.proofs.Action.{act-append, act-minus_multiple, act-fixed, act-outside}
use Rattle.cox_reflect.proofs.Elements.{same-refl, same-sym, same-trans, same-append, same-equal, same-push_twice, same-drop_prefix}
use Rattle.cox_reflect.proofs.Search.{word_length-equal}
use Rattle.cox_reflect.proofs.Lengths.{empty_same}
use Rattle.cox_reflect.proofs.Roots.{SignOf, longer, shorter, sign_of, root-apart, descent-nonpositive, descent-letter}
use Rattle.cox_reflect.proofs.Deletion.{right_length}
use Rattle.cox_hecke.proofs.Descents.{some_right_descent}
use Rattle.cox_inverse.specs.Longest.{IsLongest}

-- v(1) e(1) + .. + v(n) e(n)
combination : ℕ → Vector → Vector
combination zero v i = pos 0
combination (suc n) v i = minus_multiple (combination n v) (neg_ℤ (v (suc n))) (simple_root (suc n)) i

combination-outside : (n : ℕ) (v : Vector) (i : ℕ) → (IsLetter n i → ⊥) → combination n v i ≡ pos 0
unfolding combination minus_multiple
combination-outside zero v i foreign = refl
combination-outside (suc n) v i foreign =
    let other : simple_root (suc n) i ≡ pos 0 = simple_root-other (suc n) i (λ e. foreign (rw e (last_letter n)))
    in let before = combination-outside n v i (λ l. foreign (letter_above n i l))
    in rw (other, before) (simp multiply_out (omega (arith, linears)))

combination-inside : (n : ℕ) (v : Vector) (i : ℕ) → IsLetter n i → combination n v i ≡ v i
unfolding combination minus_multiple
combination-inside zero v i l = absurd (omega (arith, l.from_one, l.to_rank))
combination-inside (suc n) v i l = ⊎_elim here (before (combination-inside n v i)) (cases_eq i (suc n))
  where
    at : combination (suc n) v (suc n) ≡ v (suc n)
    at =
        rw (combination-outside n v (suc n) (λ k. omega (arith, k.to_rank)), simple_root-self (suc n))
        (simp multiply_out (omega (arith, linears)))

    here : i ≡ suc n → combination (suc n) v i ≡ v i
    here e = rw e at

    before : (IsLetter n i → combination n v i ≡ v i) → (i ≡ suc n → ⊥) → combination (suc n) v i ≡ v i
    before ih ne =
        rw (simple_root-other (suc n) i ne, ih (record { from_one = l.from_one; to_rank = omega (arith, l.to_rank) }))
        (simp multiply_out (omega (arith, linears)))

module _ (A : IntegerMatrix) (g : IsAdmissible A) where
  -- a right descent takes one from the length
  pub right_descent-length : (x : List ℕ) (s : ℕ) → IsRightDescent A x s → word_length A x ≡ word_length A (x ++ s ∷ []) + 1
  right_descent-length x s d = ⊎_elim (λ up. absurd (omega (arith, up, d))) (λ down. down) (right_length A g x s (descent-letter A g x s d))

  -- a word whose images of the simple roots are nonpositive; and a nonnegative vector with no coordinate outside the rank
  module _ (u : List ℕ) (falling : (t : ℕ) → IsLetter A.rank t → IsNonpositive (act A u (simple_root t)))
      (v : Vector) (up : IsNonnegative v) where
    -- its image is nonpositive, letter by letter
    part : (n : ℕ) → n ≤ A.rank → IsNonpositive (act A u (combination n v))
    unfolding combination minus_multiple
    part zero l i = rw (act-fixed A g u (λ i. pos 0) (λ i l. refl)) (omega (arith, ints))
    part (suc n) l i =
        let root = falling (suc n) (record { from_one = omega arith; to_rank = l }) i
        in let image = ap (λ (v : Vector). v i) (act-minus_multiple A u (combination n v) (neg_ℤ (v (suc n))) (simple_root (suc n)))
        in step (act A u (combination n v) i) (v (suc n)) (act A u (simple_root (suc n)) i) image (part n (omega (arith, l)) i)
        (up (suc n)) root
      where
        step : (a b c : ℤ) {z : ℤ} → z ≡ a -ℤ (neg_ℤ b *ℤ c) → a ≤ℤ pos 0 → pos 0 ≤ℤ b → c ≤ℤ pos 0 → z ≤ℤ pos 0
        step a b c e low some down =
            omega (arith, linears, e, low, product_nonnegative b (neg_ℤ c) some (omega (arith, linears, down)), products b c)
          where
            products : (b c : ℤ) → neg_ℤ b *ℤ c ≡ b *ℤ neg_ℤ c
            products b c = neg_mul b c ∙ sym (mul_neg b c)

    nonpositive_image : ((i : ℕ) → (IsLetter A.rank i → ⊥) → v i ≡ pos 0) → IsNonpositive (act A u v)
    nonpositive_image outside = rw (sym whole) (part A.rank (omega arith))
      where
        whole : combination A.rank v ≡ v
        whole = fun_ext (λ i. ⊎_elim (λ l. combination-inside A.rank v i l)
            (λ foreign. combination-outside A.rank v i foreign ∙ sym (outside i foreign)) (letter_cases A.rank i))

  module _ (longest : List ℕ) (is : IsLongest A longest) where
    -- a letter that does not shorten y shortens w0 y
    pub turned-descent : (y : List ℕ) (s : ℕ) → IsLetter A.rank s → (IsRightDescent A y s → ⊥) → IsRightDescent A (longest ++ y) s
    turned-descent y s l not_down = of_y (sign_of A g y s l)
      where
        of_product : IsNonnegative (act A y (simple_root s)) → SignOf A (longest ++ y) s → IsRightDescent A (longest ++ y) s
        of_product up (shorter e n) = omega (arith, e)
        of_product up (longer e p) =
            absurd (root-apart A g (longest ++ y) s p (λ i. rw (act-append A longest y (simple_root s)) (turned i)))
          where
            turned : IsNonpositive (act A longest (act A y (simple_root s)))
            turned =
                nonpositive_image longest (λ t k. descent-nonpositive A g longest t k (is.descents t k)) (act A y (simple_root s)) up
                (λ i foreign. act-outside A g y (simple_root s) i foreign ∙ simple_root-other s i (λ e. foreign (rw e l)))

        of_y : SignOf A y s → IsRightDescent A (longest ++ y) s
        of_y (shorter e n) = absurd (not_down (omega (arith, e)))
        of_y (longer e p) = of_product p (sign_of A g (longest ++ y) s l)

    -- w0 x by any word of x
    pub turned-same : {x y : List ℕ} → SameElement A x y → SameElement A (longest ++ x) (longest ++ y)
    turned-same e = same-append A g (same-refl A g longest) e

    -- (w0 y) s = w0 (ys), as words
    pub turned-push : (y : List ℕ) (s : ℕ) → (longest ++ y) ++ s ∷ [] ≡ longest ++ (y ++ s ∷ [])
    turned-push y s = append_assoc longest y (s ∷ [])

    -- (w0 xs) s = w0 x
    pub turned-push_twice : (x : List ℕ) (s : ℕ) → SameElement A ((longest ++ (x ++ s ∷ [])) ++ s ∷ []) (longest ++ x)
    turned-push_twice x s = same-trans A g (same-equal A g (turned-push (x ++ s ∷ []) s)) (turned-same (same-push_twice A g x s))

    -- ---- lengths

    lengths : (n : ℕ) (x : List ℕ) → word_length A x ≡ n → word_length A (longest ++ x) + word_length A x ≡ word_length A longest
    lengths zero x e =
        let same : SameElement A (longest ++ x) longest
        = same-trans A g (same-append A g (same-refl A g longest) (empty_same A g x e)) (same-equal A g (append-nil longest))
        in omega (arith, e, word_length-equal A g same)
    lengths (suc n) x e = step (some_right_descent A g x (omega (arith, e))) (λ y f. lengths n y f)
      where
        step : (s : ℕ) × IsRightDescent A x s
            → ((y : List ℕ) → word_length A y ≡ n → word_length A (longest ++ y) + word_length A y ≡ word_length A longest)
            → word_length A (longest ++ x) + word_length A x ≡ word_length A longest
        step (s, d) lower =
            let y = x ++ s ∷ []
            in let size : word_length A x ≡ word_length A y + 1 = right_descent-length x s d
            in let down : IsRightDescent A (longest ++ y) s
            = turned-descent y s (descent-letter A g x s d) (λ f. omega (arith, f, size, word_length-equal A g (same-push_twice A g x s)))
            in omega (
              arith,
              size,
              lower y (omega (arith, e, size)),
              right_descent-length (longest ++ y) s down,
              word_length-equal A g (turned-push_twice x s),
            )

    -- l(w0 x) + l(x) = l(w0)
    pub longest-length : (x : List ℕ) → word_length A (longest ++ x) + word_length A x ≡ word_length A longest
    longest-length x = lengths (word_length A x) x refl

    -- no element is longer
    pub longest-most : (x : List ℕ) → word_length A x ≤ word_length A longest
    longest-most x = omega (arith, longest-length x)

    -- w0 is its own inverse
    pub longest-twice : SameElement A (longest ++ longest) []
    longest-twice = empty_same A g (longest ++ longest) (omega (arith, longest-length longest))

    -- so w0 (w0 x) = x
    pub turned-back : (x : List ℕ) → SameElement A (longest ++ (longest ++ x)) x
    turned-back x =
        same-trans A g (same-equal A g (sym (append_assoc longest longest x))) (same-append A g longest-twice (same-refl A g x))

    -- ---- descents

    -- and one that shortens y does not shorten w0 y
    pub turned-ascent : (y : List ℕ) (s : ℕ) → IsRightDescent A y s → IsRightDescent A (longest ++ y) s → ⊥
    turned-ascent y s d turned =
        omega (
          arith,
          d,
          turned,
          longest-length y,
          longest-length (y ++ s ∷ []),
          ap (word_length A) (turned-push y s),
        )

  -- there is only one
  pub longest-one : (v w : List ℕ) → IsLongest A v → IsLongest A w → SameElement A v w
  longest-one v w is_v is_w =
      let none : SameElement A (v ++ w) []
      = empty_same A g (v ++ w) (omega (arith, longest-length v is_v w, longest-most w is_w v))
      in same-sym A g (same-drop_prefix A g v (same-trans A g none (same-sym A g (longest-twice v is_v))))

  -- a word of which no element is longer is one of the longest element
  pub longest-by_length : (w : List ℕ) → IsWord A.rank w → ((x : List ℕ) → word_length A x ≤ word_length A w) → IsLongest A w
  longest-by_length w letters most = record {
    letters = letters;
    descents = λ s l. ⊎_elim (λ up. absurd (omega (arith, up, most (w ++ s ∷ [])))) (λ down. omega (arith, down)) (right_length A g w s l);
  }
