-- Words that make a positive root negative. Such a word bounds the root, and if the pairing of the root with e(s) is positive then
-- a shorter word makes the image under s negative.
use Rattle.std.proofs.Common.{◌≡◌, ℕ, suc, ◌+◌, ◌<◌, nat_abs, List, [], ◌∷◌, ◌++◌, length, reverse, ◌⊎◌, ℤ, pos, ◌-ℤ◌, ◌*ℤ◌, neg_ℤ, ◌≤ℤ◌}
use Rattle.std.proofs.Common.{◌<ℤ◌, ap, sym, ◌∙◌, ⊎_elim, arith}
use Rattle.std.proofs.Math.Path.{fun_ext}
use Rattle.std.proofs.lemmas.Int.{ints}
use Rattle.cox_base.specs.Matrix.{IsLetter}
use Rattle.cox_base.specs.IntegerMatrix.{IntegerMatrix}
use Rattle.cox_base.specs.Admissible.{IsAdmissible}
use Rattle.cox_base.specs.ShortLex.{normal_form}
use Rattle.cox_reflect.specs.Action.{Vector, simple_root, pairing, minus_multiple, reflect}
use Rattle.cox_reflect.specs.WordAction.{act, IsNonnegative, IsNonpositive}
use Rattle.cox_lemmas.proofs.Ring.{linears, product_nonnegative}
use Rattle.cox_reflect.proofs.Sums.{letter_cases, simple_root-self}
use Rattle.cox_reflect.proofs.Action.{act-nil, act-cons, act-push, act-single, act-minus_multiple, act-reverse, pairing-outside}
use Rattle.cox_reflect.proofs.Action.{reflect-minus_multiple}
use Rattle.cox_reflect.proofs.Action.{reflect-simple_root, reflect-outside, reflect-reflect}
use Rattle.cox_reflect.proofs.Elements.{same-act}
use Rattle.cox_reflect.proofs.Search.{normal_form-same, word_length-length}
use Rattle.cox_reflect.proofs.Lengths.{word_length-is}
use Rattle.cox_reflect.proofs.Positivity.{simple_root-nonnegative}
use Rattle.cox_reflect.proofs.Roots.{negated, act-negated, SignOf, longer, shorter, sign_of, root-apart, act-push_root}
use Rattle.cox_small.specs.Elementary.{IsRoot}
use Rattle.cox_small.proofs.RootPairs.{root-has_sign, root-one_sign, root-act, root-reflect, root-simple, root-sign_changes}

-- where the sign of the root b turns, as the letters of w are applied from the last to the first: at a letter, when the letters behind it
-- have made b the simple root of the letter
pub record IsTurn (A : IntegerMatrix) (w : List ℕ) (b : Vector) : Type 0 where
  pub letter : ℕ
  pub behind : List ℕ
  pub inside : IsLetter A.rank letter
  pub shorter : length behind < length w
  pub simple : act A behind b ≡ simple_root letter

-- how large the coordinates of a positive root are at most that w makes negative
pub bound : IntegerMatrix → List ℕ → ℕ → ℕ
bound A [] i = 0
bound A (q ∷ w) i = bound A w i + nat_abs (act A (reverse w) (simple_root q) i)

minus_multiple-zero : (v : Vector) (c : ℤ) (e : Vector) (s : ℕ) → e s ≡ pos 1 → minus_multiple v c e ≡ v → c ≡ pos 0
unfolding minus_multiple
minus_multiple-zero v c e s one h = let at_s = ap (λ (x : Vector). x s) h in let t : c *ℤ e s ≡ c = rw one (omega (arith, ints))
    in omega (arith, linears, at_s, t)

module _ (A : IntegerMatrix) (g : IsAdmissible A) where
  reflect-negated : (q : ℕ) (v : Vector) → reflect A q (negated v) ≡ negated (reflect A q v)
  reflect-negated q v = sym (act-single A q (negated v)) ∙ act-negated A (q ∷ []) v ∙ ap negated (act-single A q v)

  act-turn : (w : List ℕ) (b : Vector) → IsRoot A b → IsNonnegative b → IsNonpositive (act A w b) → IsTurn A w b
  act-turn [] b r p n = absurd (root-one_sign A g r p (λ i. rw (act-nil A b) at (n i)))
  act-turn (q ∷ x) b r p n = go (root-has_sign A g (root-act A g x r)) (act-turn x b r p)
    where
      turned : IsNonpositive (reflect A q (act A x b))
      turned i = rw (act-cons A q x b) at (n i)

      go : IsNonnegative (act A x b) ⊎ IsNonpositive (act A x b) → (IsNonpositive (act A x b) → IsTurn A x b) → IsTurn A (q ∷ x) b
      go side earlier =
          ⊎_elim here (λ m. let t = earlier m in
          record { letter = t.letter; behind = t.behind; inside = t.inside; shorter = omega (arith, t.shorter); simple = t.simple }) side
        where
          here : IsNonnegative (act A x b) → IsTurn A (q ∷ x) b
          here up = ⊎_elim
              (λ l. record {
                letter = q;
                behind = x;
                inside = l;
                shorter = omega arith;
                simple =
                    root-sign_changes A g q (root-act A g x r) up turned;
              })
              (λ foreign. absurd (root-one_sign A g (root-act A g x r) up
              (λ i. rw (reflect-outside A g q (act A x b) foreign) at (turned i))))
              (letter_cases A.rank q)

  -- the coordinates of a positive root that w makes negative are at most those of the bound
  pub sent-bound : (w : List ℕ) {b : Vector} → IsRoot A b → IsNonnegative b → IsNonpositive (act A w b) → (i : ℕ)
      → b i ≤ℤ pos (bound A w i)
  unfolding bound
  sent-bound [] {b} r p n i = absurd (root-one_sign A g r p (λ j. rw (act-nil A b) at (n j)))
  sent-bound (q ∷ x) {b} r p n i = ⊎_elim here (λ m. earlier (sent-bound x r p m i)) (root-has_sign A g (root-act A g x r))
    where
      turned : IsNonpositive (reflect A q (act A x b))
      turned j = rw (act-cons A q x b) at (n j)

      earlier : b i ≤ℤ pos (bound A x i) → b i ≤ℤ pos (bound A x i + nat_abs (act A (reverse x) (simple_root q) i))
      earlier h = omega (arith, ints, h)

      here : IsNonnegative (act A x b) → b i ≤ℤ pos (bound A x i + nat_abs (act A (reverse x) (simple_root q) i))
      here up =
          let e : b i ≡ act A (reverse x) (simple_root q) i
          = ap (λ (v : Vector). v i)
          (sym (act-reverse A g x b) ∙ ap (act A (reverse x)) (root-sign_changes A g q (root-act A g x r) up turned))
          in omega (arith, ints, e)

  -- some word makes a positive root negative
  pub sending : {b : Vector} → IsRoot A b → (w : List ℕ) × IsNonpositive (act A w b)
  unfolding negated
  sending {b} r = (r.letter ∷ reverse r.word, λ i. rw (moved i) (omega (arith, linears, simple_root-nonnegative r.letter i)))
    where
      moved : (i : ℕ) → act A (r.letter ∷ reverse r.word) b i ≡ neg_ℤ (simple_root r.letter i)
      moved i =
          ap (λ (v : Vector). v i) (act-cons A r.letter (reverse r.word) b
          ∙ ap (λ (v : Vector). reflect A r.letter (act A (reverse r.word) v)) (sym r.image)
          ∙ ap (reflect A r.letter) (act-reverse A g r.word (simple_root r.letter)) ∙ reflect-simple_root A g r.letter r.inside)

  -- ---- where b pairs with e(s) to a positive number a shorter word makes s b negative

  -- w b <= 0 and the sign turns at the letter q, with the letters x behind it: by the signs of x e(s) and q x e(s)
  module _ (s : ℕ) (b : Vector) (r : IsRoot A b) (p : IsNonnegative b) (ls : IsLetter A.rank s) (up : pos 0 <ℤ pairing A s b)
      (q : ℕ) (lq : IsLetter A.rank q) (x : List ℕ) (turns : act A x b ≡ simple_root q) where
    back : b ≡ act A (reverse x) (simple_root q)
    back = sym (act-reverse A g x b) ∙ ap (act A (reverse x)) turns

    image : act A x (reflect A s b) ≡ minus_multiple (simple_root q) (pairing A s b) (act A x (simple_root s))
    unfolding reflect
    image = act-minus_multiple A x b (pairing A s b) (simple_root s)
        ∙ ap (λ (v : Vector). minus_multiple v (pairing A s b) (act A x (simple_root s))) turns

    -- q x s is shorter than q x, and takes s b to -e(q)
    descends : IsNonpositive (reflect A q (act A x (simple_root s)))
        → (z : List ℕ) × (length z < suc (length x)) × IsNonpositive (act A z (reflect A s b))
    descends n = (normal_form A ((q ∷ x) ++ s ∷ []), size (sign_of A g (q ∷ x) s ls), sent)
      where
        size : SignOf A (q ∷ x) s → length (normal_form A ((q ∷ x) ++ s ∷ [])) < suc (length x)
        size (longer e m) =
            absurd (root-apart A g (q ∷ x) s m (λ i. rw (act-cons A q x (simple_root s)) (n i)))
        size (shorter e m) = omega (arith, e, word_length-length A g (q ∷ x), word_length-is A ((q ∷ x) ++ s ∷ []))

        sent : IsNonpositive (act A (normal_form A ((q ∷ x) ++ s ∷ [])) (reflect A s b))
        sent i =
            rw (
              same-act A g (normal_form-same A g ((q ∷ x) ++ s ∷ [])) (reflect A s b),
              act-push A (q ∷ x) s (reflect A s b),
              reflect-reflect A g s b,
              act-cons A q x b,
              turns,
              reflect-simple_root A g q lq,
            )
            (omega (arith, linears, simple_root-nonnegative q i))

    both_up : IsNonnegative (act A x (simple_root s)) → IsNonnegative (reflect A q (act A x (simple_root s)))
        → IsNonpositive (act A x (reflect A s b))
    unfolding reflect minus_multiple
    both_up m n = ⊎_elim (λ k. absurd (never k)) (λ k. k) (root-has_sign A g (root-act A g x (root-reflect A g s r)))
      where
        turned : (i : ℕ) → reflect A q (act A x (reflect A s b)) i ≡ neg_ℤ (simple_root q i) -ℤ
            (pairing A s b *ℤ reflect A q (act A x (simple_root s)) i)
        turned i =
            ap (λ (v : Vector). reflect A q v i) image
            ∙ ap (λ (v : Vector). v i) (reflect-minus_multiple A q (simple_root q) (pairing A s b) (act A x (simple_root s)))
            ∙ ap (λ (v : Vector). minus_multiple v (pairing A s b) (reflect A q (act A x (simple_root s))) i) (reflect-simple_root A g q lq)

        never : IsNonnegative (act A x (reflect A s b)) → ⊥
        never k =
            let e : act A x (reflect A s b) ≡ simple_root q
            = root-sign_changes A g q (root-act A g x (root-reflect A g s r)) k
            (λ i. rw (turned i) (omega (
              arith,
              linears,
              simple_root-nonnegative q i,
              product_nonnegative (pairing A s b)
                  (reflect A q (act A x (simple_root s)) i) (omega (arith, linears, up)) (n i),
            )))
            in let same : reflect A s b ≡ b = sym (act-reverse A g x (reflect A s b)) ∙ ap (act A (reverse x)) e ∙ sym back
            in let zero_there : pairing A s b ≡ pos 0 = minus_multiple-zero b (pairing A s b) (simple_root s) s (simple_root-self s) same
            in omega (arith, linears, zero_there, up)

    crossing : IsNonpositive (act A x (simple_root s)) → IsNonnegative (reflect A q (act A x (simple_root s))) → ⊥
    unfolding negated
    crossing m n =
        let root : IsRoot A (negated (act A x (simple_root s)))
        = record { word = x ++ s ∷ []; letter = s; inside = ls; image = fun_ext (λ i. act-push_root A g x s ls i) }
        in let e : negated (act A x (simple_root s)) ≡ simple_root q
        = root-sign_changes A g q root (λ i. omega (arith, linears, m i))
        (λ i. rw (ap (λ (v : Vector). v i) (reflect-negated q (act A x (simple_root s)))) (omega (arith, linears, n i)))
        in let own : b ≡ negated (simple_root s)
        = back ∙ ap (act A (reverse x)) (sym e) ∙ act-negated A (reverse x) (act A x (simple_root s))
        ∙ ap negated (act-reverse A g x (simple_root s))
        in let at_s : b s ≡ neg_ℤ (simple_root s s) = ap (λ (v : Vector). v s) own
        in omega (arith, linears, at_s, simple_root-self s, p s)

    shorter_at : (z : List ℕ) × (length z < suc (length x)) × IsNonpositive (act A z (reflect A s b))
    shorter_at =
        ⊎_elim
        (λ n. ⊎_elim (λ m. (x, omega arith, both_up m n)) (λ m. absurd (crossing m n))
        (root-has_sign A g (root-act A g x (root-simple A g s ls))))
        descends (root-has_sign A g (root-reflect A g q (root-act A g x (root-simple A g s ls))))

  pub shorter-sends : (s : ℕ) {b : Vector} → IsRoot A b → IsNonnegative b → pos 0 <ℤ pairing A s b → (w : List ℕ)
      → IsNonpositive (act A w b)
      → (z : List ℕ) × (length z < length w) × IsNonpositive (act A z (reflect A s b))
  shorter-sends s {b} r p up w n = ⊎_elim inside foreign (letter_cases A.rank s)
    where
      t : IsTurn A w b
      t = act-turn w b r p n

      inside : IsLetter A.rank s → (z : List ℕ) × (length z < length w) × IsNonpositive (act A z (reflect A s b))
      inside ls =
          let z = shorter_at s b r p ls up t.letter t.inside t.behind t.simple
          in (z.0, omega (arith, z.1, t.shorter), z.2)

      foreign : (IsLetter A.rank s → ⊥) → (z : List ℕ) × (length z < length w) × IsNonpositive (act A z (reflect A s b))
      foreign f = absurd (omega (arith, linears, pairing-outside A g s b f, up))
