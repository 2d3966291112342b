-- Equal roots have equal reflections, and strong exchange (Humphreys 5.7, 5.8): where a reflection shortens a word, one letter
-- can be left out.
use Rattle.std.proofs.Common.{◌≡◌, ℕ, ◌+◌, ◌≤◌, ◌<◌, List, [], ◌∷◌, ◌++◌, length, reverse, ℤ, pos, ◌-ℤ◌, ◌*ℤ◌, ap, sym, ◌∙◌, ⊎_elim, arith}
use Rattle.std.proofs.lemmas.Bool.{cases_eq}
use Rattle.std.proofs.lemmas.Int.{ints}
use Rattle.std.proofs.lemmas.List.{append_assoc, reverse-append}
use Rattle.cox_base.specs.Matrix.{IsLetter}
use Rattle.cox_base.specs.IntegerMatrix.{IntegerMatrix}
use Rattle.cox_base.specs.Admissible.{IsAdmissible}
use Rattle.cox_base.specs.Element.{SameElement}
use Rattle.cox_base.specs.ShortLex.{normal_form}
use Rattle.cox_base.specs.Length.{word_length}
use Rattle.cox_reflect.specs.Action.{Vector, simple_root, pairing, minus_multiple, reflect}
use Rattle.cox_reflect.specs.WordAction.{act, IsNonnegative, IsNonpositive}
use Rattle.cox_reflect.specs.Exchange.{LeavesOneOut}
use Rattle.cox_reflect.specs.DerivedWords.{reflection, IsWithoutOne, this_one, later_one}
use Rattle.cox_lemmas.proofs.Ring.{linears, multiply_out}
use Rattle.cox_reflect.proofs.Sums.{letter_cases, simple_root-self, simple_root-other}
use Rattle.cox_reflect.proofs.Action.{act-nil, act-cons, act-single, act-append, act-push, act-minus_multiple, act-reverse, reverse-act}
use Rattle.cox_reflect.proofs.Action.{reflect-reflect, reflect-outside, reflect-simple_root, pairing-minus_multiple, pairing-simple_root}
use Rattle.cox_reflect.proofs.Elements.{same-act, act-same, roots-same, same-refl, same-sym, same-trans, same-cons, same-append}
use Rattle.cox_reflect.proofs.Search.{normal_form-same, word_length-least, word_length-equal}
use Rattle.cox_reflect.proofs.Lengths.{word_length-is}
use Rattle.cox_reflect.proofs.Roots.{negated, act-negated, sign_changes, root-positive_at, root-apart, root_sign, act-push_root}

-- a reflection makes one letter of u go, or makes u longer
pub data Reflected (A : IntegerMatrix) (u y : List ℕ) (s : ℕ) : Type 0 where
  letter_goes : (v : List ℕ) → IsWithoutOne v u → SameElement A (u ++ reflection y s) v → Reflected A u y s
  grows : word_length A u < word_length A (u ++ reflection y s) → Reflected A u y s

pub length-without_one : {v u : List ℕ} → IsWithoutOne v u → length u ≡ length v + 1
length-without_one (this_one {s = s} {u = u}) = omega arith
length-without_one (later_one w) = omega (arith, length-without_one w)

module _ (A : IntegerMatrix) (g : IsAdmissible A) where
  -- the reflection x t x^-1, where x e(t) = e(s)
  reflection-act : (x : List ℕ) (t s : ℕ) → act A x (simple_root t) ≡ simple_root s → (v : Vector)
      → act A (x ++ t ∷ reverse x) v ≡ minus_multiple v (pairing A t (act A (reverse x) v)) (simple_root s)
  unfolding reflect
  reflection-act x t s e v =
      act-append A x (t ∷ reverse x) v
      ∙ ap (act A x) (act-cons A t (reverse x) v)
      ∙ act-minus_multiple A x (act A (reverse x) v) (pairing A t (act A (reverse x) v)) (simple_root t)
      ∙ rw (reverse-act A g x v, e)

  -- with c for the coefficient at e(r), and a for a(s,r): the images of e(r) under s (x t x^-1) and under (x t x^-1) s
  image_front : (x : List ℕ) (t s r i : ℕ) → IsLetter A.rank s → act A x (simple_root t) ≡ simple_root s
      → act A (s ∷ (x ++ t ∷ reverse x)) (simple_root r) i
      ≡ (simple_root r i -ℤ (pairing A t (act A (reverse x) (simple_root r)) *ℤ simple_root s i))
      -ℤ ((A.entry s r -ℤ (pairing A t (act A (reverse x) (simple_root r)) *ℤ pos 2)) *ℤ simple_root s i)
  unfolding reflect minus_multiple
  image_front x t s r i ls e =
      let c : ℤ = pairing A t (act A (reverse x) (simple_root r))
      in let paired : pairing A s (minus_multiple (simple_root r) c (simple_root s)) ≡ A.entry s r -ℤ (c *ℤ pos 2)
      = rw (
        pairing-minus_multiple A s (simple_root r) c (simple_root s),
        pairing-simple_root A g s r,
        pairing-simple_root A g s s,
        g.diagonal s ls,
      )
      in rw (act-cons A s (x ++ t ∷ reverse x) (simple_root r), reflection-act x t s e (simple_root r), paired)

  image_back : (x : List ℕ) (t s r i : ℕ) → IsLetter A.rank t → act A x (simple_root t) ≡ simple_root s
      → act A ((x ++ t ∷ reverse x) ++ s ∷ []) (simple_root r) i
      ≡ (simple_root r i -ℤ (A.entry s r *ℤ simple_root s i))
      -ℤ ((pairing A t (act A (reverse x) (simple_root r)) -ℤ (A.entry s r *ℤ pos 2)) *ℤ simple_root s i)
  unfolding reflect minus_multiple
  image_back x t s r i lt e =
      let c : ℤ = pairing A t (act A (reverse x) (simple_root r))
      in let back : act A (reverse x) (simple_root s) ≡ simple_root t = ap (act A (reverse x)) (sym e) ∙ act-reverse A g x (simple_root t)
      in let paired : pairing A t (act A (reverse x) (minus_multiple (simple_root r) (A.entry s r) (simple_root s)))
      ≡ c -ℤ (A.entry s r *ℤ pos 2)
      = rw (
        act-minus_multiple A (reverse x) (simple_root r) (A.entry s r) (simple_root s),
        pairing-minus_multiple A t (act A (reverse x) (simple_root r)) (A.entry s r) (act A (reverse x) (simple_root s)),
        back,
        pairing-simple_root A g t t,
        g.diagonal t lt,
      )
      in rw (
        act-push A (x ++ t ∷ reverse x) s (simple_root r),
        pairing-simple_root A g s r,
        reflection-act x t s e (minus_multiple (simple_root r) (A.entry s r) (simple_root s)),
        paired,
      )

  -- so its coefficient at another simple root is that of s: else one of those roots would have both signs
  equal_coefficient : (x : List ℕ) (t s r : ℕ) → IsLetter A.rank t → IsLetter A.rank s
      → act A x (simple_root t) ≡ simple_root s → (r ≡ s → ⊥)
      → pairing A t (act A (reverse x) (simple_root r)) ≡ A.entry s r
  equal_coefficient x t s r lt ls e ne =
      omega (
        arith,
        linears,
        root-positive_at A g (s ∷ (x ++ t ∷ reverse x)) r r (omega (arith, ints, front_at_r)) s,
        root-positive_at A g ((x ++ t ∷ reverse x) ++ s ∷ []) r r (omega (arith, ints, back_at_r)) s,
        front_at_s,
        back_at_s,
      )
    where
      c : ℤ
      c = pairing A t (act A (reverse x) (simple_root r))

      apart : s ≡ r → ⊥
      apart f = ne (sym f)

      front_at_r : act A (s ∷ (x ++ t ∷ reverse x)) (simple_root r) r ≡ pos 1
      front_at_r =
          image_front x t s r r ls e ∙ rw (simple_root-self r, simple_root-other s r ne) (simp multiply_out (omega (arith, linears)))

      back_at_r : act A ((x ++ t ∷ reverse x) ++ s ∷ []) (simple_root r) r ≡ pos 1
      back_at_r =
          image_back x t s r r lt e ∙ rw (simple_root-self r, simple_root-other s r ne) (simp multiply_out (omega (arith, linears)))

      front_at_s : act A (s ∷ (x ++ t ∷ reverse x)) (simple_root r) s ≡ c -ℤ A.entry s r
      front_at_s =
          image_front x t s r s ls e ∙ rw (simple_root-self s, simple_root-other r s apart) (simp multiply_out (omega (arith, linears)))

      back_at_s : act A ((x ++ t ∷ reverse x) ++ s ∷ []) (simple_root r) s ≡ A.entry s r -ℤ c
      back_at_s =
          image_back x t s r s lt e ∙ rw (simple_root-self s, simple_root-other r s apart) (simp multiply_out (omega (arith, linears)))

  -- equal roots, equal reflections
  pub equal_reflections : (x : List ℕ) (t s : ℕ) → IsLetter A.rank t → IsLetter A.rank s
      → act A x (simple_root t) ≡ simple_root s → SameElement A (x ++ t ∷ reverse x) (s ∷ [])
  unfolding reflect
  equal_reflections x t s lt ls e = roots-same A g (λ r l. ⊎_elim (own r) (other r) (cases_eq r s))
    where
      back : act A (reverse x) (simple_root s) ≡ simple_root t
      back = ap (act A (reverse x)) (sym e) ∙ act-reverse A g x (simple_root t)

      at_s : act A (x ++ t ∷ reverse x) (simple_root s) ≡ act A (s ∷ []) (simple_root s)
      at_s =
          reflection-act x t s e (simple_root s)
          ∙ rw (
            back,
            pairing-simple_root A g t t,
            g.diagonal t lt,
            act-single A s (simple_root s),
            pairing-simple_root A g s s,
            g.diagonal s ls,
          )

      own : (r : ℕ) → r ≡ s → act A (x ++ t ∷ reverse x) (simple_root r) ≡ act A (s ∷ []) (simple_root r)
      own r f = rw f at_s

      other : (r : ℕ) → (r ≡ s → ⊥) → act A (x ++ t ∷ reverse x) (simple_root r) ≡ act A (s ∷ []) (simple_root r)
      other r ne =
          reflection-act x t s e (simple_root r)
          ∙ rw (equal_coefficient x t s r lt ls e ne, act-single A s (simple_root r), pairing-simple_root A g s r)

  pub equal_roots : (x : List ℕ) (t s : ℕ) → IsLetter A.rank t → IsLetter A.rank s
      → act A x (simple_root t) ≡ simple_root s → SameElement A (x ++ t ∷ []) (s ∷ x)
  equal_roots x t s lt ls e =
      act-same A g (λ v. ap (act A (x ++ t ∷ [])) (sym (act-reverse A g x v)) ∙ sym (act-append A (x ++ t ∷ []) (reverse x) (act A x v))
      ∙ ap (λ (w : List ℕ). act A w (act A x v)) (append_assoc x (t ∷ []) (reverse x))
      ∙ same-act A g (equal_reflections x t s lt ls e) (act A x v) ∙ act-single A s (act A x v) ∙ sym (act-cons A s x v))

  -- ---- reflections

  pub act-reflection : (y : List ℕ) (s : ℕ) (v : Vector)
      → act A (reflection y s) v ≡ act A y (reflect A s (act A (reverse y) v))
  unfolding reflection
  act-reflection y s v = act-append A y (s ∷ reverse y) v ∙ ap (act A y) (act-cons A s (reverse y) v)

  -- a reflection turns its root round ..
  pub reflection-root : (y : List ℕ) (s : ℕ) → IsLetter A.rank s
      → act A (reflection y s) (act A y (simple_root s)) ≡ negated (act A y (simple_root s))
  unfolding negated
  reflection-root y s l =
      act-reflection y s (act A y (simple_root s))
      ∙ rw (act-reverse A g y (simple_root s)) (ap (act A y) (reflect-simple_root A g s l) ∙ act-negated A y (simple_root s))

  -- .. and undoes itself
  pub reflection-twice : (y : List ℕ) (s : ℕ) (v : Vector) → act A (reflection y s) (act A (reflection y s) v) ≡ v
  reflection-twice y s v =
      rw (
        act-reflection y s (act A (reflection y s) v),
        act-reflection y s v,
        act-reverse A g y (reflect A s (act A (reverse y) v)),
        reflect-reflect A g s (act A (reverse y) v),
      )
      (reverse-act A g y v)

  pub same-reflection_twice : (u y : List ℕ) (s : ℕ) → SameElement A ((u ++ reflection y s) ++ reflection y s) u
  same-reflection_twice u y s =
      act-same A g (λ v. act-append A (u ++ reflection y s) (reflection y s) v
      ∙ act-append A u (reflection y s) (act A (reflection y s) v) ∙ ap (act A u) (reflection-twice y s v))

  -- y s gives the same reflection as y
  pub same-reflection_push : (y : List ℕ) (s : ℕ) → SameElement A (reflection (y ++ s ∷ []) s) (reflection y s)
  same-reflection_push y s =
      act-same A g (λ v. rw (
        act-reflection (y ++ s ∷ []) s v,
        act-reflection y s v,
        reverse-append y (s ∷ []),
        act-cons A s (reverse y) v,
        reflect-reflect A g s (act A (reverse y) v),
      ) (act-push A y s (act A (reverse y) v)))

  -- equal roots have equal reflections: x e(t) = y e(s) gives x t x^-1 = y s y^-1
  pub equal_root_reflections : (x y : List ℕ) (t s : ℕ) → IsLetter A.rank t → IsLetter A.rank s
      → act A x (simple_root t) ≡ act A y (simple_root s)
      → SameElement A (reflection x t) (reflection y s)
  equal_root_reflections x y t s lt ls e = act-same A g (λ v. same-sides v)
    where
      z : List ℕ
      z = reverse y ++ x

      moved : act A z (simple_root t) ≡ simple_root s
      moved = act-append A (reverse y) x (simple_root t) ∙ ap (act A (reverse y)) e ∙ act-reverse A g y (simple_root s)

      -- y z = x, so z x^-1 y is the identity
      under : (w : Vector) → act A y (act A z w) ≡ act A x w
      under w = ap (act A y) (act-append A (reverse y) x w) ∙ reverse-act A g y (act A x w)

      over : (w : Vector) → act A z (act A (reverse x) w) ≡ act A (reverse y) w
      over w = act-append A (reverse y) x (act A (reverse x) w) ∙ ap (act A (reverse y)) (reverse-act A g x w)

      same-sides : (v : Vector) → act A (reflection x t) v ≡ act A (reflection y s) v
      same-sides v =
          act-reflection x t v ∙ sym (under (reflect A t (act A (reverse x) v)))
          ∙ ap (act A y)
          (sym (act-push A z t (act A (reverse x) v)) ∙ same-act A g (equal_roots z t s lt ls moved) (act A (reverse x) v)
          ∙ act-cons A s z (act A (reverse x) v) ∙ ap (reflect A s) (over v))
          ∙ sym (act-reflection y s v)

  -- ---- strong exchange

  exchange_step : (q : ℕ) (x y : List ℕ) (s : ℕ) → IsLetter A.rank s → IsNonnegative (act A (x ++ y) (simple_root s))
      → IsNonpositive (reflect A q (act A (x ++ y) (simple_root s))) → SameElement A ((q ∷ x) ++ reflection y s) x
  exchange_step q x y s l p n =
      ⊎_elim (λ lq. act-same A g (turned lq))
      (λ foreign. absurd (root-apart A g (x ++ y) s p
      (λ i. rw (reflect-outside A g q (act A (x ++ y) (simple_root s)) foreign) at (n i)))) (letter_cases A.rank q)
    where
      turned : IsLetter A.rank q → (v : Vector) → act A ((q ∷ x) ++ reflection y s) v ≡ act A x v
      turned lq v =
          let w : Vector = act A (reverse y) v
          in let moved : act A x (act A y (reflect A s w)) ≡ reflect A q (act A x (act A y w))
          = sym (act-append A x y (reflect A s w)) ∙ sym (act-push A (x ++ y) s w)
          ∙ same-act A g (equal_roots (x ++ y) s q l lq (sign_changes A g (x ++ y) s q p n)) w
          ∙ act-cons A q (x ++ y) w ∙ ap (reflect A q) (act-append A x y w)
          in act-append A (q ∷ x) (reflection y s) v ∙ act-cons A q x (act A (reflection y s) v)
          ∙ ap (λ (z : Vector). reflect A q (act A x z)) (act-reflection y s v)
          ∙ ap (reflect A q) moved ∙ reflect-reflect A g q (act A x (act A y w)) ∙ ap (act A x) (reverse-act A g y v)

  exchange_nonnegative : (u y : List ℕ) (s : ℕ) → IsLetter A.rank s → IsNonnegative (act A y (simple_root s))
      → IsNonpositive (act A u (act A y (simple_root s)))
      → LeavesOneOut A u (u ++ reflection y s)
  exchange_nonnegative [] y s l p n =
      absurd (root-apart A g y s p (λ i. rw (act-nil A (act A y (simple_root s))) at (n i)))
  exchange_nonnegative (q ∷ x) y s l p n =
      ⊎_elim here (further (exchange_nonnegative x y s l p)) (root_sign A g (x ++ y) s)
    where
      here : IsNonnegative (act A (x ++ y) (simple_root s)) → LeavesOneOut A (q ∷ x) ((q ∷ x) ++ reflection y s)
      here up =
          record {
            rest = x;
            without = this_one;
            same =
                exchange_step q x y s l up (λ i. rw (
                  act-cons A q x (act A y (simple_root s)),
                  ← (act-append A x y (simple_root s)),
                ) at (n i));
          }

      further : (IsNonpositive (act A x (act A y (simple_root s))) → LeavesOneOut A x (x ++ reflection y s))
          → IsNonpositive (act A (x ++ y) (simple_root s)) → LeavesOneOut A (q ∷ x) ((q ∷ x) ++ reflection y s)
      further rest down =
          let r = rest (λ i. rw (act-append A x y (simple_root s)) at (down i))
          in record { rest = q ∷ r.rest; without = later_one r.without; same = same-cons A g q r.same }

  -- where the image of a nonnegative root is nonnegative the word grows
  grows_nonnegative : (u y : List ℕ) (s : ℕ) → IsLetter A.rank s → IsNonnegative (act A y (simple_root s))
      → IsNonnegative (act A u (act A y (simple_root s)))
      → word_length A u < word_length A (u ++ reflection y s)
  unfolding negated
  grows_nonnegative u y s l p up =
      let w : List ℕ = normal_form A (u ++ reflection y s)
      in let image : act A w (act A y (simple_root s)) ≡ negated (act A u (act A y (simple_root s)))
      = same-act A g (normal_form-same A g (u ++ reflection y s)) (act A y (simple_root s))
      ∙ act-append A u (reflection y s) (act A y (simple_root s))
      ∙ ap (act A u) (reflection-root y s l) ∙ act-negated A u (act A y (simple_root s))
      in let r = exchange_nonnegative w y s l p (λ i. rw image (omega (arith, linears, up i)))
      in let back : SameElement A u (w ++ reflection y s)
      = same-sym A g (same-trans A g (same-append A g (normal_form-same A g (u ++ reflection y s))
      (same-refl A g (reflection y s))) (same-reflection_twice u y s))
      in let least : word_length A u ≤ length r.rest = word_length-least A g (same-trans A g (same-sym A g r.same) (same-sym A g back))
      in omega (arith, least, length-without_one r.without, word_length-is A (u ++ reflection y s))

  reflected_nonnegative : (u y : List ℕ) (s : ℕ) → IsLetter A.rank s → IsNonnegative (act A y (simple_root s))
      → Reflected A u y s
  reflected_nonnegative u y s l p = ⊎_elim up down (root_sign A g (u ++ y) s)
    where
      up : IsNonnegative (act A (u ++ y) (simple_root s)) → Reflected A u y s
      up h = grows (grows_nonnegative u y s l p (λ i. rw (act-append A u y (simple_root s)) at (h i)))

      down : IsNonpositive (act A (u ++ y) (simple_root s)) → Reflected A u y s
      down h =
          let r = exchange_nonnegative u y s l p (λ i. rw (act-append A u y (simple_root s)) at (h i))
          in letter_goes r.rest r.without r.same

  -- strong exchange, for every reflection
  pub reflected : (u y : List ℕ) (s : ℕ) → IsLetter A.rank s → Reflected A u y s
  reflected u y s l = ⊎_elim (λ p. reflected_nonnegative u y s l p) down (root_sign A g y s)
    where
      both : SameElement A (u ++ reflection (y ++ s ∷ []) s) (u ++ reflection y s)
      both = same-append A g (same-refl A g u) (same-reflection_push y s)

      turn : Reflected A u (y ++ s ∷ []) s → Reflected A u y s
      turn (letter_goes v w e) = letter_goes v w (same-trans A g (same-sym A g both) e)
      turn (grows h) = grows (omega (arith, h, word_length-equal A g both))

      down : IsNonpositive (act A y (simple_root s)) → Reflected A u y s
      down n =
          turn (reflected_nonnegative u (y ++ s ∷ []) s l (λ i. omega (arith, linears, n i, act-push_root A g y s l i)))

  -- where a reflection does not make u longer, a letter can be left out instead
  pub strong_exchange : (u y : List ℕ) (s : ℕ) → IsLetter A.rank s
      → word_length A (u ++ reflection y s) ≤ word_length A u → LeavesOneOut A u (u ++ reflection y s)
  strong_exchange u y s l h = go (reflected u y s l)
    where
      go : Reflected A u y s → LeavesOneOut A u (u ++ reflection y s)
      go (letter_goes v w e) = record { rest = v; without = w; same = e }
      go (grows k) = absurd (omega (arith, h, k))

  -- a reflection changes the length
  pub reflection-moves : (u y : List ℕ) (s : ℕ) → IsLetter A.rank s
      → word_length A (u ++ reflection y s) ≡ word_length A u → ⊥
  reflection-moves u y s l h = go (reflected (normal_form A u) y s l)
    where
      both : SameElement A (normal_form A u ++ reflection y s) (u ++ reflection y s)
      both = same-append A g (normal_form-same A g u) (same-refl A g (reflection y s))

      go : Reflected A (normal_form A u) y s → ⊥
      go (letter_goes v w e) =
          omega (arith, h, length-without_one w, word_length-is A u, word_length-least A g (same-trans A g (same-sym A g e) both))
      go (grows k) = omega (arith, h, k, word_length-equal A g both, word_length-equal A g (normal_form-same A g u))
