-- Lengths of products, of the reversed word, and of pieces of a reduced word.
use Rattle.std.proofs.Common.{◌≡◌, ℕ, ◌+◌, ◌≤◌, List, [], ◌∷◌, ◌++◌, length, reverse, refl, ap, sym, ◌∙◌, arith}
use Rattle.std.proofs.lemmas.List.{length-append, length-reverse, reverse-reverse}
use mathlib.Core.List.{reverse-cons}
use Rattle.cox_base.specs.IntegerMatrix.{IntegerMatrix}
use Rattle.cox_base.specs.Admissible.{IsAdmissible}
use Rattle.cox_base.specs.Element.{SameElement}
use Rattle.cox_base.specs.ShortLex.{normal_form}
use Rattle.cox_base.specs.Length.{word_length}
use Rattle.cox_base.specs.Reduced.{IsReduced}
use Rattle.cox_reflect.proofs.Elements.{same-sym, same-trans, same-equal, same-append, same-cons, same-square, same-push_twice}
use Rattle.cox_reflect.proofs.Elements.{same-reverse}
use Rattle.cox_reflect.proofs.Search.{normal_form-same, word_length-least, word_length-equal, word_length-length}

pub word_length-is : (A : IntegerMatrix) (u : List ℕ) → word_length A u ≡ length (normal_form A u)
unfolding word_length
word_length-is A u = refl

module _ (A : IntegerMatrix) (g : IsAdmissible A) where
  pub word_length-append : (u v : List ℕ) → word_length A (u ++ v) ≤ word_length A u + word_length A v
  word_length-append u v =
      omega (
        arith,
        word_length-least A g (same-append A g (normal_form-same A g u) (normal_form-same A g v)),
        length-append (normal_form A u) (normal_form A v),
        word_length-is A u,
        word_length-is A v,
      )

  -- a letter adds at most one ..
  pub word_length-cons : (s : ℕ) (u : List ℕ) → word_length A (s ∷ u) ≤ word_length A u + 1
  word_length-cons s u =
      let e = word_length-least A g (same-cons A g s (normal_form-same A g u)) in omega (arith, e, word_length-is A u)

  pub word_length-push : (u : List ℕ) (s : ℕ) → word_length A (u ++ s ∷ []) ≤ word_length A u + 1
  word_length-push u s = omega (arith, word_length-append u (s ∷ []), word_length-length A g (s ∷ []))

  -- .. and takes at most one away
  pub cons-word_length : (s : ℕ) (u : List ℕ) → word_length A u ≤ word_length A (s ∷ u) + 1
  cons-word_length s u = omega (arith, word_length-cons s (s ∷ u), word_length-equal A g (same-square A g s u))

  pub push-word_length : (u : List ℕ) (s : ℕ) → word_length A u ≤ word_length A (u ++ s ∷ []) + 1
  push-word_length u s =
      omega (arith, word_length-push (u ++ s ∷ []) s, word_length-equal A g (same-push_twice A g u s))

  reverse-shorter : (u : List ℕ) → word_length A (reverse u) ≤ word_length A u
  reverse-shorter u =
      omega (arith, word_length-least A g (same-reverse A g (normal_form-same A g u)), length-reverse (normal_form A u), word_length-is A u)

  pub word_length-reverse : (u : List ℕ) → word_length A (reverse u) ≡ word_length A u
  word_length-reverse u =
      let back : word_length A u ≤ word_length A (reverse u) = rw (reverse-reverse u) at (reverse-shorter (reverse u))
      in omega (arith, back, reverse-shorter u)

  -- on the left it is as on the right for the reversed word
  pub word_length-cons_reverse : (s : ℕ) (u : List ℕ) → word_length A (s ∷ u) ≡ word_length A (reverse u ++ s ∷ [])
  word_length-cons_reverse s u = sym (word_length-reverse (s ∷ u)) ∙ ap (word_length A) (reverse-cons s u)

  -- the identity is the element of length 0
  pub empty_same : (x : List ℕ) → word_length A x ≡ 0 → SameElement A x []
  empty_same x z = go (normal_form A x) refl
    where
      go : (n : List ℕ) → normal_form A x ≡ n → SameElement A x []
      go [] e = same-trans A g (same-sym A g (normal_form-same A g x)) (same-equal A g e)
      go (t ∷ n) e = absurd (omega (arith, z, word_length-is A x, ap length e))

  -- ---- reduced words

  pub IsReduced-normal_form : (u : List ℕ) → IsReduced A (normal_form A u)
  IsReduced-normal_form u = word_length-equal A g (normal_form-same A g u) ∙ word_length-is A u

  pub IsReduced-nil : IsReduced A []
  IsReduced-nil = omega (arith, word_length-length A g [])

  pub IsReduced-prefix : (u v : List ℕ) → IsReduced A (u ++ v) → IsReduced A u
  IsReduced-prefix u v h =
      omega (arith, h, word_length-append u v, word_length-length A g u, word_length-length A g v, length-append u v)

  pub IsReduced-back : (u v : List ℕ) → IsReduced A (u ++ v) → IsReduced A v
  IsReduced-back u v h =
      omega (arith, h, word_length-append u v, word_length-length A g u, word_length-length A g v, length-append u v)

  pub IsReduced-tail : (s : ℕ) (u : List ℕ) → IsReduced A (s ∷ u) → IsReduced A u
  IsReduced-tail s u h = IsReduced-back (s ∷ []) u h

  pub IsReduced-reverse : (u : List ℕ) → IsReduced A u → IsReduced A (reverse u)
  IsReduced-reverse u h = word_length-reverse u ∙ h ∙ sym (length-reverse u)

  -- a word of an element that is as short as a reduced one is reduced
  pub IsReduced-same : {u v : List ℕ} → SameElement A u v → IsReduced A v → length u ≤ length v → IsReduced A u
  IsReduced-same {u} {v} e h l = omega (arith, h, l, word_length-equal A g e, word_length-length A g u)
