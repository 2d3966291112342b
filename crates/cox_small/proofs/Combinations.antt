-- Combinations x e(s) + y b of a simple root and a root b with the coroot c: how s and the reflection of b change the coefficients x and y.
use Rattle.std.proofs.Common.{◌≡◌, ℕ, Bool, true, false, List, [], ◌∷◌, ◌++◌, reverse, ℤ, pos, ◌+ℤ◌, ◌-ℤ◌, ◌*ℤ◌, neg_ℤ, refl, ap, sym}
use Rattle.std.proofs.Common.{◌∙◌, arith}
use Rattle.std.proofs.Math.Path.{fun_ext}
use mathlib.Core.List.{reverse-cons}
use Rattle.cox_base.specs.Matrix.{IsLetter}
use Rattle.cox_base.specs.IntegerMatrix.{IntegerMatrix}
use Rattle.cox_base.specs.Admissible.{IsAdmissible}
use Rattle.cox_reflect.specs.Action.{Vector, simple_root, pairing, minus_multiple, reflect}
use Rattle.cox_reflect.specs.WordAction.{act}
use Rattle.cox_reflect.specs.Transpose.{transposed}
use Rattle.cox_reflect.specs.DerivedWords.{reflection}
use Rattle.cox_lemmas.proofs.Ring.{linears, multiply_out}
use Rattle.cox_reflect.proofs.Action.{act-nil, act-cons, act-append, act-push, act-minus_multiple, act-fixed, pairing-minus_multiple}
use Rattle.cox_reflect.proofs.Action.{pairing-zero}
use Rattle.cox_reflect.proofs.Action.{pairing-simple_root, reverse-act}
use Rattle.cox_reflect.proofs.Roots.{negated}
use Rattle.cox_reflect.proofs.Exchange.{act-reflection, reflection-root}
use Rattle.cox_reflect.proofs.Transposed.{IsAdmissible-transposed}
use Rattle.cox_small.proofs.RootPairs.{IsRootPair}

-- x v + y w
unfoldable pub mix : ℤ → Vector → ℤ → Vector → Vector
mix x v y w i = (x *ℤ v i) +ℤ (y *ℤ w i)

-- the coefficients of an image, with P = -p and R = -r: under s (true), and under the reflection of b (false)
unfoldable pub turned : ℤ → ℤ → Bool → ℤ × ℤ → ℤ × ℤ
turned P R true c = ((P *ℤ c.1) -ℤ c.0, c.1)
turned P R false c = (c.0, (R *ℤ c.0) -ℤ c.1)

-- after some turns, the last one first
unfoldable pub turns : ℤ → ℤ → List Bool → ℤ × ℤ → ℤ × ℤ
turns P R [] c = c
turns P R (m ∷ rest) c = turned P R m (turns P R rest c)

nothing : Vector
nothing i = pos 0

nothing-at : (i : ℕ) → nothing i ≡ pos 0
unfolding nothing
nothing-at i = refl

as_minus : (x : ℤ) (v : Vector) (y : ℤ) (w : Vector) → mix x v y w ≡ minus_multiple (minus_multiple nothing (neg_ℤ x) v) (neg_ℤ y) w
unfolding mix minus_multiple nothing
as_minus x v y w = fun_ext (λ i. simp multiply_out (omega (arith, linears)))

module _ (A : IntegerMatrix) (g : IsAdmissible A) where
  act-nothing : (u : List ℕ) → act A u nothing ≡ nothing
  unfolding nothing
  act-nothing u = act-fixed A g u nothing (λ i l. refl)

  pub act-mix : (u : List ℕ) (x : ℤ) (v : Vector) (y : ℤ) (w : Vector) → act A u (mix x v y w) ≡ mix x (act A u v) y (act A u w)
  act-mix u x v y w =
      ap (act A u) (as_minus x v y w) ∙ act-minus_multiple A u (minus_multiple nothing (neg_ℤ x) v) (neg_ℤ y) w
      ∙ ap (λ (z : Vector). minus_multiple z (neg_ℤ y) (act A u w))
      (act-minus_multiple A u nothing (neg_ℤ x) v ∙ ap (λ (z : Vector). minus_multiple z (neg_ℤ x) (act A u v)) (act-nothing u))
      ∙ sym (as_minus x (act A u v) y (act A u w))

  -- <e(s), coroot of z e(t)> is the pairing of z^-1 e(s) with e(t)
  pub coroot-pairing : (z : List ℕ) (s t : ℕ)
      → pairing (transposed A) s (act (transposed A) z (simple_root t)) ≡ pairing A t (act A (reverse z) (simple_root s))
  unfolding reflect
  coroot-pairing [] s t =
      rw (
        act-nil A (simple_root s),
        act-nil (transposed A) (simple_root t),
        pairing-simple_root A g t s,
        pairing-simple_root (transposed A) (IsAdmissible-transposed A g) s t,
      )
      refl
  coroot-pairing (q ∷ z) s t =
      rw (
        reverse-cons q z,
        act-push A (reverse z) q (simple_root s),
        act-cons (transposed A) q z (simple_root t),
      )
      (step (coroot-pairing z s t) (coroot-pairing z q t))
    where
      step : pairing (transposed A) s (act (transposed A) z (simple_root t)) ≡ pairing A t (act A (reverse z) (simple_root s))
          → pairing (transposed A) q (act (transposed A) z (simple_root t)) ≡ pairing A t (act A (reverse z) (simple_root q))
          → pairing (transposed A) s (reflect (transposed A) q (act (transposed A) z (simple_root t)))
          ≡ pairing A t (act A (reverse z) (reflect A q (simple_root s)))
      step e f =
          rw (
            pairing-minus_multiple (transposed A) s (act (transposed A) z (simple_root t))
                (pairing (transposed A) q (act (transposed A) z (simple_root t))) (simple_root q),
            pairing-simple_root (transposed A) (IsAdmissible-transposed A g) s q,
            pairing-simple_root A g q s,
            act-minus_multiple A (reverse z) (simple_root s) (A.entry q s) (simple_root q),
            pairing-minus_multiple A t (act A (reverse z) (simple_root s)) (A.entry q s) (act A (reverse z) (simple_root q)),
            e,
            f,
          )
          (simp multiply_out (omega (arith, linears)))

  module _ (s : ℕ) (ls : IsLetter A.rank s) (b c : Vector) (h : IsRootPair A b c) where
    -- -p and -r
    abbrev pub minus_p : ℤ
    minus_p = neg_ℤ (pairing A s b)

    abbrev pub minus_r : ℤ
    minus_r = neg_ℤ (pairing (transposed A) s c)

    abbrev pub combination : ℤ × ℤ → Vector
    combination k = mix k.0 (simple_root s) k.1 b

    -- s is turned by the letter, b by its reflection
    unfoldable pub word_of : List Bool → List ℕ
    word_of [] = []
    word_of (true ∷ rest) = s ∷ word_of rest
    word_of (false ∷ rest) = reflection h.word h.letter ++ word_of rest

    pairing-mix : (x y : ℤ) → pairing A s (mix x (simple_root s) y b) ≡ (x *ℤ pos 2) +ℤ (y *ℤ pairing A s b)
    pairing-mix x y =
        let zero_there : pairing A s nothing ≡ pos 0 = pairing-zero A s nothing (λ i l. nothing-at i)
        in rw (
          as_minus x (simple_root s) y b,
          pairing-minus_multiple A s (minus_multiple nothing (neg_ℤ x) (simple_root s)) (neg_ℤ y) b,
          pairing-minus_multiple A s nothing (neg_ℤ x) (simple_root s),
          pairing-simple_root A g s s,
          g.diagonal s ls,
        )
        (simp multiply_out (omega (arith, linears, zero_there)))

    reflect-mix : (x y : ℤ) → reflect A s (mix x (simple_root s) y b) ≡ mix ((minus_p *ℤ y) -ℤ x) (simple_root s) y b
    unfolding reflect minus_multiple mix
    reflect-mix x y = fun_ext (λ i. rw (pairing-mix x y) (simp multiply_out (omega (arith, linears))))

    turn_simple : act A (reflection h.word h.letter) (simple_root s) ≡ minus_multiple (simple_root s) (pairing (transposed A) s c) b
    unfolding reflect
    turn_simple =
        act-reflection A g h.word h.letter (simple_root s)
        ∙ act-minus_multiple A h.word (act A (reverse h.word) (simple_root s)) (pairing A h.letter (act A (reverse h.word) (simple_root s)))
        (simple_root h.letter)
        ∙ rw (reverse-act A g h.word (simple_root s), ← (coroot-pairing h.word s h.letter), h.coimage, h.image) refl

    turn_own : act A (reflection h.word h.letter) b ≡ negated b
    turn_own = rw h.image at (reflection-root A g h.word h.letter h.inside)

    turn-mix : (x y : ℤ) → act A (reflection h.word h.letter) (mix x (simple_root s) y b) ≡ mix x (simple_root s) ((minus_r *ℤ x) -ℤ y) b
    unfolding minus_multiple mix negated
    turn-mix x y =
        act-mix (reflection h.word h.letter) x (simple_root s) y b
        ∙ rw (turn_simple, turn_own) (fun_ext (λ i. simp multiply_out (omega (arith, linears))))

    pub act-word_of : (m : List Bool) (start : ℤ × ℤ)
        → act A (word_of m) (combination start) ≡ combination (turns minus_p minus_r m start)
    unfolding word_of turns turned
    act-word_of [] start = act-nil A (mix start.0 (simple_root s) start.1 b)
    act-word_of (true ∷ rest) start =
        let before : ℤ × ℤ = turns (neg_ℤ (pairing A s b)) (neg_ℤ (pairing (transposed A) s c)) rest start
        in act-cons A s (word_of rest) (combination start) ∙ ap (reflect A s) (act-word_of rest start) ∙ reflect-mix before.0 before.1
    act-word_of (false ∷ rest) start =
        let before : ℤ × ℤ = turns (neg_ℤ (pairing A s b)) (neg_ℤ (pairing (transposed A) s c)) rest start
        in act-append A (reflection h.word h.letter) (word_of rest) (combination start)
        ∙ ap (act A (reflection h.word h.letter)) (act-word_of rest start) ∙ turn-mix before.0 before.1
