-- A positive root b with p negative and p r at least 4: each word that makes s b negative makes e(s) negative.
-- Else the word makes all the roots (r s)^k b negative, r the reflection of b, whose coordinates at s have no bound.
use Rattle.std.proofs.Common.{◌≡◌, ℕ, zero, suc, Bool, true, false, List, [], ◌∷◌, ℤ, pos, ◌+ℤ◌, ◌-ℤ◌, ◌*ℤ◌, neg_ℤ, ◌≤ℤ◌, ◌<ℤ◌, refl, ap}
use Rattle.std.proofs.Common.{⊎_elim, arith, subst}
use Rattle.std.proofs.Math.Path.{fun_ext}
use Rattle.std.proofs.lemmas.Int.{ints, by_lt_z}
use lib.Signed.{le_z_yes}
use Rattle.cox_base.specs.Matrix.{IsLetter}
use Rattle.cox_base.specs.IntegerMatrix.{IntegerMatrix}
use Rattle.cox_base.specs.Admissible.{IsAdmissible}
use Rattle.cox_reflect.specs.Action.{Vector, simple_root, pairing, minus_multiple, reflect}
use Rattle.cox_reflect.specs.WordAction.{act, IsNonnegative, IsNonpositive}
use Rattle.cox_reflect.specs.Transpose.{transposed}
use Rattle.cox_lemmas.proofs.Ring.{linears, multiply_out, mul_neg, neg_mul, times_one, product_nonnegative}
use Rattle.cox_reflect.proofs.Sums.{simple_root-self}
use Rattle.cox_reflect.proofs.Action.{act-minus_multiple}
use Rattle.cox_reflect.proofs.Positivity.{simple_root-nonnegative}
use Rattle.cox_small.specs.Elementary.{IsRoot, Dominates}
use Rattle.cox_small.proofs.RootPairs.{IsRootPair, root-has_sign, root-act, root-simple, pair-root}
use Rattle.cox_small.proofs.SentRoots.{bound, sent-bound}
use Rattle.cox_small.proofs.Signs.{pairing-letter, negative-agrees}
use Rattle.cox_small.proofs.Combinations.{mix, turned, turns, act-mix, word_of, act-word_of}

mix-own : (v w : Vector) → mix (pos 0) v (pos 1) w ≡ w
unfolding mix
mix-own v w = fun_ext (λ i. simp multiply_out (omega (arith, linears)))

-- the coefficients x and y after k rounds: x is at least k, and grows
record IsRising (P R : ℤ) (k : ℕ) (x y : ℤ) : Type 0 where
  far : pos k ≤ℤ x
  growing : P ≤ℤ ((P *ℤ y) -ℤ (x +ℤ x))
  up : pos 0 ≤ℤ y

-- first s, then the reflection, k times
rounds : ℕ → List Bool
rounds zero = []
rounds (suc k) = false ∷ true ∷ rounds k

module _ (P R : ℤ) (hp : pos 1 ≤ℤ P) (hr : pos 1 ≤ℤ R) (far : pos 4 ≤ℤ (P *ℤ R)) where
  -- the round from x and y to t and R t - y, with t = P y - x
  rise : (k : ℕ) (x y t : ℤ) → t ≡ (P *ℤ y) -ℤ x → IsRising P R k x y → IsRising P R (suc k) t ((R *ℤ t) -ℤ y)
  rise k x y t e h = record { far = reach; growing = grows; up = positive_there }
    where
      reach : pos (suc k) ≤ℤ t
      reach = omega (arith, linears, e, h.far, h.growing, hp)

      four : pos 0 ≤ℤ (((P *ℤ R) -ℤ pos 4) *ℤ t)
      four = product_nonnegative ((P *ℤ R) -ℤ pos 4) t (omega (arith, linears, far)) (omega (arith, linears, reach))

      out : P *ℤ ((R *ℤ t) -ℤ y) ≡ ((((P *ℤ R) -ℤ pos 4) *ℤ t) +ℤ ((t +ℤ t) +ℤ (t +ℤ t))) -ℤ (P *ℤ y)
      out =
          let four_times : t *ℤ pos 4 ≡ (t +ℤ t) +ℤ (t +ℤ t) = omega (arith, ints)
          in simp multiply_out (omega (arith, linears, four_times))

      grows : P ≤ℤ ((P *ℤ ((R *ℤ t) -ℤ y)) -ℤ (t +ℤ t))
      grows = omega (arith, linears, out, four, e, h.growing)

      positive_there : pos 0 ≤ℤ ((R *ℤ t) -ℤ y)
      positive_there =
          by_lt_z ((R *ℤ t) -ℤ y) (pos 0) (λ n. absurd (never n)) (λ q. q)
        where
          never : ((R *ℤ t) -ℤ y) <ℤ pos 0 → ⊥
          never n =
              let m : pos 0 ≤ℤ (P *ℤ neg_ℤ ((R *ℤ t) -ℤ y))
              = product_nonnegative P (neg_ℤ ((R *ℤ t) -ℤ y)) (omega (arith, linears, hp)) (omega (arith, linears, n))
              in let f : P *ℤ neg_ℤ ((R *ℤ t) -ℤ y) ≡ neg_ℤ (P *ℤ ((R *ℤ t) -ℤ y)) = mul_neg P ((R *ℤ t) -ℤ y)
              in omega (arith, linears, m, f, grows, reach, hp)

  rising : (k : ℕ) → IsRising P R k (turns P R (rounds k) (pos 0, pos 1)).0 (turns P R (rounds k) (pos 0, pos 1)).1
  unfolding rounds turns turned
  rising zero = record { far = le_z_yes tt; growing = rw (times_one P) (omega (arith, linears)); up = le_z_yes tt }
  rising (suc k) =
      let before : ℤ × ℤ = turns P R (rounds k) (pos 0, pos 1)
      in rise k before.0 before.1 ((P *ℤ before.1) -ℤ before.0) refl (rising k)

-- where w makes s b negative and e(s) not, it makes the combination negative
combination-sent : (p x y a d : ℤ) → pos 0 ≤ℤ y → pos 0 ≤ℤ ((neg_ℤ p *ℤ y) -ℤ x) → pos 0 ≤ℤ a → (d -ℤ (p *ℤ a)) ≤ℤ pos 0
    → ((x *ℤ a) +ℤ (y *ℤ d)) ≤ℤ pos 0
combination-sent p x y a d hy ht ha hd =
    let m : pos 0 ≤ℤ (y *ℤ ((p *ℤ a) -ℤ d)) = product_nonnegative y ((p *ℤ a) -ℤ d) hy (omega (arith, linears, hd))
    in let n : pos 0 ≤ℤ (((neg_ℤ p *ℤ y) -ℤ x) *ℤ a) = product_nonnegative ((neg_ℤ p *ℤ y) -ℤ x) a ht ha
    in let e : (x *ℤ a) +ℤ (y *ℤ d) ≡ neg_ℤ ((y *ℤ ((p *ℤ a) -ℤ d)) +ℤ (((neg_ℤ p *ℤ y) -ℤ x) *ℤ a))
    = simp multiply_out (omega (arith, linears))
    in omega (arith, linears, m, n, e)

module _ (A : IntegerMatrix) (g : IsAdmissible A) where
  module _ (s : ℕ) (ls : IsLetter A.rank s) (b c : Vector) (h : IsRootPair A b c) (up : IsNonnegative b) (w : List ℕ)
      (sent : IsNonpositive (act A w (reflect A s b))) (hp : pos 1 ≤ℤ neg_ℤ (pairing A s b))
      (hr : pos 1 ≤ℤ neg_ℤ (pairing (transposed A) s c))
      (far : pos 4 ≤ℤ (neg_ℤ (pairing A s b) *ℤ neg_ℤ (pairing (transposed A) s c))) where
    abbrev P : ℤ
    P = neg_ℤ (pairing A s b)

    abbrev R : ℤ
    R = neg_ℤ (pairing (transposed A) s c)

    k : ℕ
    k = suc (bound A w s)

    x : ℤ
    x = (turns P R (rounds k) (pos 0, pos 1)).0

    y : ℤ
    y = (turns P R (rounds k) (pos 0, pos 1)).1

    at_k : IsRising P R k x y
    unfolding x y
    at_k = rising P R hp hr far k

    -- the root (r s)^k b
    root : IsRoot A (mix x (simple_root s) y b)
    unfolding x y
    root =
        let start : mix (pos 0) (simple_root s) (pos 1) b ≡ b = mix-own (simple_root s) b
        in subst (IsRoot A) (act-word_of A g s ls b c h (rounds k) (pos 0, pos 1))
        (root-act A g (word_of A g s ls b c h (rounds k)) (rw start (pair-root A g h)))

    positive_there : IsNonnegative (mix x (simple_root s) y b)
    unfolding mix
    positive_there i =
        omega (
          arith,
          linears,
          product_nonnegative x (simple_root s i) (omega (arith, linears, at_k.far)) (simple_root-nonnegative s i),
          product_nonnegative y (b i) at_k.up (up i),
        )

    negative_there : IsNonnegative (act A w (simple_root s)) → IsNonpositive (act A w (mix x (simple_root s) y b))
    unfolding mix minus_multiple reflect
    negative_there n i =
        rw (act-mix A g w x (simple_root s) y b)
        (combination-sent (pairing A s b) x y (act A w (simple_root s) i) (act A w b i) at_k.up
        (omega (arith, linears, at_k.growing, at_k.far, hp)) (n i)
        (rw (ap (λ (v : Vector). v i) (act-minus_multiple A w b (pairing A s b) (simple_root s))) at (sent i)))

    never : IsNonnegative (act A w (simple_root s)) → ⊥
    unfolding mix k
    never n =
        let small : mix x (simple_root s) y b s ≤ℤ pos (bound A w s) = sent-bound A g w root positive_there (negative_there n) s
        in let one : x *ℤ simple_root s s ≡ x = rw (simple_root-self s) (times_one x)
        in omega (arith, linears, small, one, at_k.far, product_nonnegative y (b s) at_k.up (up s))

  -- such a step is out of reach: s b dominates e(s)
  pub out-dominates : (s : ℕ) {b c : Vector} → IsRootPair A b c → IsNonnegative b → pairing A s b <ℤ pos 0
      → pos 4 ≤ℤ (pairing A s b *ℤ pairing (transposed A) s c)
      → Dominates A (reflect A s b) (simple_root s)
  out-dominates s {b} {c} h up n far = record {
    follows = λ w sent. ⊎_elim
        (λ q. absurd (never s ls b c h up w sent (omega (arith, linears, n)) (omega (arith, linears, negative-agrees A g s h up n))
        squares q))
        (λ q. q) (root-has_sign A g (root-act A g w (root-simple A g s ls)));
  }
    where
      ls : IsLetter A.rank s
      ls = pairing-letter A g s b (λ z. omega (arith, linears, z, n))

      squares : pos 4 ≤ℤ (neg_ℤ (pairing A s b) *ℤ neg_ℤ (pairing (transposed A) s c))
      squares = rw (neg_mul, mul_neg) (omega (arith, linears, far))
