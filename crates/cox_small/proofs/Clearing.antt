-- After a short step from b the root s b does not dominate e(s): some word makes s b negative and e(s) positive. By the pair -p, -r, which
-- is 1 1, 1 2, 2 1, 1 3 or 3 1.
use Rattle.std.proofs.Common.{◌≡◌, ℕ, zero, suc, ◌*◌, ◌≤◌, Bool, true, false, List, [], ◌∷◌, ℤ, pos, negsuc, ◌*ℤ◌, neg_ℤ, ◌≤ℤ◌, ◌<ℤ◌, ap}
use Rattle.std.proofs.Common.{◌∙◌, arith}
use Rattle.std.proofs.Math.Path.{fun_ext}
use Rattle.std.proofs.Math.Nat.{mul-le-mul_left}
use Rattle.std.proofs.lemmas.Int.{ints}
use lib.Signed.{le_z_yes}
use Rattle.cox_base.specs.IntegerMatrix.{IntegerMatrix}
use Rattle.cox_base.specs.Admissible.{IsAdmissible}
use Rattle.cox_reflect.specs.Action.{Vector, simple_root, pairing, minus_multiple, reflect}
use Rattle.cox_reflect.specs.WordAction.{act, IsNonnegative, IsNonpositive}
use Rattle.cox_reflect.specs.Transpose.{transposed}
use Rattle.cox_lemmas.proofs.Ring.{linears, multiply_out, neg_mul, product_nonnegative}
use Rattle.cox_reflect.proofs.Positivity.{simple_root-nonnegative}
use Rattle.cox_small.specs.SmallRoots.{IsShortStep}
use Rattle.cox_small.specs.Elementary.{Dominates}
use Rattle.cox_small.proofs.RootPairs.{IsRootPair, root-act, root-simple, root-one_sign}
use Rattle.cox_small.proofs.Combinations.{mix, turned, turns, word_of, act-word_of}

data IsFinitePair : ℤ → ℤ → Type 0 where
  one_one : IsFinitePair (pos 1) (pos 1)
  one_two : IsFinitePair (pos 1) (pos 2)
  two_one : IsFinitePair (pos 2) (pos 1)
  one_three : IsFinitePair (pos 1) (pos 3)
  three_one : IsFinitePair (pos 3) (pos 1)

-- the turns take e(s) to a nonnegative combination, and s b = P e(s) + b to a nonpositive one
record Clears (P R : ℤ) : Type 0 where
  moves : List Bool
  simple_s : pos 0 ≤ℤ (turns P R moves (pos 1, pos 0)).0
  simple_b : pos 0 ≤ℤ (turns P R moves (pos 1, pos 0)).1
  image_s : (turns P R moves (P, pos 1)).0 ≤ℤ pos 0
  image_b : (turns P R moves (P, pos 1)).1 ≤ℤ pos 0

cleared : {P R : ℤ} (moves : List Bool) → pos 0 ≤ℤ (turns P R moves (pos 1, pos 0)).0 → pos 0 ≤ℤ (turns P R moves (pos 1, pos 0)).1
    → (turns P R moves (P, pos 1)).0 ≤ℤ pos 0 → (turns P R moves (P, pos 1)).1 ≤ℤ pos 0 → Clears P R
cleared moves s b image_s image_b =
    record { moves = moves; simple_s = s; simple_b = b; image_s = image_s; image_b = image_b }

clears : {P R : ℤ} → IsFinitePair P R → Clears P R
unfolding turns turned
clears one_one = cleared (true ∷ false ∷ []) (le_z_yes tt) (le_z_yes tt) (le_z_yes tt) (le_z_yes tt)
clears one_two = cleared (false ∷ true ∷ false ∷ []) (le_z_yes tt) (le_z_yes tt) (le_z_yes tt) (le_z_yes tt)
clears two_one = cleared (false ∷ true ∷ false ∷ []) (le_z_yes tt) (le_z_yes tt) (le_z_yes tt) (le_z_yes tt)
clears one_three = cleared (false ∷ true ∷ false ∷ true ∷ false ∷ []) (le_z_yes tt) (le_z_yes tt) (le_z_yes tt) (le_z_yes tt)
clears three_one = cleared (false ∷ true ∷ false ∷ true ∷ false ∷ []) (le_z_yes tt) (le_z_yes tt) (le_z_yes tt) (le_z_yes tt)

-- two numbers whose product is 1, 2 or 3
more : (y : ℕ) → 1 ≤ suc y
more y = omega arith

finite_pair : (x y : ℕ) → 1 ≤ x * y → x * y ≤ 3 → IsFinitePair (pos x) (pos y)
finite_pair zero y l h = absurd (omega (arith, l))
finite_pair (suc x) zero l h = absurd (omega (arith, l))
finite_pair (suc zero) (suc zero) l h = one_one
finite_pair (suc zero) (suc (suc zero)) l h = one_two
finite_pair (suc zero) (suc (suc (suc zero))) l h = one_three
finite_pair (suc zero) (suc (suc (suc (suc y)))) l h = absurd (omega (arith, h))
finite_pair (suc (suc zero)) (suc zero) l h = two_one
finite_pair (suc (suc zero)) (suc (suc y)) l h = absurd (omega (arith, h))
finite_pair (suc (suc (suc zero))) (suc zero) l h = three_one
finite_pair (suc (suc (suc zero))) (suc (suc y)) l h = absurd (omega (arith, h))
finite_pair (suc (suc (suc (suc x)))) (suc y) l h =
    absurd (omega (arith, h, mul-le-mul_left (suc (suc (suc (suc x)))) (more y)))

factors : (p r : ℤ) → p <ℤ pos 0 → pos 1 ≤ℤ (p *ℤ r) → (p *ℤ r) ≤ℤ pos 3 → IsFinitePair (neg_ℤ p) (neg_ℤ r)
factors (pos x) r n l h = absurd (omega (arith, ints, n))
factors (negsuc x) (pos y) n l h = absurd (omega (arith, ints, l))
factors (negsuc x) (negsuc y) n l h = finite_pair (suc x) (suc y) (omega (arith, ints, l)) (omega (arith, ints, h))

module _ (A : IntegerMatrix) (g : IsAdmissible A) where
  pub short-not_dominates : (s : ℕ) {b c : Vector} → IsRootPair A b c → IsNonnegative b → IsShortStep A s b c
      → Dominates A (reflect A s b) (simple_root s) → ⊥
  unfolding mix minus_multiple reflect
  short-not_dominates s {b} {c} h up q d =
      go (clears (factors (pairing A s b) (pairing (transposed A) s c) q.negative q.at_least_one q.at_most_three))
    where
      go : Clears (neg_ℤ (pairing A s b)) (neg_ℤ (pairing (transposed A) s c)) → ⊥
      go k = root-one_sign A g (root-act A g w (root-simple A g s q.letter)) there (d.follows w sent)
        where
          P : ℤ
          P = neg_ℤ (pairing A s b)

          w : List ℕ
          w = word_of A g s q.letter b c h k.moves

          combination-nonpositive : (x y : ℤ) → x ≤ℤ pos 0 → y ≤ℤ pos 0 → IsNonpositive (mix x (simple_root s) y b)
          combination-nonpositive x y hx hy i =
              let m : pos 0 ≤ℤ (neg_ℤ x *ℤ simple_root s i)
              = product_nonnegative (neg_ℤ x) (simple_root s i) (omega (arith, linears, hx)) (simple_root-nonnegative s i)
              in let n : pos 0 ≤ℤ (neg_ℤ y *ℤ b i) = product_nonnegative (neg_ℤ y) (b i) (omega (arith, linears, hy)) (up i)
              in omega (arith, linears, m, n, neg_mul x (simple_root s i), neg_mul y (b i))

          sent : IsNonpositive (act A w (reflect A s b))
          sent i =
              let e : reflect A s b ≡ mix P (simple_root s) (pos 1) b
              = fun_ext (λ j. simp multiply_out (omega (arith, linears)))
              in rw (e, act-word_of A g s q.letter b c h k.moves (P, pos 1))
              (combination-nonpositive (turns P (neg_ℤ (pairing (transposed A) s c)) k.moves (P, pos 1)).0
              (turns P (neg_ℤ (pairing (transposed A) s c)) k.moves (P, pos 1)).1 k.image_s k.image_b i)

          there : IsNonnegative (act A w (simple_root s))
          there i =
              let e : simple_root s ≡ mix (pos 1) (simple_root s) (pos 0) b
              = fun_ext (λ j. simp multiply_out (omega (arith, linears)))
              in let f : act A w (simple_root s) ≡ mix (turns P (neg_ℤ (pairing (transposed A) s c)) k.moves (pos 1, pos 0)).0
              (simple_root s)
              (turns P (neg_ℤ (pairing (transposed A) s c)) k.moves (pos 1, pos 0)).1 b =
              ap (act A w) e ∙ act-word_of A g s q.letter b c h k.moves (pos 1, pos 0)
              in rw f (omega (
                arith,
                linears,
                product_nonnegative (turns P (neg_ℤ (pairing (transposed A) s c)) k.moves (pos 1, pos 0)).0 (simple_root s i) k.simple_s
                    (simple_root-nonnegative s i),
                product_nonnegative (turns P (neg_ℤ (pairing (transposed A) s c)) k.moves (pos 1, pos 0)).1 (b i) k.simple_b (up i),
              ))
