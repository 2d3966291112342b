-- The group of type A 2: its small roots are e(1), e(2) and e(1) + e(2), and the normal form of 212 is 121.
use Rattle.std.proofs.Common.{◌≡◌, ℕ, zero, suc, ◌<◌, ◌≤◌, [], ◌∷◌, pos, ◌<ℤ◌, refl, ap, sym, ◌∙◌, subst, arith}
use Rattle.std.proofs.Math.Path.{fun_ext}
use Rattle.std.proofs.lemmas.Int.{ints}
use Rattle.cox_base.specs.Matrix.{IsLetter}
use Rattle.cox_base.specs.NamedType.{type_matrix}
use Rattle.cox_base.specs.ShortLex.{normal_form}
use Rattle.cox_reflect.specs.Action.{Vector, simple_root, pairing, minus_multiple, reflect}
use Rattle.cox_reflect.specs.Transpose.{transposed}
use Rattle.cox_reflect.proofs.Sums.{simple_root-other}
use Rattle.cox_reflect.proofs.Action.{reflect-other}
use Rattle.cox_small.specs.SmallRoots.{IsShortStep, IsSmall, simple, step}
use Rattle.cox_small.specs.RootCounts.{HasFewSmallRoots}
use Rattle.cox_laws.specs.Examples.{a2}
use Rattle.cox_laws.proofs.WordsOnLiterals.{entries_on_literals, words_on_literals}

-- ---- small roots

-- the vector with these coordinates
abbrev vector : ℕ → ℕ → Vector
vector a b zero = pos 0
vector a b (suc zero) = pos a
vector a b (suc (suc zero)) = pos b
vector a b (suc (suc (suc i))) = pos 0

-- the three roots, from place 0 on
abbrev root : ℕ → Vector
root zero = vector 1 0
root (suc zero) = vector 0 1
root (suc (suc k)) = vector 1 1

-- two vectors that agree at 1 and 2, and are 0 elsewhere
first_root : simple_root 1 ≡ root 0
unfolding simple_root
first_root = fun_ext at where
  at : (i : ℕ) → simple_root 1 i ≡ vector 1 0 i
  at zero = refl
  at (suc zero) = refl
  at (suc (suc zero)) = refl
  at (suc (suc (suc i))) = simple_root-other 1 (suc (suc (suc i))) (λ e. omega (arith, e))

second_root : simple_root 2 ≡ root 1
unfolding simple_root
second_root = fun_ext at where
  at : (i : ℕ) → simple_root 2 i ≡ vector 0 1 i
  at zero = refl
  at (suc zero) = refl
  at (suc (suc zero)) = refl
  at (suc (suc (suc i))) = simple_root-other 2 (suc (suc (suc i))) (λ e. omega (arith, e))

-- the letter 1 takes e(2) to the third root, and 2 takes e(1) there; the same of coroots
second_turned : reflect a2 1 (root 1) ≡ root 2
unfolding entries_on_literals simple_root pairing minus_multiple reflect
second_turned = fun_ext at where
  at : (i : ℕ) → reflect a2 1 (vector 0 1) i ≡ vector 1 1 i
  at zero = refl
  at (suc zero) = refl
  at (suc (suc zero)) = refl
  at (suc (suc (suc i))) = reflect-other a2 1 (vector 0 1) (suc (suc (suc i))) (λ e. omega (arith, e))

second_coturned : reflect (transposed a2) 1 (root 1) ≡ root 2
unfolding entries_on_literals simple_root pairing minus_multiple reflect
second_coturned = fun_ext at where
  at : (i : ℕ) → reflect (transposed a2) 1 (vector 0 1) i ≡ vector 1 1 i
  at zero = refl
  at (suc zero) = refl
  at (suc (suc zero)) = refl
  at (suc (suc (suc i))) = reflect-other (transposed a2) 1 (vector 0 1) (suc (suc (suc i))) (λ e. omega (arith, e))

first_turned : reflect a2 2 (root 0) ≡ root 2
unfolding entries_on_literals simple_root pairing minus_multiple reflect
first_turned = fun_ext at where
  at : (i : ℕ) → reflect a2 2 (vector 1 0) i ≡ vector 1 1 i
  at zero = refl
  at (suc zero) = refl
  at (suc (suc zero)) = refl
  at (suc (suc (suc i))) = reflect-other a2 2 (vector 1 0) (suc (suc (suc i))) (λ e. omega (arith, e))

first_coturned : reflect (transposed a2) 2 (root 0) ≡ root 2
unfolding entries_on_literals simple_root pairing minus_multiple reflect
first_coturned = fun_ext at where
  at : (i : ℕ) → reflect (transposed a2) 2 (vector 1 0) i ≡ vector 1 1 i
  at zero = refl
  at (suc zero) = refl
  at (suc (suc zero)) = refl
  at (suc (suc (suc i))) = reflect-other (transposed a2) 2 (vector 1 0) (suc (suc (suc i))) (λ e. omega (arith, e))

-- one of the three, with this coroot
abbrev IsOneOf : Vector → Vector → Type 0
IsOneOf b c = (i : ℕ) × (i < 3) × (root i ≡ b) × (root i ≡ c)

-- a short step from one of them leads to one of them
turned : (s i : ℕ) → IsShortStep a2 s (root i) (root i) → IsOneOf (reflect a2 s (root i)) (reflect (transposed a2) s (root i))
unfolding entries_on_literals pairing
turned zero i q = absurd (omega (arith, q.letter.from_one))
turned (suc zero) zero q = let down : pos 2 <ℤ pos 0 = q.negative in absurd (omega (arith, ints, down))
turned (suc zero) (suc zero) q = (2, omega arith, sym second_turned, sym second_coturned)
turned (suc zero) (suc (suc k)) q = let down : pos 1 <ℤ pos 0 = q.negative in absurd (omega (arith, ints, down))
turned (suc (suc zero)) zero q = (2, omega arith, sym first_turned, sym first_coturned)
turned (suc (suc zero)) (suc zero) q = let down : pos 2 <ℤ pos 0 = q.negative in absurd (omega (arith, ints, down))
turned (suc (suc zero)) (suc (suc k)) q = let down : pos 1 <ℤ pos 0 = q.negative in absurd (omega (arith, ints, down))
turned (suc (suc (suc s))) i q = let within : suc (suc (suc s)) ≤ 2 = q.letter.to_rank in absurd (omega (arith, within))

simple_is : (s : ℕ) → IsLetter a2.rank s → IsOneOf (simple_root s) (simple_root s)
unfolding type_matrix
simple_is zero l = absurd (omega (arith, l.from_one))
simple_is (suc zero) l = (0, omega arith, sym first_root, sym first_root)
simple_is (suc (suc zero)) l = (1, omega arith, sym second_root, sym second_root)
simple_is (suc (suc (suc s))) l = let within : suc (suc (suc s)) ≤ 2 = l.to_rank in absurd (omega (arith, within))

small_is : {b c : Vector} → IsSmall a2 b c → IsOneOf b c
small_is (simple {s = s} l) = simple_is s l
small_is (step {s = s} {b = b} {c = c} q k) = go (small_is k) where
  go : IsOneOf b c → IsOneOf (reflect a2 s b) (reflect (transposed a2) s c)
  go one =
      let here : IsShortStep a2 s (root one.0) c = subst (λ v. IsShortStep a2 s v c) (sym one.2) q in
      let both : IsShortStep a2 s (root one.0) (root one.0) = subst (λ v. IsShortStep a2 s (root one.0) v) (sym one.3) here in
      let next = turned s one.0 both in
      (next.0, next.1, next.2 ∙ ap (reflect a2 s) one.2, next.3 ∙ ap (reflect (transposed a2) s) one.3)

pub few_roots : (most : ℕ) → 3 ≤ most → HasFewSmallRoots a2 most
few_roots most some = record {
  root = root;
  all = λ {b} k. let one = small_is k.small in (one.0, omega (arith, one.1, some), one.2);
}

-- ---- the normal form of 212

pub form-212 : normal_form a2 (2 ∷ 1 ∷ 2 ∷ []) ≡ 1 ∷ 2 ∷ 1 ∷ []
unfolding words_on_literals
form-212 = refl
