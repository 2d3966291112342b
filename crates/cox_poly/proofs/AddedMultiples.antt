-- A multiple of a polynomial, added to sums coefficient by coefficient.
use Rattle.std.proofs.Common.{◌≡◌, ℕ, ◌+◌, ◌-◌, ◌^◌, ◌<◌, ◌≤◌, List, length, set, refl, ◌∙◌, inl, inr, arith}
use Rattle.std.proofs.Common.{ℤ, pos, ◌+ℤ◌, ◌*ℤ◌, unsigned_abs, FitsSigned}
use Rattle.std.proofs.lemmas.Bool.{cases_lt}
use Rattle.std.specs.Int.{w128}
use Rattle.std.proofs.lemmas.Int.{ints, fits_signed_from_abs}
use Rattle.std.proofs.lemmas.Grind.{common_steps}
use Rattle.cox_poly.specs.Products.{times_q_power}
use Rattle.cox_poly.specs.Polynomial.{coefficient, IsPolynomial, HasDegreeBelow, coefficient_after}
use Rattle.cox_poly.proofs.Coefficients.{times_q_power_at, times_q_power_below}
use Rattle.cox_poly.proofs.Polynomials.{coefficient_past}

-- q^n p has no term past the shifted list
pub times_q_power_past : (p : List ℤ) (n k : ℕ) → n + length p ≤ k → times_q_power n (coefficient p) k ≡ pos 0
times_q_power_past p n k h = times_q_power_at (coefficient p) n k (k - n) (omega arith) ∙ coefficient_past p (k - n) (omega arith)

-- a polynomial with no term that q^n moves to q^m or above has at most m - n coefficients
pub IsPolynomial-room : (m : ℕ) (p : List ℤ) (n : ℕ) → IsPolynomial p → 0 < length p → ((k : ℕ) → m ≤ k + n → coefficient p k ≡ pos 0)
    → n + length p ≤ m
IsPolynomial-room m p n ends some low = elim (cases_lt m (n + length p)) [
  | inl over ↦ absurd (ends some (low (length p - 1) (omega arith)))
  | inr within ↦ within
]

-- no sum at or above both ends is other than 0
pub HasDegreeBelow-added : (old new p : List ℤ) (factor : ℤ) (n used end : ℕ) → HasDegreeBelow old used
    → ((k : ℕ) → coefficient new k ≡ coefficient_after old p factor n k) → used ≤ end → n + length p ≤ end → HasDegreeBelow new end
HasDegreeBelow-added old new p factor n used end below added u e k h =
    rw (added k, below k (omega arith), times_q_power_past p n k (omega arith)) (omega (arith, ints))

-- the first i coefficients are added
pub record Added (old new p : List ℤ) (factor : ℤ) (shift i : ℕ) : Type 0 where
  pub size : length new ≡ length old
  pub done : (k : ℕ) → k < shift + i → coefficient new k ≡ coefficient_after old p factor shift k
  pub rest : (k : ℕ) → shift + i ≤ k → coefficient new k ≡ coefficient old k

-- at the start none is
pub Added-none : (old p : List ℤ) (factor : ℤ) (shift : ℕ) → Added old old p factor shift 0
Added-none old p factor shift = record {
  size = refl;
  done = λ k h. rw (times_q_power_below (coefficient p) shift k (omega arith)) (omega (arith, ints));
  rest = λ k h. refl;
}

-- one more
pub Added-more : (old new p : List ℤ) (factor : ℤ) (shift i : ℕ) (v : ℤ) → Added old new p factor shift i → shift + i < length old → v
    ≡ coefficient new (shift + i) +ℤ factor *ℤ coefficient p i → Added old (set new (shift + i) v) p factor shift (i + 1)
Added-more old new p factor shift i v a in_range e = record {
  size = grind (arith, common_steps, a.size);
  done = λ k h. grind (arith, common_steps, a.done k, a.rest k, a.size, times_q_power_at (coefficient p) shift k i);
  rest = λ k h. grind (arith, common_steps, a.rest k);
}

-- the next sum has room
pub Added-room : (old new p : List ℤ) (factor : ℤ) (shift i : ℕ) → Added old new p factor shift i
    → ((k : ℕ) → unsigned_abs (coefficient_after old p factor shift k) ≤ 2 ^ 126)
    → FitsSigned w128 (coefficient new (shift + i) +ℤ factor *ℤ coefficient p i)
Added-room old new p factor shift i a room =
    let room_here = rw (times_q_power_at (coefficient p) shift (shift + i) i (omega arith)) at (room (shift + i)) in
    fits_signed_from_abs w128 _ (rw (a.rest (shift + i) (omega arith)) (omega (arith, room_here)))

-- all of them: the sum at each degree
pub Added-all : (old new p : List ℤ) (factor : ℤ) (shift : ℕ) → Added old new p factor shift (length p) → (k : ℕ) → coefficient new k
    ≡ coefficient_after old p factor shift k
Added-all old new p factor shift a k = elim (cases_lt k (shift + length p)) [
  | inl within ↦ a.done k within
  | inr past ↦ rw (times_q_power_past p shift k past) (omega (arith, ints, a.rest k past))
]
