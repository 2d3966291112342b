-- The ring laws of ℤ that std lacks, and two sets of them. A polynomial identity over ℤ is proved by
-- `simp multiply_out (omega (arith, linears))`.
use Rattle.std.proofs.Common.{◌≡◌, ℕ, ◌*◌, ℤ, pos, negsuc, ◌+ℤ◌, ◌*ℤ◌, neg_ℤ, ◌≤ℤ◌, ap, sym, ◌∙◌, arith}
use Rattle.std.proofs.lemmas.Int.{ints}
use lib.IntN.{*ℤ_comm}
use borrow.Author.Differences.{up, down, sum_is_lem, product_is, neg_is, same_out, same_in, Apart-out, lt_out, le_out, below_in, at_most_in}

pub mul_add : (a b c : ℤ) → a *ℤ (b +ℤ c) ≡ (a *ℤ b) +ℤ (a *ℤ c)
mul_add a b c =
    omega (arith, ints, ap (λ (n : ℕ). up a * n) (sum_is_lem b c), ap (λ (n : ℕ). down a * n) (sum_is_lem b c))

pub add_mul : (a b c : ℤ) → (a +ℤ b) *ℤ c ≡ (a *ℤ c) +ℤ (b *ℤ c)
add_mul a b c =
    omega (arith, ints, ap (λ (n : ℕ). n * up c) (sum_is_lem a b), ap (λ (n : ℕ). n * down c) (sum_is_lem a b))

pub mul_neg : (a b : ℤ) → a *ℤ neg_ℤ b ≡ neg_ℤ (a *ℤ b)
mul_neg a b =
    omega (
      arith,
      ints,
      ap (λ (n : ℕ). up a * n) (neg_is b).0,
      ap (λ (n : ℕ). up a * n) (neg_is b).1,
      ap (λ (n : ℕ). down a * n) (neg_is b).0,
      ap (λ (n : ℕ). down a * n) (neg_is b).1,
    )

pub neg_mul : (a b : ℤ) → neg_ℤ a *ℤ b ≡ neg_ℤ (a *ℤ b)
neg_mul a b = *ℤ_comm (neg_ℤ a) b ∙ mul_neg b a ∙ ap neg_ℤ (*ℤ_comm b a)

pub mul_assoc : (a b c : ℤ) → (a *ℤ b) *ℤ c ≡ a *ℤ (b *ℤ c)
mul_assoc a b c =
    omega (
      arith,
      ints,
      ap (λ (n : ℕ). up a * n) (product_is b c).0,
      ap (λ (n : ℕ). up a * n) (product_is b c).1,
      ap (λ (n : ℕ). down a * n) (product_is b c).0,
      ap (λ (n : ℕ). down a * n) (product_is b c).1,
      ap (λ (n : ℕ). n * up c) (product_is a b).0,
      ap (λ (n : ℕ). n * up c) (product_is a b).1,
      ap (λ (n : ℕ). n * down c) (product_is a b).0,
      ap (λ (n : ℕ). n * down c) (product_is a b).1,
    )

pub mul_left_comm : (a b c : ℤ) → a *ℤ (b *ℤ c) ≡ b *ℤ (a *ℤ c)
mul_left_comm a b c = sym (mul_assoc a b c) ∙ ap (λ (x : ℤ). x *ℤ c) (*ℤ_comm a b) ∙ mul_assoc b a c

pub times_one : (a : ℤ) → a *ℤ pos 1 ≡ a
times_one a = omega (arith, ints)

pub times_two : (a : ℤ) → a *ℤ pos 2 ≡ a +ℤ a
times_two a = omega (arith, ints)

pub times_three : (a : ℤ) → a *ℤ pos 3 ≡ a +ℤ (a +ℤ a)
times_three a = omega (arith, ints)

pub times_neg_one : (a : ℤ) → a *ℤ negsuc 0 ≡ neg_ℤ a
times_neg_one a = omega (arith, ints)

pub times_neg_two : (a : ℤ) → a *ℤ negsuc 1 ≡ neg_ℤ (a +ℤ a)
times_neg_two a = omega (arith, ints)

pub times_neg_three : (a : ℤ) → a *ℤ negsuc 2 ≡ neg_ℤ (a +ℤ (a +ℤ a))
times_neg_three a = omega (arith, ints)

pub times_zero : (a : ℤ) → a *ℤ pos 0 ≡ pos 0
times_zero a = omega (arith, ints)

pub one_times : (a : ℤ) → pos 1 *ℤ a ≡ a
one_times a = omega (arith, ints)

pub two_times : (a : ℤ) → pos 2 *ℤ a ≡ a +ℤ a
two_times a = omega (arith, ints)

pub three_times : (a : ℤ) → pos 3 *ℤ a ≡ a +ℤ (a +ℤ a)
three_times a = omega (arith, ints)

pub neg_one_times : (a : ℤ) → negsuc 0 *ℤ a ≡ neg_ℤ a
neg_one_times a = omega (arith, ints)

pub neg_two_times : (a : ℤ) → negsuc 1 *ℤ a ≡ neg_ℤ (a +ℤ a)
neg_two_times a = omega (arith, ints)

pub neg_three_times : (a : ℤ) → negsuc 2 *ℤ a ≡ neg_ℤ (a +ℤ (a +ℤ a))
neg_three_times a = omega (arith, ints)

pub zero_times : (a : ℤ) → pos 0 *ℤ a ≡ pos 0
zero_times a = omega (arith, ints)

-- for omega: sums, differences and order, each product being an unknown
pub ruleset linears = (same_out, Apart-out, lt_out, le_out, same_in, below_in, at_most_in, sum_is_lem, neg_is)

-- for simp: multiplies out, and sorts each product
pub ruleset multiply_out = (
  times_zero,
  times_one,
  times_two,
  times_three,
  times_neg_one,
  times_neg_two,
  times_neg_three,
  zero_times,
  one_times,
  two_times,
  three_times,
  neg_one_times,
  neg_two_times,
  neg_three_times,
  mul_add,
  add_mul,
  mul_neg,
  neg_mul,
  mul_assoc,
  *ℤ_comm,
  mul_left_comm,
)

pub product_nonnegative : (a b : ℤ) → pos 0 ≤ℤ a → pos 0 ≤ℤ b → pos 0 ≤ℤ (a *ℤ b)
product_nonnegative (pos a) (pos b) h k = omega (arith, ints)
product_nonnegative (pos a) (negsuc b) h k = absurd k.le
product_nonnegative (negsuc a) b h k = absurd h.le
