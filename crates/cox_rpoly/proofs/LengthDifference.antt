-- The difference of lengths, as the code computes it.
use Rattle.std.proofs.Common.{◌≡◌, ℕ, ◌+◌, ◌-◌, ◌<◌, ◌≤◌, List, length, ap, arith}
use Rattle.cox_base.specs.IntegerMatrix.{IntegerMatrix}
use Rattle.cox_base.specs.Admissible.{IsAdmissible}
use Rattle.cox_base.specs.ShortLex.{normal_form}
use Rattle.cox_base.specs.Length.{word_length}
use Rattle.cox_base.specs.Bruhat.{IsBelow}
use Rattle.cox_reflect.proofs.Lengths.{word_length-is}
use Rattle.cox_reflect.proofs.Bruhat.{below-length}
use Rattle.cox_rpoly.specs.declared.TheConstants.{MAX_DIFFERENCE}
use Rattle.cox_rpoly.specs.Depth.{IsDeep}

-- the normal forms of x and w have m and n letters, and x is below w
module _ (A : IntegerMatrix) (g : IsAdmissible A) {x w least form : List ℕ} {m n : ℕ} (first : least ≡ normal_form A x)
    (second : form ≡ normal_form A w) (few : m ≡ length least) (count : n ≡ length form) (below : IsBelow A x w) where
  length_x : word_length A x ≡ m
  length_x = omega (arith, few, ap (λ (xs : List ℕ). length xs) first, word_length-is A x)

  length_w : word_length A w ≡ n
  length_w = omega (arith, count, ap (λ (xs : List ℕ). length xs) second, word_length-is A w)

  pub lengths-rise : m ≤ n
  lengths-rise = omega (arith, length_x, length_w, below-length A g below)

  pub IsDeep-difference : (d : ℕ) → n - m ≡ d → MAX_DIFFERENCE < d → IsDeep A x w d
  IsDeep-difference d e above = record { below = below; difference = omega (arith, e, length_x, length_w, lengths-rise); above = above }

  pub difference-is : (d : ℕ) → IsDeep A x w d → n - m ≡ d
  difference-is d deep = omega (arith, deep.difference, length_x, length_w)

  pub not_deep : n - m ≤ MAX_DIFFERENCE → (d : ℕ) → IsDeep A x w d → ⊥
  not_deep near d deep = omega (arith, difference-is d deep, deep.above, near)

  pub near : n - m ≤ MAX_DIFFERENCE → length form ≤ word_length A x + MAX_DIFFERENCE
  near small = omega (arith, small, count, length_x, lengths-rise)
