-- Products, sums and differences as the code computes them: they fit where their values do, and are these values.
use Rattle.std.proofs.Common.{◌≡◌, ◌*◌, ◌^◌, ◌≤◌, ◌<◌, ℤ, ◌+ℤ◌, ◌-ℤ◌, ◌*ℤ◌, nat_abs, to_z, of_z, refl, ◌∙◌, arith}
use Rattle.std.proofs.lemmas.Int.{to_z-of_z, fits_signed_from_abs, fits_signed_mul}
use mir.Syntax.{Width, w64, w128}
use mir.Val.{SFits, hbits}

-- an entry, widened to 128 bits
pub widened : (r entry e : ℤ) → SFits w64 entry → r ≡ to_z w64 (of_z w64 entry) → entry ≡ e → r ≡ e
widened r entry e fits is same = is ∙ to_z-of_z w64 entry fits ∙ same

-- a product, and a sum with one more product, as the code computes them
module _ (r x e : ℤ) (r_fits : SFits w128 r) (x_fits : SFits w128 x) (is : r ≡ e) (fits : SFits w128 (e *ℤ x)) where
  product-value : to_z w128 (of_z w128 r) *ℤ to_z w128 (of_z w128 x) ≡ e *ℤ x
  product-value = rw (to_z-of_z w128 r r_fits, to_z-of_z w128 x x_fits, is) refl

  pub product-fits : SFits w128 (to_z w128 (of_z w128 r) *ℤ to_z w128 (of_z w128 x))
  product-fits = rw product-value fits

  pub sum-value : (sum s : ℤ) → sum ≡ s → sum +ℤ to_z w128 (of_z w128 (to_z w128 (of_z w128 r) *ℤ to_z w128 (of_z w128 x))) ≡ s +ℤ (e *ℤ x)
  sum-value sum s sum_is = rw (product-value, to_z-of_z w128 (e *ℤ x) fits, sum_is) refl

-- a difference x - e y, at any width: e is an entry of the matrix, and y is so small that the product fits
module _ (w : Width) (x r y e : ℤ) (x_fits : SFits w x) (r_fits : SFits w r) (y_fits : SFits w y) (is : r ≡ e) (small : nat_abs e ≤ 3)
    (own : 3 * nat_abs y < 2 ^ hbits w) where
  factor-fits : SFits w (e *ℤ y)
  factor-fits = fits_signed_mul w e y 3 (nat_abs y) small (omega arith) own

  pub difference : to_z w (of_z w x) -ℤ to_z w (of_z w (to_z w (of_z w r) *ℤ to_z w (of_z w y))) ≡ x -ℤ (e *ℤ y)
  difference = rw (to_z-of_z w x x_fits, to_z-of_z w r r_fits, to_z-of_z w y y_fits, is, to_z-of_z w (e *ℤ y) factor-fits) refl

  -- it fits, so the test of it does not fail
  pub difference-tested : {P : Type 0} → nat_abs (x -ℤ (e *ℤ y)) < 2 ^ hbits w
      → (SFits w (to_z w (of_z w x) -ℤ to_z w (of_z w (to_z w (of_z w r) *ℤ to_z w (of_z w y)))) → ⊥) → P
  difference-tested room fails = absurd (fails (rw difference (fits_signed_from_abs w (x -ℤ (e *ℤ y)) room)))

  -- what the test gave is the difference
  pub difference-value : (v : ℤ) → SFits w v → v ≡ to_z w (of_z w x) -ℤ to_z w (of_z w (to_z w (of_z w r) *ℤ to_z w (of_z w y)))
      → to_z w (of_z w v) ≡ x -ℤ (e *ℤ y)
  difference-value v fits tested = to_z-of_z w v fits ∙ tested ∙ difference

-- a plain difference
module _ (x p : ℤ) (x_fits : SFits w128 x) (p_fits : SFits w128 p) (fits : SFits w128 (x -ℤ p)) where
  pub minus-fits : SFits w128 (to_z w128 (of_z w128 x) -ℤ to_z w128 (of_z w128 p))
  minus-fits = rw (to_z-of_z w128 x x_fits, to_z-of_z w128 p p_fits) fits

  pub minus-value : to_z w128 (of_z w128 (to_z w128 (of_z w128 x) -ℤ to_z w128 (of_z w128 p))) ≡ x -ℤ p
  minus-value = rw (to_z-of_z w128 x x_fits, to_z-of_z w128 p p_fits) (to_z-of_z w128 (x -ℤ p) fits)
