-- Products of polynomials with sums over elements, and with signs.
use Rattle.std.proofs.Common.{◌≡◌, ℕ, zero, suc, List, [], ◌∷◌, ◌+ℤ◌, neg_ℤ, refl, ap, sym, ◌∙◌}
use Rattle.cox_poly.specs.Coefficients.{Coefficients}
use Rattle.cox_poly.specs.Products.{product}
use Rattle.cox_poly.proofs.Products.{product-zero, zero-product, product-plus, plus-product, product-negated, negated-product}
use Rattle.cox_rpoly.specs.Sign.{times_sign}
use Rattle.cox_hecke.specs.Family.{Family}
use Rattle.cox_hecke.specs.Sums.{sum_over}

-- a sum as the second factor
pub product-sum_over : (f : Coefficients) (words : List (List ℕ)) (h : Family) (k : ℕ)
    → product f (sum_over words h) k ≡ sum_over words (λ z. product f (h z)) k
product-sum_over f [] h k = product-zero f k
product-sum_over f (y ∷ words) h k =
    product-plus f (h y) (sum_over words h) k ∙ (λ i. product f (h y) k +ℤ product-sum_over f words h k i)

-- a sum as the first factor
pub sum_over-product : (words : List (List ℕ)) (h : Family) (f : Coefficients) (k : ℕ)
    → product (sum_over words h) f k ≡ sum_over words (λ z. product (h z) f) k
sum_over-product [] h f k = zero-product f k
sum_over-product (y ∷ words) h f k =
    plus-product (h y) (sum_over words h) f k ∙ (λ i. product (h y) f k +ℤ sum_over-product words h f k i)

-- the sign of the first factor
pub times_sign-product : (d : ℕ) (f h : Coefficients) (k : ℕ) → times_sign d (product f h) k ≡ product (times_sign d f) h k
times_sign-product zero f h k = refl
times_sign-product (suc d) f h k = ap neg_ℤ (times_sign-product d f h k) ∙ sym (negated-product (times_sign d f) h k)

-- the sign of the second factor
pub product-times_sign : (d : ℕ) (f h : Coefficients) (k : ℕ) → times_sign d (product f h) k ≡ product f (times_sign d h) k
product-times_sign zero f h k = refl
product-times_sign (suc d) f h k = ap neg_ℤ (product-times_sign d f h k) ∙ sym (product-negated f (times_sign d h) k)
