-- Sums of products: their order can be exchanged.
use Rattle.std.proofs.Common.{◌≡◌, ℕ, List, ap, sym, ◌∙◌}
use Rattle.cox_poly.specs.Coefficients.{Coefficients}
use Rattle.cox_poly.specs.Products.{product}
use Rattle.cox_poly.proofs.Products.{product-comm, product-associative}
use Rattle.cox_hecke.specs.Family.{Family}
use Rattle.cox_hecke.specs.Sums.{sum_over}
use Rattle.cox_hecke.proofs.ListSums.{sum_over-equal, sum_over-swap}
use Rattle.cox_hecke.proofs.ProductLaws.{product-sum_over, sum_over-product}

-- the sum over z of (the sum over y of r(y) f(y,z)) t(z)
pub sums-exchanged : (words : List (List ℕ)) (r : Family) (f : List ℕ → Family) (t : Family) (k : ℕ)
    → sum_over words (λ z. product (sum_over words (λ y. product (r y) (f y z))) (t z)) k
    ≡ sum_over words (λ y. product (r y) (sum_over words (λ z. product (f y z) (t z)))) k
sums-exchanged words r f t k =
    sum_over-equal words (λ z. product (sum_over words (λ y. product (r y) (f y z))) (t z))
    (λ z. sum_over words (λ y. product (r y) (product (f y z) (t z)))) k
    (λ z. sum_over-product words (λ y. product (r y) (f y z)) (t z) k
    ∙ sum_over-equal words (λ y. product (product (r y) (f y z)) (t z)) (λ y. product (r y) (product (f y z) (t z))) k
    (λ y. product-associative (r y) (f y z) (t z) k))
    ∙ sum_over-swap words words (λ z y. product (r y) (product (f y z) (t z))) k
    ∙ sum_over-equal words (λ y. sum_over words (λ z. product (r y) (product (f y z) (t z))))
    (λ y. product (r y) (sum_over words (λ z. product (f y z) (t z)))) k
    (λ y. sym (product-sum_over (r y) words (λ z. product (f y z) (t z)) k))

-- the same with the sum as the second factor
pub sums-exchanged_back : (words : List (List ℕ)) (r : Family) (f : List ℕ → Family) (t : Family) (k : ℕ)
    → sum_over words (λ z. product (t z) (sum_over words (λ y. product (r y) (f y z)))) k
    ≡ sum_over words (λ y. product (r y) (sum_over words (λ z. product (t z) (f y z)))) k
sums-exchanged_back words r f t k =
    sum_over-equal words (λ z. product (t z) (sum_over words (λ y. product (r y) (f y z))))
    (λ z. product (sum_over words (λ y. product (r y) (f y z))) (t z)) k
    (λ z. product-comm (t z) (sum_over words (λ y. product (r y) (f y z))) k)
    ∙ sums-exchanged words r f t k
    ∙ sum_over-equal words (λ y. product (r y) (sum_over words (λ z. product (f y z) (t z))))
    (λ y. product (r y) (sum_over words (λ z. product (t z) (f y z)))) k
    (λ y. ap (λ (h : Coefficients). product (r y) h k) (λ i j. sum_over-equal words (λ z. product (f y z) (t z))
    (λ z. product (t z) (f y z)) j (λ z. product-comm (f y z) (t z) j) i))
