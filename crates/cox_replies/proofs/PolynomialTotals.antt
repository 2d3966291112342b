-- The totals of one polynomial: its degree, and the sum of its coefficients.
use Rattle.std.proofs.Common.{◌≡◌, ◌≢◌, ℕ, zero, suc, ◌+◌, ◌≤◌, ◌<◌, max, List, [], map, refl, sym, ap, ◌∙◌, ⊎_elim, arith}
use Rattle.std.proofs.Common.{ℤ, pos, ◌+ℤ◌, Bool, true, false, if◌then◌else◌}
use Rattle.std.proofs.lemmas.Bool.{cases_lt, cases_eq}
use Rattle.std.proofs.Math.IntN.{+ℤ_idl, +ℤ_idr, +ℤ_assoc}
use Rattle.std.specs.List.{range_with_len}
use Rattle.std.specs.Ordering.{int_eq}
use Rattle.cox_poly.specs.Coefficients.{Coefficients}
use Rattle.cox_poly.specs.Polynomial.{coefficient, HasDegreeBelow, IsDegree}
use Rattle.cox_poly.proofs.Terms.{int_eq-zero}
use Rattle.cox_replies.specs.RowReply.{coefficients_to}
use Rattle.cox_replies.specs.WorkReply.{degree_from}
use Rattle.cox_replies.specs.Totals.{sum_of, polynomial_totals}

-- ---- the sum

-- one coefficient more
sum_of-next : (f : Coefficients) (a n : ℕ)
    → sum_of (map f (range_with_len a (suc n))) ≡ sum_of (map f (range_with_len a n)) +ℤ f (a + n)
sum_of-next f a zero = let e : a + 0 ≡ a = omega arith in rw e (+ℤ_idr (f a) ∙ sym (+ℤ_idl (f a)))
sum_of-next f a (suc n) =
    let e : a + suc n ≡ a + 1 + n = omega arith in
    rw e (ap (λ s. f a +ℤ s) (sum_of-next f (a + 1) n) ∙ sym (+ℤ_assoc (f a) (sum_of (map f (range_with_len (a + 1) n))) (f (a + 1 + n))))

pub sum_of-more : (f : Coefficients) (k : ℕ)
    → sum_of (map f (range_with_len 0 (k + 1))) ≡ sum_of (map f (range_with_len 0 k)) +ℤ f k
sum_of-more f k = let e : k + 1 ≡ suc k = omega arith in let z : 0 + k ≡ k = omega arith in rw e (rw z at (sum_of-next f 0 k))

-- zeros add nothing
sum_of-zeros : (f : Coefficients) (a n : ℕ) → ((k : ℕ) → a ≤ k → f k ≡ pos 0) → sum_of (map f (range_with_len a n)) ≡ pos 0
sum_of-zeros f a zero zeros = refl
sum_of-zeros f a (suc n) zeros =
    let first : f a ≡ pos 0 = zeros a (omega arith) in
    rw (first, sum_of-zeros f (a + 1) n (λ k l. zeros k (omega (arith, l)))) refl

-- coefficients beyond the degree add nothing
sum_of-beyond : (f : Coefficients) (a n m : ℕ) → n ≤ m → ((k : ℕ) → a + n ≤ k → f k ≡ pos 0)
    → sum_of (map f (range_with_len a m)) ≡ sum_of (map f (range_with_len a n))
sum_of-beyond f a zero m few zeros = sum_of-zeros f a m (λ k l. zeros k (omega (arith, l)))
sum_of-beyond f a (suc n) zero few zeros = absurd (omega (arith, few))
sum_of-beyond f a (suc n) (suc m) few zeros =
    ap (λ s. f a +ℤ s) (sum_of-beyond f (a + 1) n m (omega (arith, few)) (λ k l. zeros k (omega (arith, l))))

-- ---- the degree

-- zeros have none
degree_from-zeros : (f : Coefficients) (a n : ℕ) → ((k : ℕ) → a ≤ k → f k ≡ pos 0) → degree_from a (map f (range_with_len a n)) ≡ 0
degree_from-zeros f a zero zeros = refl
degree_from-zeros f a (suc n) zeros =
    let first : f a ≡ pos 0 = zeros a (omega arith) in
    let e : suc a ≡ a + 1 = omega arith in
    rw (first, e, degree_from-zeros f (a + 1) n (λ k l. zeros k (omega (arith, l)))) refl

-- an earlier degree counts for nothing
no_more : (b : Bool) (a d : ℕ) → a ≤ d → max (if b then 0 else a) d ≡ d
no_more true a d least = omega arith
no_more false a d least = omega (arith, least)

-- the greatest degree of a term
degree_from-is : (f : Coefficients) (d a n : ℕ) → f d ≢ pos 0 → ((k : ℕ) → d + 1 ≤ k → f k ≡ pos 0) → a ≤ d → d < a + n
    → degree_from a (map f (range_with_len a n)) ≡ d
degree_from-is f d a zero leading above least most = absurd (omega (arith, least, most))
degree_from-is f d a (suc n) leading above least most = ⊎_elim
    (λ (here : a ≡ d). rw (here, int_eq-zero (f d) leading) (first (degree_from-zeros f (d + 1) n above)))
    (λ (other : a ≡ d → ⊥). later (degree_from-is f d (a + 1) n leading above (omega (arith, least, other)) (omega (arith, most))))
    (cases_eq a d)
  where
    first : degree_from (d + 1) (map f (range_with_len (d + 1) n)) ≡ 0 → max d (degree_from (suc d) (map f (range_with_len (d + 1) n))) ≡ d
    first none = let e : suc d ≡ d + 1 = omega arith in rw (e, none) (omega arith)

    later : degree_from (a + 1) (map f (range_with_len (a + 1) n)) ≡ d
        → max (if int_eq (f a) (pos 0) then 0 else a) (degree_from (suc a) (map f (range_with_len (a + 1) n))) ≡ d
    later rest = let e : suc a ≡ a + 1 = omega arith in rw (e, rest) (no_more (int_eq (f a) (pos 0)) a d least)

-- ---- both

-- of a polynomial of degree d
pub polynomial_totals-degree : (p : List ℤ) (d n : ℕ) → IsDegree p d → HasDegreeBelow p (n + 1)
    → polynomial_totals (coefficients_to n (coefficient p))
    ≡ record { entries = 1; degree = d; sum = sum_of (coefficients_to d (coefficient p)) }
polynomial_totals-degree p d n is below =
    let low : d ≤ n = ⊎_elim (λ (h : n < d). absurd (is.leading (below d (omega (arith, h))))) (λ (h : d ≤ n). h) (cases_lt n d) in
    rw (
      degree_from-is (coefficient p) d 0 (n + 1) is.leading is.above (omega arith) (omega (arith, low)),
      sum_of-beyond (coefficient p) 0 (d + 1) (n + 1) (omega (arith, low)) (λ k l. is.above k (omega (arith, l))),
    ) refl

-- of the zero polynomial
pub polynomial_totals-zero : (n : ℕ) → polynomial_totals (coefficients_to n (coefficient [])) ≡ record
    { entries = 1; degree = 0; sum = pos 0 }
polynomial_totals-zero n =
    rw (degree_from-zeros (coefficient []) 0 (n + 1) (λ k l. refl), sum_of-zeros (coefficient []) 0 (n + 1) (λ k l. refl)) refl
