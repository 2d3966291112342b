-- What passes the action: linear operators on polynomials, and sums.
use Rattle.std.proofs.Common.{◌≡◌, ℕ, zero, suc, Bool, true, false, if◌then◌else◌, List, [], ◌∷◌, ℤ, pos, ◌+ℤ◌, ◌*ℤ◌, neg_ℤ, refl, ap}
use Rattle.std.proofs.Common.{ap₂, sym}
use Rattle.std.proofs.Common.{◌∙◌, arith}
use Rattle.std.proofs.lemmas.Int.{ints}
use Rattle.cox_base.specs.IntegerMatrix.{IntegerMatrix}
use Rattle.cox_lemmas.proofs.Ring.{mul_add, mul_neg}
use Rattle.cox_poly.specs.Coefficients.{Coefficients, zero_polynomial, plus, times_q}
use Rattle.cox_poly.specs.Products.{product}
use Rattle.cox_poly.specs.Multiples.{negated, scaled}
use Rattle.cox_poly.proofs.Products.{product-plus, product-negated, product-scaled, product-times_q, product-zero}
use Rattle.cox_rpoly.specs.InverseOperators.{shortens_left}
use Rattle.cox_hecke.specs.Family.{Family}
use Rattle.cox_hecke.specs.Sums.{sum_over}
use Rattle.cox_module.proofs.ActionOnFunctions.{through, through_word, lift}

-- T is linear over the integers, and v passes
pub record IsLinear (T : Coefficients → Coefficients) : Type 0 where
  pub of_plus : (f h : Coefficients) → T (plus f h) ≡ plus (T f) (T h)
  pub of_negated : (f : Coefficients) → T (negated f) ≡ negated (T f)
  pub of_scaled : (c : ℤ) (f : Coefficients) → T (scaled c f) ≡ scaled c (T f)
  pub of_times_q : (f : Coefficients) → T (times_q f) ≡ times_q (T f)
  pub of_none : T zero_polynomial ≡ zero_polynomial

-- ---- some of them

pub itself-linear : IsLinear (λ f. f)
itself-linear = record {
  of_plus = λ f h. refl;
  of_negated = λ f. refl;
  of_scaled = λ c f. refl;
  of_times_q = λ f. refl;
  of_none = refl;
}

negative_sum : (a b : ℤ) → neg_ℤ (a +ℤ b) ≡ neg_ℤ a +ℤ neg_ℤ b
negative_sum a b = omega (arith, ints)

pub negated-times_q : (f : Coefficients) (k : ℕ) → negated (times_q f) k ≡ times_q (negated f) k
negated-times_q f zero = refl
negated-times_q f (suc k) = refl

pub negated-linear : IsLinear negated
negated-linear = record {
  of_plus = λ f h. λ i k. negative_sum (f k) (h k) i;
  of_negated = λ f. refl;
  of_scaled = λ c f. λ i k. sym (mul_neg c (f k)) i;
  of_times_q = λ f. λ i k. negated-times_q f k i;
  of_none = refl;
}

times_zero : (c : ℤ) → pos 0 ≡ c *ℤ pos 0
times_zero c = omega (arith, ints)

pub times_q-none : (k : ℕ) → times_q zero_polynomial k ≡ pos 0
times_q-none zero = refl
times_q-none (suc k) = refl

pub none-linear : IsLinear (λ f. zero_polynomial)
none-linear = record {
  of_plus = λ f h. refl;
  of_negated = λ f. refl;
  of_scaled = λ c f. λ i k. times_zero c i;
  of_times_q = λ f. λ i k. sym (times_q-none k) i;
  of_none = refl;
}

times_q-plus : (f h : Coefficients) (k : ℕ) → times_q (plus f h) k ≡ plus (times_q f) (times_q h) k
times_q-plus f h zero = refl
times_q-plus f h (suc k) = refl

times_q-scaled : (c : ℤ) (f : Coefficients) (k : ℕ) → times_q (scaled c f) k ≡ scaled c (times_q f) k
times_q-scaled c f zero = times_zero c
times_q-scaled c f (suc k) = refl

pub times_q-linear : IsLinear times_q
times_q-linear = record {
  of_plus = λ f h. λ i k. times_q-plus f h k i;
  of_negated = λ f. λ i k. sym (negated-times_q f k) i;
  of_scaled = λ c f. λ i k. times_q-scaled c f k i;
  of_times_q = λ f. refl;
  of_none = λ i k. times_q-none k i;
}

pub product-linear : (p : Coefficients) → IsLinear (product p)
product-linear p = record {
  of_plus = λ f h. λ i k. product-plus p f h k i;
  of_negated = λ f. λ i k. product-negated p f k i;
  of_scaled = λ c f. λ i k. product-scaled c p f k i;
  of_times_q = λ f. λ i k. product-times_q p f k i;
  of_none = λ i k. product-zero p k i;
}

pub joined-linear : {T U : Coefficients → Coefficients} → IsLinear T → IsLinear U → IsLinear (λ f. T (U f))
joined-linear {T} {U} t u = record {
  of_plus = λ f h. ap T (u.of_plus f h) ∙ t.of_plus (U f) (U h);
  of_negated = λ f. ap T (u.of_negated f) ∙ t.of_negated (U f);
  of_scaled = λ c f. ap T (u.of_scaled c f) ∙ t.of_scaled c (U f);
  of_times_q = λ f. ap T (u.of_times_q f) ∙ t.of_times_q (U f);
  of_none = ap T u.of_none ∙ t.of_none;
}

pub lift-linear : (n : ℕ) → IsLinear (lift n)
lift-linear zero = record {
  of_plus = λ f h. refl;
  of_negated = λ f. refl;
  of_scaled = λ c f. refl;
  of_times_q = λ f. refl;
  of_none = refl;
}
lift-linear (suc n) = joined-linear {T = negated} {U = λ f. times_q (lift n f)} negated-linear
    (joined-linear {T = times_q} {U = lift n} times_q-linear (lift-linear n))

-- a linear operator passes powers of -v
pub lift-passes : {T : Coefficients → Coefficients} → IsLinear T → (n : ℕ) (f : Coefficients) → T (lift n f) ≡ lift n (T f)
lift-passes t zero f = refl
lift-passes {T} t (suc n) f =
    t.of_negated (times_q (lift n f)) ∙ ap negated (t.of_times_q (lift n f))
    ∙ ap (λ (h : Coefficients). negated (times_q h)) (lift-passes t n f)

-- ---- the action

module _ (A : IntegerMatrix) (weight : ℕ → List ℕ → List ℕ → ℤ) (members : List (List ℕ)) where
  pub sum-linear : {T : Coefficients → Coefficients} → IsLinear T → (c : List ℕ → ℤ) (words : List (List ℕ)) (f : Family)
      → sum_over words (λ y. scaled (c y) (T (f y))) ≡ T (sum_over words (λ y. scaled (c y) (f y)))
  sum-linear t c [] f = sym t.of_none
  sum-linear {T} t c (y ∷ words) f =
      ap₂ (λ (a b : Coefficients). plus a b) (sym (t.of_scaled (c y) (f y))) (sum-linear t c words f)
      ∙ sym (t.of_plus (scaled (c y) (f y)) (sum_over words (λ z. scaled (c z) (f z))))

  pub through-linear : {T : Coefficients → Coefficients} → IsLinear T → (s : ℕ) (f : Family)
      → through A weight members s (λ x. T (f x)) ≡ (λ x. T (through A weight members s f x))
  through-linear {T} t s f = λ i x. at x (shortens_left A s x) i
    where
      at : (x : List ℕ) (b : Bool)
          → (if b then negated (T (f x))
          else plus (times_q (times_q (T (f x)))) (times_q (sum_over members (λ y. scaled (weight s x y) (T (f y))))))
          ≡ T (if b then negated (f x) else plus (times_q (times_q (f x))) (times_q (sum_over members (λ y. scaled (weight s x y) (f y)))))
      at x true = sym (t.of_negated (f x))
      at x false =
          ap₂ (λ (a b : Coefficients). plus a b)
          (ap times_q (sym (t.of_times_q (f x))) ∙ sym (t.of_times_q (times_q (f x))))
          (ap times_q (sum-linear t (weight s x) members f)
          ∙ sym (t.of_times_q (sum_over members (λ y. scaled (weight s x y) (f y)))))
          ∙ sym (t.of_plus (times_q (times_q (f x))) (times_q (sum_over members (λ y. scaled (weight s x y) (f y)))))

  sum-plus : (c : List ℕ → ℤ) (words : List (List ℕ)) (f h : Family) (k : ℕ)
      → sum_over words (λ y. scaled (c y) (plus (f y) (h y))) k
      ≡ plus (sum_over words (λ y. scaled (c y) (f y))) (sum_over words (λ y. scaled (c y) (h y))) k
  sum-plus c [] f h k = refl
  sum-plus c (y ∷ words) f h k = omega (arith, ints, mul_add (c y) (f y k) (h y k), sum-plus c words f h k)

  pub through-plus : (s : ℕ) (f h : Family)
      → through A weight members s (λ x. plus (f x) (h x))
      ≡ (λ x. plus (through A weight members s f x) (through A weight members s h x))
  through-plus s f h = λ i x k. at x (shortens_left A s x) k i
    where
      at : (x : List ℕ) (b : Bool) (k : ℕ)
          → (if b then negated (plus (f x) (h x))
          else plus (times_q (times_q (plus (f x) (h x)))) (times_q (sum_over members (λ y. scaled (weight s x y) (plus (f y) (h y)))))) k
          ≡ plus (if b then negated (f x)
          else plus (times_q (times_q (f x))) (times_q (sum_over members (λ y. scaled (weight s x y) (f y)))))
          (if b then negated (h x) else plus (times_q (times_q (h x))) (times_q (sum_over members (λ y. scaled (weight s x y) (h y))))) k
      at x true k = negative_sum (f x k) (h x k)
      at x false zero = refl
      at x false (suc zero) = omega (arith, ints, sum-plus (weight s x) members f h zero)
      at x false (suc (suc k)) = omega (arith, ints, sum-plus (weight s x) members f h (suc k))

  -- ---- the same along words

  pub along-linear : {T : Coefficients → Coefficients} → IsLinear T → (u : List ℕ) (f : Family)
      → through_word A weight members u (λ x. T (f x)) ≡ (λ x. T (through_word A weight members u f x))
  along-linear t [] f = refl
  along-linear {T} t (s ∷ u) f =
      ap (through_word A weight members u) (through-linear t s f) ∙ along-linear t u (through A weight members s f)

  pub along-plus : (u : List ℕ) (f h : Family)
      → through_word A weight members u (λ x. plus (f x) (h x))
      ≡ (λ x. plus (through_word A weight members u f x) (through_word A weight members u h x))
  along-plus [] f h = refl
  along-plus (s ∷ u) f h =
      ap (through_word A weight members u) (through-plus s f h)
      ∙ along-plus u (through A weight members s f) (through A weight members s h)

  -- ---- (t(s) + 1)(t(s) - v^2) = 0, for any weights that are 0 unless s shortens y

  pub quadratic : (s : ℕ) (f : Family) → ((x y : List ℕ) → shortens_left A s y ≡ false → weight s x y ≡ pos 0)
      → (x : List ℕ) (k : ℕ)
      → through A weight members s (through A weight members s f) x k +ℤ through A weight members s f x k
      ≡ times_q (times_q (plus (through A weight members s f x) (f x))) k
  quadratic s f zeros x k = at (shortens_left A s x) k
    where
      second : (words : List (List ℕ)) (j : ℕ)
          → sum_over words (λ y. scaled (weight s x y) (through A weight members s f y)) j
          ≡ neg_ℤ (sum_over words (λ y. scaled (weight s x y) (f y)) j)
      second [] j = refl
      second (y ∷ words) j = omega (arith, ints, one (shortens_left A s y) refl, second words j)
        where
          one : (b : Bool) → shortens_left A s y ≡ b → weight s x y *ℤ through A weight members s f y j ≡ neg_ℤ (weight s x y *ℤ f y j)
          one true e = rw e (mul_neg (weight s x y) (f y j))
          one false e = rw (zeros x y e) (omega (arith, ints))

      at : (b : Bool) (k : ℕ)
          → (if b then negated (if b then negated (f x)
          else plus (times_q (times_q (f x))) (times_q (sum_over members (λ y. scaled (weight s x y) (f y)))))
          else plus (times_q (times_q (if b then negated (f x)
          else plus (times_q (times_q (f x))) (times_q (sum_over members (λ y. scaled (weight s x y) (f y)))))))
          (times_q (sum_over members (λ y. scaled (weight s x y) (through A weight members s f y))))) k
          +ℤ (if b then negated (f x)
          else plus (times_q (times_q (f x))) (times_q (sum_over members (λ y. scaled (weight s x y) (f y))))) k
          ≡ times_q (times_q (plus (if b then negated (f x)
          else plus (times_q (times_q (f x))) (times_q (sum_over members (λ y. scaled (weight s x y) (f y))))) (f x))) k
      at true zero = omega (arith, ints)
      at true (suc zero) = omega (arith, ints)
      at true (suc (suc k)) = omega (arith, ints)
      at false zero = refl
      at false (suc zero) = omega (arith, ints, second members zero)
      at false (suc (suc k)) = omega (arith, ints, second members (suc k))
