-- Linear functions from the free module to polynomials, by their values at the basis; for proofs.
use Rattle.std.specs.Prelude.{ℕ, zero, suc, ◌==◌, if◌then◌else◌, List, [], ◌∷◌}
use Rattle.cox_poly.specs.Coefficients.{Coefficients, zero_polynomial, one_polynomial, plus}
use Rattle.cox_poly.specs.Products.{product}
use Rattle.cox_module.specs.declared.term.Term.{Term}
use Rattle.cox_module.specs.FreeModule.{Vector, times_entry}

-- f(image)
abbrev pub value_at : Vector → List Term → Coefficients
value_at f [] = zero_polynomial
value_at f (term ∷ image) = plus (times_entry term.entry (f term.place)) (value_at f image)

-- f(t(s1) t(s2) .. t(sk) x) for each basis element x
abbrev pub value_word : (ℕ → ℕ → List Term) → List ℕ → Vector → Vector
value_word images [] f = f
value_word images (s ∷ u) f = value_word images u (λ k. value_at f (images s k))

-- f(h): the sum of the h(k) f(k)
abbrev pub pair : ℕ → Vector → Vector → Coefficients
pair zero h f = zero_polynomial
pair (suc n) h f = plus (pair n h f) (product (h n) (f n))

-- the coefficient at j
abbrev pub coordinate : ℕ → Vector
coordinate j k = if k == j then one_polynomial else zero_polynomial
