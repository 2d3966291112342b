-- Sums of the polynomials of corrections, by number.
use Rattle.std.specs.Prelude.{ℕ, ◌<◌, List, [], ◌∷◌, length}
use Rattle.cox_base.specs.IntegerMatrix.{IntegerMatrix}
use Rattle.cox_poly.specs.Coefficients.{Coefficients, zero_polynomial, plus}
use Rattle.cox_poly.specs.Products.{times_q_power}
use Rattle.cox_poly.specs.Multiples.{scaled}
use Rattle.cox_hecke.specs.Row.{IsKazhdanLusztig}
use Rattle.cox_context.specs.Numbers.{word_at}
use Rattle.cox_klstep.specs.declared.step.Correction.{Correction}

-- P gives P(x,u) for the number of each member u
abbrev pub GivesAt : IntegerMatrix → List (List ℕ) → List ℕ → (ℕ → Coefficients) → Type 0
GivesAt A members x P = (u : ℕ) → u < length members → IsKazhdanLusztig A x (word_at members u) (P u)

-- the sum of mu(u,v) q^((l(w)-l(u))/2) P(x,u) over the corrections u
abbrev pub numbered_sum : (ℕ → Coefficients) → List Correction → Coefficients
numbered_sum P [] = zero_polynomial
numbered_sum P (c ∷ list) = plus (scaled c.factor (times_q_power c.shift (P c.number))) (numbered_sum P list)
