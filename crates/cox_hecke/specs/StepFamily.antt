-- The right side of the recursion for rows (Kazhdan and Lusztig 1979, 2.2.c; Humphreys 7.11), for a descent of w on either side.
use Rattle.std.specs.Prelude.{◌≡◌, ℕ, ◌-◌, ◌/◌, Bool, nat_lt, if◌then◌else◌, List, [], ◌∷◌, map, All, ℤ}
use Rattle.cox_base.specs.declared.side.Side.{Side}
use Rattle.cox_base.specs.IntegerMatrix.{IntegerMatrix}
use Rattle.cox_base.specs.Length.{word_length}
use Rattle.cox_poly.specs.Coefficients.{zero_polynomial, plus, times_q}
use Rattle.cox_poly.specs.Products.{times_q_power}
use Rattle.cox_poly.specs.Multiples.{minus, scaled}
use Rattle.cox_hecke.specs.Family.{Family}
use Rattle.cox_hecke.specs.Row.{IsRow}
use Rattle.cox_hecke.specs.ListedElements.{occurrences}
use Rattle.cox_base.specs.SideDescents.{times_letter}
use Rattle.cox_hecke.specs.Step.{IsCorrection}

-- whether s shortens x on the side
abbrev pub shortens : Side → IntegerMatrix → ℕ → List ℕ → Bool
shortens side A s x = nat_lt (word_length A (times_letter side s x)) (word_length A x)

-- (1 + T(s)) p or p (1 + T(s)): on the left, at x, p(sx) + q p(x) where sx < x, else q p(sx) + p(x)
abbrev pub step : Side → IntegerMatrix → ℕ → Family → Family
step side A s p x =
    if shortens side A s x then plus (p (times_letter side s x)) (times_q (p x)) else plus (times_q (p (times_letter side s x))) (p x)

-- u with its mu(u,v)
pub record Correction : Type 0 where
  pub element : List ℕ
  pub mu : ℤ

abbrev pub corrected_elements : List Correction → List (List ℕ)
corrected_elements list = map (λ c. c.element) list

-- the list has each of them once
pub record AreCorrections (side : Side) (A : IntegerMatrix) (s : ℕ) (v : List ℕ) (list : List Correction) : Type 0 where
  pub each : All (λ c. IsCorrection side A s v c.element c.mu) list
  pub once : (u : List ℕ) (m : ℤ) → IsCorrection side A s v u m → occurrences A u (corrected_elements list) ≡ 1

-- the sum of mu(u,v) q^((l(w)-l(u))/2) P(x,u) over the corrections u; `rows u` is the row of u
abbrev pub correction_sum : IntegerMatrix → List ℕ → (List ℕ → Family) → List Correction → Family
correction_sum A w rows [] x = zero_polynomial
correction_sum A w rows (c ∷ list) x =
    plus (scaled c.mu (times_q_power ((word_length A w - word_length A c.element) / 2) (rows c.element x))) (correction_sum A w rows list x)

-- f is the step family of w by its descent s: (1 + T(s)) times the row of v = sw, without its corrections; and the same on the right
pub record IsStepFamily (side : Side) (A : IntegerMatrix) (s : ℕ) (w : List ℕ) (f : Family) : Type 0 where
  pub row : Family
  pub is_row : IsRow A (times_letter side s w) row
  pub list : List Correction
  pub corrections : AreCorrections side A s (times_letter side s w) list
  pub rows : List ℕ → Family
  pub are_rows : All (λ c. IsRow A c.element (rows c.element)) list
  pub value : (x : List ℕ) (k : ℕ) → f x k ≡ minus (step side A s row x) (correction_sum A w rows list x) k
