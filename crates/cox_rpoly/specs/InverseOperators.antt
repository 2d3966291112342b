-- Multiplication by q T(s)^-1 from the left in the Hecke algebra (Kazhdan and Lusztig 1979, section 1; Humphreys 7.1 to 7.4), as it acts on
-- coefficients. A combination h of the basis elements T(x) gives a polynomial h(x) to each element x, which is given by its words.
use Rattle.std.specs.Prelude.{ℕ, Bool, ◌==◌, if◌then◌else◌, nat_lt, List, [], ◌∷◌}
use Rattle.cox_base.specs.IntegerMatrix.{IntegerMatrix}
use Rattle.cox_base.specs.Length.{word_length}
use Rattle.cox_poly.specs.Coefficients.{Coefficients, zero_polynomial, one_polynomial, times_q, times_q_less_one}
use Rattle.cox_poly.specs.Multiples.{minus}

-- whether sx < x
abbrev pub shortens_left : IntegerMatrix → ℕ → List ℕ → Bool
shortens_left A s x = nat_lt (word_length A (s ∷ x)) (word_length A x)

-- q T(s)^-1 h, which is T(s) h - (q-1) h. Since T(s) T(x) = T(sx) where sx > x, else (q-1) T(x) + q T(sx), the coefficient of T(x) in
-- T(s) h is h(sx) + (q-1) h(x) where sx < x, else q h(sx).
abbrev pub left_inverse : IntegerMatrix → ℕ → (List ℕ → Coefficients) → List ℕ → Coefficients
left_inverse A s h x = if shortens_left A s x then h (s ∷ x) else minus (times_q (h (s ∷ x))) (times_q_less_one (h x))

-- q^k T(s1)^-1 T(s2)^-1 .. T(sk)^-1 h, for the word s1 s2 .. sk
abbrev pub left_inverse_word : IntegerMatrix → List ℕ → (List ℕ → Coefficients) → List ℕ → Coefficients
left_inverse_word A [] h = h
left_inverse_word A (s ∷ u) h = left_inverse A s (left_inverse_word A u h)

-- T(e), which is 1
abbrev pub unit : IntegerMatrix → List ℕ → Coefficients
unit A x = if word_length A x == 0 then one_polynomial else zero_polynomial
