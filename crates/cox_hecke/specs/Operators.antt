-- The operators of the Hecke algebra: multiplication by T(s) from the left and from the right (Kazhdan and Lusztig 1979, section 1;
-- Humphreys 7.1 to 7.4), as they act on coefficients. Multiplication by q T(s)^-1 from the left is in `cox_rpoly`.
use Rattle.std.specs.Prelude.{ℕ, Bool, if◌then◌else◌, nat_lt, List, [], ◌∷◌, ◌++◌}
use Rattle.cox_base.specs.IntegerMatrix.{IntegerMatrix}
use Rattle.cox_base.specs.Length.{word_length}
use Rattle.cox_poly.specs.Coefficients.{plus, times_q, times_q_less_one, zero_polynomial, one_polynomial}
use Rattle.cox_poly.specs.Multiples.{minus}
use Rattle.cox_rpoly.specs.InverseOperators.{shortens_left}
use Rattle.cox_hecke.specs.Family.{Family}
use Rattle.cox_hecke.specs.ListedElements.{is_same}

-- whether xs < x
abbrev pub shortens_right : IntegerMatrix → ℕ → List ℕ → Bool
shortens_right A s x = nat_lt (word_length A (x ++ s ∷ [])) (word_length A x)

-- T(s) h. Since T(s) T(x) = T(sx) where sx > x, else (q-1) T(x) + q T(sx), the coefficient of T(x) is h(sx) + (q-1) h(x) where sx < x,
-- else q h(sx).
abbrev pub left : IntegerMatrix → ℕ → Family → Family
left A s h x = if shortens_left A s x then plus (h (s ∷ x)) (times_q_less_one (h x)) else times_q (h (s ∷ x))

-- h T(s)
abbrev pub right : IntegerMatrix → ℕ → Family → Family
right A s h x = if shortens_right A s x then plus (h (x ++ s ∷ [])) (times_q_less_one (h x)) else times_q (h (x ++ s ∷ []))

-- h q T(s)^-1
abbrev pub right_inverse : IntegerMatrix → ℕ → Family → Family
right_inverse A s h x = if shortens_right A s x then h (x ++ s ∷ []) else minus (times_q (h (x ++ s ∷ []))) (times_q_less_one (h x))

-- T(s1) T(s2) .. T(sk) h, for the word s1 s2 .. sk
abbrev pub left_word : IntegerMatrix → List ℕ → Family → Family
left_word A [] h = h
left_word A (s ∷ u) h = left A s (left_word A u h)

-- h T(s1) T(s2) .. T(sk)
abbrev pub right_word : IntegerMatrix → List ℕ → Family → Family
right_word A [] h = h
right_word A (s ∷ u) h = right_word A u (right A s h)

-- T(w)
abbrev pub basis : IntegerMatrix → List ℕ → Family
basis A w x = if is_same A w x then one_polynomial else zero_polynomial
