-- The text of a polynomial in q, as ASCII codes.
use Rattle.std.specs.Prelude.{ℕ, pos, negsuc, ℤ, List, [], ◌∷◌, ◌++◌, filter, flat_map, codes, if◌then◌else◌, ◌==◌, not}
use Rattle.std.specs.Prelude.{int_lt}
use Rattle.std.specs.Ordering.{int_eq}
use Rattle.std.specs.List.{enumerate_from}
use Rattle.cox_poly.specs.Numerals.{number_text, integer_text}

-- the power of q at a degree: none at 0, `q` at 1, `q^k` above
abbrev pub power_text : ℕ → List ℕ
power_text k = if k == 0 then [] else (if k == 1 then codes "q" else codes "q^" ++ number_text k)

-- what stands before the power: the number c, but nothing for 1 and `-` for -1 where there is a power
abbrev pub factor_text : ℕ → ℤ → List ℕ
factor_text k c =
    if k == 0 then integer_text c
    else (if int_eq c (pos 1) then [] else (if int_eq c (negsuc 0) then codes "-" else integer_text c))

-- the term c q^k, of a degree k and its coefficient c
abbrev pub term_text : ℕ × ℤ → List ℕ
term_text t = factor_text t.0 t.1 ++ power_text t.0

-- `+` before a positive coefficient
abbrev pub plus_text : ℤ → List ℕ
plus_text c = if int_lt (pos 0) c then codes "+" else []

-- a term after the first
abbrev pub next_term_text : ℕ × ℤ → List ℕ
next_term_text t = plus_text t.1 ++ term_text t

-- the first term and the terms after it; `0` where there is none
abbrev pub terms_text : List (ℕ × ℤ) → List ℕ
terms_text [] = codes "0"
terms_text (t ∷ ts) = term_text t ++ flat_map next_term_text ts

-- the terms by rising degree, each a degree and its coefficient; zero coefficients are left out
abbrev pub terms : List ℤ → List (ℕ × ℤ)
terms p = filter (λ t. not (int_eq t.1 (pos 0))) (enumerate_from 0 p)

-- the text of a polynomial: `1+2q+q^2`, `-1+q`, `0`
abbrev pub polynomial_text : List ℤ → List ℕ
polynomial_text p = terms_text (terms p)
