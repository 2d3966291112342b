-- The terms of a polynomial as they are written one after the other.
use Rattle.std.specs.Prelude.{ℕ, Bool, if◌then◌else◌, List, ℤ}
use Rattle.cox_poly.specs.PolynomialText.{term_text, next_term_text}

-- a term, the first or one after it
abbrev pub listed_term_text : Bool → ℕ × ℤ → List ℕ
listed_term_text first t = if first then term_text t else next_term_text t
