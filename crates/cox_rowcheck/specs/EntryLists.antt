-- For code: polynomials one behind another in one list of coefficients; for each of them another list has where it stands.
use Rattle.std.specs.Prelude.{◌≡◌, ℕ, ◌-◌, ◌≤◌, List, [], ◌∷◌, ◌++◌, map, take, drop, ℤ}
use Rattle.cox_poly.specs.Coefficients.{Coefficients}
use Rattle.cox_poly.specs.Polynomial.{coefficient}
use Rattle.cox_rowcheck.specs.declared.entries.Span.{Span}

-- the polynomial that stands there
abbrev pub piece : List ℤ → Span → List ℤ
piece coefficients span = take (span.end - span.start) (drop span.start coefficients)

-- all of them
abbrev pub pieces : List ℤ → List Span → List (List ℤ)
pieces coefficients spans = map (piece coefficients) spans

-- it ends within so many coefficients
pub record IsSpan (size : ℕ) (span : Span) : Type 0 where
  pub order : span.start ≤ span.end
  pub within : span.end ≤ size

-- one polynomial more, which is f
pub record HasOneMore (old new : List (List ℤ)) (f : Coefficients) : Type 0 where
  pub entry : List ℤ
  pub list : new ≡ old ++ entry ∷ []
  pub value : (k : ℕ) → coefficient entry k ≡ f k

-- the coefficients of f behind the others
pub record HasAppended (old new : List ℤ) (f : Coefficients) : Type 0 where
  pub part : List ℤ
  pub list : new ≡ old ++ part
  pub value : (k : ℕ) → coefficient part k ≡ f k
