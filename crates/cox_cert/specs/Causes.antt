-- Why a text does not prove that its polynomials are the row of its element.
use Rattle.std.specs.Prelude.{◌≡◌, ℕ, ◌≤◌, List, length, All}
use Rattle.cox_base.specs.IntegerMatrix.{integer_matrix}
use Rattle.cox_base.specs.ShortLex.{normal_form}
use Rattle.cox_base.specs.Members.{IsInInterval}
use Rattle.cox_base.specs.SortedList.{IsListOf}
use Rattle.cox_rpoly.specs.declared.TheConstants.{MAX_DIFFERENCE}
use Rattle.cox_rowcheck.specs.ListedRows.{AreRow}
use Rattle.cox_rowcheck.specs.CheckablePolynomials.{IsCheckable}
use Rattle.cox_cert.specs.declared.status.Cause.{Cause}
use Rattle.cox_cert.specs.declared.status.Cause.TheVariants.{Grammar, Top, Interval, Size, Row}
use Rattle.cox_certtext.specs.Certificate.{Certificate, Gives, words_of_entries, polynomials_of_entries}

-- the element is given by its normal form, of at most MAX_DIFFERENCE letters
pub record HasTop (c : Certificate) : Type 0 where
  pub normal : normal_form (integer_matrix c.matrix) c.top ≡ c.top
  pub short : length c.top ≤ MAX_DIFFERENCE

-- the words are the elements below it, in ShortLex order
abbrev pub HasInterval : Certificate → Type 0
HasInterval c = IsListOf (IsInInterval (integer_matrix c.matrix) c.top) (words_of_entries c.entries)

-- no coefficient and no degree is too large
abbrev pub HasSmall : Certificate → Type 0
HasSmall c = All IsCheckable (polynomials_of_entries c.entries)

-- the polynomials are the row of the element
abbrev pub HasRow : Certificate → Type 0
HasRow c = AreRow (integer_matrix c.matrix) c.top (words_of_entries c.entries) (polynomials_of_entries c.entries)

-- the first cause that applies: the lines are no certificate's, or they are, and it fails here and not before
abbrev pub IsFirstCause : Cause → List (List ℕ) → Type 0
IsFirstCause Grammar lines = (c : Certificate) → ¬ Gives lines c
IsFirstCause Top lines = (c : Certificate) × Gives lines c × ¬ HasTop c
IsFirstCause Interval lines = (c : Certificate) × Gives lines c × HasTop c × ¬ HasInterval c
IsFirstCause Size lines = (c : Certificate) × Gives lines c × HasTop c × HasInterval c × ¬ HasSmall c
IsFirstCause Row lines = (c : Certificate) × Gives lines c × HasTop c × HasInterval c × HasSmall c × ¬ HasRow c

-- none applies: the lines prove that P(x,w) is the polynomial of each x, for the element w
pub record IsProof (lines : List (List ℕ)) : Type 0 where
  pub certificate : Certificate
  pub gives : Gives lines certificate
  pub top : HasTop certificate
  pub interval : HasInterval certificate
  pub small : HasSmall certificate
  pub row : HasRow certificate
