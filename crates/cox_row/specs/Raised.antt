-- Raising an element by the descents of another: a letter that shortens w and not x makes x longer, and leaves P(x,w) as it is.
use Rattle.std.specs.Prelude.{ℕ, ◌<◌, List, [], ◌∷◌, ◌++◌, length, Option, None, Some}
use Rattle.cox_base.specs.IntegerMatrix.{IntegerMatrix}
use Rattle.cox_base.specs.ShortLex.{normal_form}
use Rattle.cox_base.specs.Descents.{IsLeftDescent, IsRightDescent}
use Rattle.cox_base.specs.Bruhat.{IsBelow}
use Rattle.cox_poly.specs.Coefficients.{Coefficients}
use Rattle.cox_hecke.specs.Row.{IsKazhdanLusztig}
use Rattle.cox_context.specs.Numbers.{word_at}
use Rattle.cox_context.specs.Numbering.{IsNumberOf}
use Rattle.cox_row.specs.Extremal.{IsExtremal}
use Rattle.cox_row.specs.declared.raised.Raise.{Raise}
use Rattle.cox_row.specs.declared.raised.Raise.TheVariants.{Done, To, Outside}

-- x with one letter more, which shortens w and not x
pub data IsRaised (A : IntegerMatrix) (w x : List ℕ) : List ℕ → Type 0 where
  on_left : (s : ℕ) → IsLeftDescent A w s → ¬ IsLeftDescent A x s → IsRaised A w x (s ∷ x)
  on_right : (s : ℕ) → IsRightDescent A w s → ¬ IsRightDescent A x s → IsRaised A w x (x ++ s ∷ [])

-- such an element, and its number among the members, where it is one
pub record IsRaisedTo (A : IntegerMatrix) (members : List (List ℕ)) (w x : List ℕ) (found : Option ℕ) : Type 0 where
  pub y : List ℕ
  pub raised : IsRaised A w x y
  pub number : IsNumberOf members (normal_form A y) found

-- where a shift leads
abbrev pub raise_to : Option ℕ → Raise
raise_to None = Outside
raise_to (Some k) = To k

-- where raising x by one letter leads: nowhere, since x is extremal; to a member; or outside the members
abbrev pub LeadsTo : IntegerMatrix → List (List ℕ) → List ℕ → List ℕ → Raise → Type 0
LeadsTo A members w x Done = IsExtremal A w x
LeadsTo A members w x (To k) = IsRaisedTo A members w x (Some k)
LeadsTo A members w x Outside = IsRaisedTo A members w x None

-- y stands for x: it is below w exactly where x is, and P(y,w) is P(x,w)
pub record StandsFor (A : IntegerMatrix) (w x y : List ℕ) : Type 0 where
  pub to : IsBelow A x w → IsBelow A y w
  pub from : IsBelow A y w → IsBelow A x w
  pub same : (f : Coefficients) → IsKazhdanLusztig A y w f → IsKazhdanLusztig A x w f

-- the member to which x is raised: an extremal element that stands for x; or x ≤ w fails
abbrev pub IsRaisedFully : IntegerMatrix → List (List ℕ) → List ℕ → List ℕ → Option ℕ → Type 0
IsRaisedFully A members w x None = ¬ IsBelow A x w
IsRaisedFully A members w x (Some k) = (k < length members) × IsExtremal A w (word_at members k) × StandsFor A w x (word_at members k)
