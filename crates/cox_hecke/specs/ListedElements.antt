-- Lists that name elements by any of their words, and how often they name one.
use Rattle.std.specs.Prelude.{◌≡◌, ℕ, suc, Bool, nat_eq, if◌then◌else◌, List, [], ◌∷◌}
use Rattle.std.specs.Cmp.Lexicographic.{pointwise}
use Rattle.cox_base.specs.IntegerMatrix.{IntegerMatrix}
use Rattle.cox_base.specs.ShortLex.{normal_form}
use Rattle.cox_base.specs.Bruhat.{IsBelow}

-- whether x and y name one element
abbrev pub is_same : IntegerMatrix → List ℕ → List ℕ → Bool
is_same A x y = pointwise nat_eq (normal_form A x) (normal_form A y)

-- how many of the words name the element of x
abbrev pub occurrences : IntegerMatrix → List ℕ → List (List ℕ) → ℕ
occurrences A x [] = 0
occurrences A x (y ∷ words) = if is_same A x y then suc (occurrences A x words) else occurrences A x words

-- the words name the elements that have the property P, each once, and no others
pub record ListsEach (A : IntegerMatrix) (P : List ℕ → Type 0) (words : List (List ℕ)) : Type 0 where
  pub once : (x : List ℕ) → P x → occurrences A x words ≡ 1
  pub no_other : (x : List ℕ) → ¬ P x → occurrences A x words ≡ 0

-- x ≤ y ≤ w
pub record LiesBetween (A : IntegerMatrix) (x w y : List ℕ) : Type 0 where
  pub above : IsBelow A x y
  pub below : IsBelow A y w
