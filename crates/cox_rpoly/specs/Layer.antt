-- For code: layers of elements, their values, and the links of one to the next. Elements are values
-- of some type X, and `of A u x` says that x is the element of the word u.
use Rattle.std.specs.Prelude.{◌≡◌, ℕ, ◌+◌, ◌<◌, ◌≤◌, ◌⊎◌, Some, None, List, [], ◌∷◌, ◌++◌, length, slice_index_or, Contains, ℤ}
use Rattle.cox_base.specs.IntegerMatrix.{IntegerMatrix}
use Rattle.cox_base.specs.Length.{word_length}
use Rattle.cox_base.specs.Descents.{IsLeftDescent}
use Rattle.cox_base.specs.Bruhat.{IsBelow}
use Rattle.cox_poly.specs.Polynomial.{coefficient}
use Rattle.cox_rpoly.specs.declared.TheConstants.{MAX_DIFFERENCE}
use Rattle.cox_rpoly.specs.declared.terms.Link.{Link}
use Rattle.cox_rpoly.specs.declared.terms.Link.TheVariants.{Shorter, Longer}
use Rattle.cox_rpoly.specs.Recursion.{r_along}
use Rattle.cox_rpoly.specs.ElementValues.{Naming}
use Rattle.cox_rpoly.specs.Terms.{numbered}

-- an element below v, whose length is not too far from that of v
pub record IsInLayer {X : Type 0} (of : Naming X) (A : IntegerMatrix) (v : List ℕ) (x : X) : Type 0 where
  pub word : List ℕ
  pub of_word : of A word x
  pub below : IsBelow A word v
  pub near : length v ≤ word_length A word + MAX_DIFFERENCE

-- some element below v is not there
pub record IsLackedBy {X : Type 0} (of : Naming X) (A : IntegerMatrix) (v : List ℕ) (layer : List X) : Type 0 where
  pub element : X
  pub member : IsInLayer of A v element
  pub lacks : Contains layer element → ⊥

-- p has the coefficients of R(x,v)
pub record IsValue {X : Type 0} (of : Naming X) (A : IntegerMatrix) (v : List ℕ) (x : X) (p : List ℤ) : Type 0 where
  pub at : (u : List ℕ) → of A u x → (k : ℕ) → coefficient p k ≡ r_along A u v k

-- one value an element
pub record AreLayerValues {X : Type 0} (of : Naming X) (A : IntegerMatrix) (v : List ℕ) (layer : List X)
    (values : List (List ℤ)) : Type 0 where
  pub count : length values ≡ length layer
  pub each : (i : ℕ) (x : X) → i < length layer → IsValue of A v (slice_index_or layer i x) (numbered values i)

-- x has the number i
pub record IsAt {X : Type 0} (layer : List X) (i : ℕ) (x : X) : Type 0 where
  pub within : i < length layer
  pub is : (d : X) → slice_index_or layer i d ≡ x

-- x was there, or is the last now
abbrev pub HasGained : {X : Type 0} → List X → X → List X → Type 0
HasGained old x new = (new ≡ old) ⊎ (new ≡ old ++ x ∷ [])

-- those that were there have their numbers still
pub record Extends {X : Type 0} (old new : List X) : Type 0 where
  pub kept : (i : ℕ) (x : X) → IsAt old i x → IsAt new i x

-- s x has the number i
pub record IsTimesAt {X : Type 0} (of : Naming X) (A : IntegerMatrix) (s : ℕ) (x : X) (next : List X) (i : ℕ) : Type 0 where
  pub moved : X
  pub moves : (u : List ℕ) → of A u x → of A (s ∷ u) moved
  pub at : IsAt next i moved

-- s shortens x
pub record IsShorterLink {X : Type 0} (of : Naming X) (A : IntegerMatrix) (s : ℕ) (x : X) (next : List X) (i : ℕ) : Type 0 where
  pub descent : (u : List ℕ) → of A u x → IsLeftDescent A u s
  pub times : IsTimesAt of A s x next i

-- it doesn't, and x has the number i
pub record IsLongerLink {X : Type 0} (of : Naming X) (A : IntegerMatrix) (s : ℕ) (x : X) (next : List X) (i : ℕ) : Type 0 where
  pub ascent : (u : List ℕ) → of A u x → ¬ IsLeftDescent A u s
  pub at : IsAt next i x

-- what a link says of x: with s and v, the letters that are left
abbrev pub IsLink : {X : Type 0} → Naming X → IntegerMatrix → ℕ → List ℕ → X → List X → Link → Type 0
IsLink of A s v x next (Shorter i) = IsShorterLink of A s x next i
IsLink of A s v x next (Longer i None) = IsLongerLink of A s x next i × ((u : List ℕ) → of A u x → ¬ IsBelow A (s ∷ u) v)
IsLink of A s v x next (Longer i (Some j)) = IsLongerLink of A s x next i × IsTimesAt of A s x next j

-- one link an element
pub record AreLinks {X : Type 0} (of : Naming X) (A : IntegerMatrix) (s : ℕ) (v : List ℕ) (layer next : List X)
    (links : List Link) : Type 0 where
  pub count : length links ≡ length layer
  pub each : (i : ℕ) (x : X) (l : Link) → i < length layer → IsLink of A s v (slice_index_or layer i x) next (slice_index_or links i l)
