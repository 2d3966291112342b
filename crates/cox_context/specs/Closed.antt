-- What a context is, for proofs: what contracts see of it, and what holds of its members.
use Rattle.std.specs.Prelude.{◌≡◌, ℕ, ◌<◌, ◌≤◌, List, length, Contains}
use Rattle.cox_base.specs.Matrix.{CoxeterMatrix}
use Rattle.cox_base.specs.IntegerMatrix.{IntegerMatrix}
use Rattle.cox_base.specs.Bruhat.{IsBelow}
use Rattle.cox_base.specs.declared.limits.TheConstants.{MAX_LETTERS}
use Rattle.cox_context.specs.declared.members.TheConstants.{MAX_MEMBERS}
use Rattle.cox_base.specs.Members.{IsElement}
use Rattle.cox_context.specs.Numbers.{word_at}

-- what contracts see of a context: the Coxeter matrix of its group, and its members
pub record Elements : Type 0 where
  pub matrix : CoxeterMatrix
  pub members : List (List ℕ)

-- a list of distinct elements whose places rise in Bruhat order, closed downwards in it, not too many, of at most MAX_LETTERS letters each
pub record IsClosed (A : IntegerMatrix) (members : List (List ℕ)) : Type 0 where
  pub distinct : (i j : ℕ) → i < length members → j < length members → word_at members i ≡ word_at members j → i ≡ j
  pub upward : (i j : ℕ) → i < length members → j < length members → IsBelow A (word_at members i) (word_at members j) → i ≤ j
  pub element : (word : List ℕ) → Contains members word → IsElement A word
  pub down : (y w : List ℕ) → Contains members w → IsElement A y → IsBelow A y w → Contains members y
  pub short : (word : List ℕ) → Contains members word → length word ≤ MAX_LETTERS
  pub some : 1 ≤ length members
  pub few : length members ≤ MAX_MEMBERS
