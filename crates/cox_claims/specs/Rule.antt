-- The rule of the table: what holds of its words and of all views between any two steps.
use Rattle.std.specs.Prelude.{◌≡◌, ◌≢◌, ℕ, ◌+◌, ◌<◌, true, ◌==◌, if◌then◌else◌, List, [], ◌∷◌, length, slice_index, slice_index_or, sum_by}
use Rattle.atomic_table.specs.Table.{State}
use Rattle.cox_fill_core.specs.declared.event.RowState.{RowState}
use Rattle.cox_claims.specs.declared.view.View.{View}
use Rattle.cox_claims.specs.Knowledge.{holds, caused, IsKnown, nothing}

-- the state that a row's word says: 0 Free, 1 Claimed, 2 Published, 3 Void
abbrev pub state_of : ℕ → RowState
state_of n = if n == 0 then RowState.Free else (if n == 1 then RowState.Claimed else (if n == 2 then RowState.Published else RowState.Void))

-- of the state of each row and the view of each seat
pub record IsKept (state : ℕ → RowState) (view : ℕ → View) : Type 0 where
  -- a row that is not Free came to its state by what some seat did
  pub cause : (i : ℕ) → state i ≢ RowState.Free → (a : ℕ) × (caused (view a) i (state i) ≡ true)
  -- no two seats hold one row
  pub one : (a b i : ℕ) → holds (view a) i ≡ true → holds (view b) i ≡ true → a ≡ b
  -- a row that a seat holds is Claimed; one that it has seen Published or Void, or ended so, is so; one that it has seen Claimed
  -- is not Free
  pub known : (a i : ℕ) → IsKnown (view a) i (state i)
  -- the view of a seat that met another is empty
  pub spent : (a : ℕ) → (view a).spent ≡ true → view a ≡ nothing

-- the state of each row, by its word
abbrev pub state_at : List ℕ → ℕ → RowState
state_at words i = state_of (slice_index words i)

-- the view of each seat; past the last there is nothing
abbrev pub view_at : List View → ℕ → View
view_at views a = slice_index_or views a nothing

-- how many of these numbers are d
abbrev pub how_many : ℕ → List ℕ → ℕ
how_many d xs = sum_by (λ x. if x == d then 1 else 0) xs

-- the generations of the seats that a view stands for: of its own seat, unless that met another, and of those that it met
abbrev pub seats_in : View → List ℕ
seats_in v = if v.spent then [] else v.generation ∷ v.met

-- how many seats of generation d a view stands for, and how many of generation d were split from these
abbrev pub seats_of : ℕ → View → ℕ
seats_of d v = how_many d (seats_in v)

abbrev pub children_of : ℕ → View → ℕ
children_of d v = how_many d v.children

-- each seat that was split came from a seat of the generation before, which the view stands for
pub record HasParents (v : View) : Type 0 where
  pub parent : (d : ℕ) → 0 < children_of d v → (p : ℕ) × (d ≡ p + 1) × (0 < seats_of p v)

-- each seat but the first was split from another, which its view tells or that of a seat that it met: there is one seat more than there
-- were splits, the first seat alone is of generation 0, and of each other generation there are as many as were split
pub record ComeBySplits (views : List View) : Type 0 where
  pub count : length views ≡ sum_by (λ v. length v.children) views + 1
  pub generations : (d : ℕ) → sum_by (seats_of d) views ≡ sum_by (children_of d) views + how_many d (0 ∷ [])
  pub parents : (a : ℕ) → HasParents (view_at views a)

-- a table of this many rows: each word is one of the four, and the states and views fit one another
pub record KeepsRule (rows : ℕ) (s : State (Unit {0}) View) : Type 0 where
  pub count : length s.words ≡ rows
  pub words : (i : ℕ) → slice_index s.words i < 4
  pub kept : IsKept (state_at s.words) (view_at s.views)
  pub seats : ComeBySplits s.views
