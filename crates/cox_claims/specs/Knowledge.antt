-- What a seat knows and did, as functions of rows, and how each step changes it.
use Rattle.std.specs.Prelude.{◌≡◌, ◌≢◌, ℕ, ◌+◌, Bool, true, false, ◌||◌, ◌==◌, if◌then◌else◌, List, [], ◌∷◌, ◌++◌, Some, None}
use Rattle.cox_fill_core.specs.declared.event.RowState.{RowState}
use Rattle.cox_fill_core.specs.Fill.{is_free}
use Rattle.cox_claims.specs.declared.view.View.{View}
use Rattle.cox_claims.specs.declared.table.Claimed.{Claimed}

-- whether row i is one of these
abbrev pub among : ℕ → List ℕ → Bool
among i [] = false
among i (x ∷ xs) = (x == i) || among i xs

-- these rows but for row i
abbrev pub without : ℕ → List ℕ → List ℕ
without i [] = []
without i (x ∷ xs) = if x == i then without i xs else x ∷ without i xs

-- ---- what a view knows of row i

abbrev pub holds : View → ℕ → Bool
holds v i = among i v.held

abbrev pub saw_published : View → ℕ → Bool
saw_published v i = among i v.published

abbrev pub saw_void : View → ℕ → Bool
saw_void v i = among i v.voids

abbrev pub saw_claimed : View → ℕ → Bool
saw_claimed v i = among i v.claimed

-- the seat voided row i itself
abbrev pub marked : View → ℕ → Bool
marked v i = among i v.marks

-- the seat, or one that it met, published row i, or voided it
abbrev pub has_published : View → ℕ → Bool
has_published v i = among i v.made

abbrev pub has_voided : View → ℕ → Bool
has_voided v i = among i v.given_up

-- row i came to the state x by what the seat did: it claimed the row and holds it, or it, or a seat that it met, ended the row
abbrev pub caused : View → ℕ → RowState → Bool
caused v i RowState.Free = false
caused v i RowState.Claimed = holds v i
caused v i RowState.Published = has_published v i
caused v i RowState.Void = has_voided v i

-- the state x of row i is not earlier than what the view knows: a row that it holds is Claimed, one that it has seen
-- Published or Void, or ended so, is so, and one that it has seen Claimed is not Free
pub record IsKnown (v : View) (i : ℕ) (x : RowState) : Type 0 where
  pub held : holds v i ≡ true → x ≡ RowState.Claimed
  pub published : saw_published v i ≡ true → x ≡ RowState.Published
  pub void : saw_void v i ≡ true → x ≡ RowState.Void
  pub claimed : saw_claimed v i ≡ true → x ≢ RowState.Free
  pub made : has_published v i ≡ true → x ≡ RowState.Published
  pub given_up : has_voided v i ≡ true → x ≡ RowState.Void

-- the views v and w tell of the same splits and meetings
pub record TellsSameSeats (v w : View) : Type 0 where
  pub generation : w.generation ≡ v.generation
  pub children : w.children ≡ v.children
  pub met : w.met ≡ v.met

-- all rows that v has seen Published, Void or Claimed w has seen so too
pub record SeesAll (v w : View) : Type 0 where
  pub published : (i : ℕ) → saw_published v i ≡ true → saw_published w i ≡ true
  pub void : (i : ℕ) → saw_void v i ≡ true → saw_void w i ≡ true
  pub claimed : (i : ℕ) → saw_claimed v i ≡ true → saw_claimed w i ≡ true

-- ---- views

-- the view of a seat that met another, or that was never made: it holds nothing, has seen nothing and did nothing
abbrev pub nothing : View
nothing = record {
  held = [];
  published = [];
  voids = [];
  claimed = [];
  marks = [];
  last = None;
  reads = 0;
  made = [];
  given_up = [];
  generation = 0;
  children = [];
  met = [];
  spent = true;
}

-- the view of the first seat at the start
abbrev pub newcomer : View
newcomer = record nothing { spent = false }

-- ---- how a step changes the view of its seat

-- the seat notes the state x of row i, if that is not Free
abbrev pub noted : View → ℕ → RowState → View
noted v i RowState.Free = v
noted v i RowState.Claimed = record v { claimed = i ∷ v.claimed }
noted v i RowState.Published = record v { published = i ∷ v.published }
noted v i RowState.Void = record v { voids = i ∷ v.voids }

-- the seat was told the state x of row i: it notes it, as its last read, and counts one read more
abbrev pub looked : View → ℕ → RowState → View
looked v i x = record (noted v i x) { last = Some (i, x); reads = v.reads + 1 }

-- the seat holds row i beside what it held
abbrev pub won : View → ℕ → View
won v i = record v { held = i ∷ v.held }

-- a claim on row i, whose state is x, is won where that is Free, and tells the state where it is not
abbrev pub claimed : View → ℕ → RowState → View
claimed v i x = if is_free x then won v i else looked v i x

-- the seat published row i: it no longer holds the row, and has seen it Published
abbrev pub published : View → ℕ → View
published v i = record v { held = without i v.held; published = i ∷ v.published; made = i ∷ v.made }

-- the seat voided row i: it no longer holds the row, has seen it Void, and marks it
abbrev pub voided : View → ℕ → View
voided v i = record v { held = without i v.held; voids = i ∷ v.voids; marks = i ∷ v.marks; given_up = i ∷ v.given_up }

-- one seat more was split from the seat, of the next generation
abbrev pub parted : View → View
parted v = record v { children = (v.generation + 1) ∷ v.children }

-- the view of a seat that was split from one with the view v: it is of the next generation and has seen the same, holds nothing, did
-- nothing, and has no mark and no read
abbrev pub told : View → View
told v = record newcomer { generation = v.generation + 1; published = v.published; voids = v.voids; claimed = v.claimed }

-- v, with all that w has seen and did, but for its marks and reads
abbrev pub joined : View → View → View
joined v w = record v {
  published = v.published ++ w.published;
  voids = v.voids ++ w.voids;
  claimed = v.claimed ++ w.claimed;
  made = v.made ++ w.made;
  given_up = v.given_up ++ w.given_up;
  children = v.children ++ w.children;
  met = v.met ++ (w.generation ∷ w.met);
}

-- ---- what a step tells its seat: the view was v and is w

-- a look at row i found the state x
pub record Looks (v : View) (i : ℕ) (x : RowState) (w : View) : Type 0 where
  pub known : IsKnown v i x
  pub after : w ≡ looked v i x
  pub held : w.held ≡ v.held
  pub kept : SeesAll v w

-- a claim won row i, which was Free
pub record Wins (v : View) (i : ℕ) (w : View) : Type 0 where
  pub known : IsKnown v i RowState.Free
  pub after : w ≡ won v i
  pub kept : SeesAll v w

-- a claim found row i in the state x, which is not Free
pub record Loses (v : View) (i : ℕ) (x : RowState) (w : View) : Type 0 where
  pub taken : x ≢ RowState.Free
  pub known : IsKnown v i x
  pub after : w ≡ looked v i x
  pub held : w.held ≡ v.held
  pub kept : SeesAll v w

-- a claim on row i answered
abbrev pub TriesClaim : View → ℕ → Claimed → View → Type 0
TriesClaim v i Claimed.Won w = Wins v i w
TriesClaim v i (Claimed.Lost x) w = Loses v i x w

-- row i, which the seat held, is Published
pub record Publishes (v : View) (i : ℕ) (w : View) : Type 0 where
  pub known : IsKnown v i RowState.Claimed
  pub after : w ≡ published v i
  pub kept : SeesAll v w

-- row i, which the seat held, is Void
pub record Voids (v : View) (i : ℕ) (w : View) : Type 0 where
  pub known : IsKnown v i RowState.Claimed
  pub after : w ≡ voided v i
  pub kept : SeesAll v w
