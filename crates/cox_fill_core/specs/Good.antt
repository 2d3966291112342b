-- What every core state keeps that events from the opening lead to.
use Rattle.std.specs.Prelude.{◌≡◌, ℕ, true, List, Contains}
use Rattle.cox_fill_core.specs.declared.event.RowState.{RowState}
use Rattle.cox_fill_core.specs.Fill.{Fill}

pub record IsGood (needs : ℕ → List ℕ) (c : Fill) : Type 0 where
  -- a Claimed row is held by somebody
  pub claimed : (i : ℕ) → c.state i ≡ RowState.Claimed → (a : ℕ) × (c.holds a i ≡ true)
  -- a row that somebody holds is Claimed
  pub held : (a i : ℕ) → c.holds a i ≡ true → c.state i ≡ RowState.Claimed
  -- no two actors hold one row
  pub one : (a b i : ℕ) → c.holds a i ≡ true → c.holds b i ≡ true → a ≡ b
  -- a row that somebody has seen Published is Published
  pub seen : (a i : ℕ) → c.seen a i ≡ true → c.state i ≡ RowState.Published
  -- each row that a Published row needs is Published
  pub needed : (i j : ℕ) → c.state i ≡ RowState.Published → Contains (needs i) j → c.state j ≡ RowState.Published
