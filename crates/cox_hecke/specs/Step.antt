-- A step of the recursion for rows, by a letter on either side, and which elements correct it (Kazhdan and Lusztig 1979, 2.2.c;
-- Humphreys 7.11).
use Rattle.std.specs.Prelude.{◌≢◌, ℕ, List, ℤ, pos}
use Rattle.cox_base.specs.declared.side.Side.{Side}
use Rattle.cox_base.specs.IntegerMatrix.{IntegerMatrix}
use Rattle.cox_base.specs.SideDescents.{IsDescent}
use Rattle.cox_hecke.specs.Row.{IsMu}

-- A step from v by s is corrected by the u with su < u for which m = mu(u,v) is not 0.
abbrev pub IsCorrection : Side → IntegerMatrix → ℕ → List ℕ → List ℕ → ℤ → Type 0
IsCorrection side A s v u m = record { shortens : IsDescent side A u s; is_mu : IsMu A u v m; some : m ≢ pos 0 }
