-- What a command asks: which refusals have a cause, and which texts are right where none has.
use Rattle.std.specs.Prelude.{◌≡◌, ◌⊎◌, ℕ, List, [], ◌∷◌, Option, None, Some}
use Rattle.cox_command.specs.declared.refusal.Refusal.{Refusal}
use Rattle.cox_command.specs.declared.refusal.Refusal.TheVariants.{ManyRoots, LargeInterval, FarApart, LargeRow}

-- a command on elements, or on the whole group, as what it asks
pub record Question : Type 1 where
  -- this refusal has a cause
  pub Refuses : Refusal → Type 0
  -- this text is right; the end of its last line is not part of it
  pub IsText : List ℕ → Type 0

-- the question with these refusals and these right texts
abbrev pub asks : (Refusal → Type 0) → (List ℕ → Type 0) → Question
asks Refuses IsText = record { Refuses = Refuses; IsText = IsText }

-- the order in which the refusals by the group and by elements are tried
abbrev pub command_refusals : List Refusal
command_refusals = ManyRoots ∷ LargeInterval ∷ FarApart ∷ LargeRow ∷ []

-- the refusals with these causes: a large interval or group, elements that are far apart, a large row
abbrev pub RefusesIf : Type 0 → Type 0 → Type 0 → Refusal → Type 0
RefusesIf large far row LargeInterval = large
RefusesIf large far row FarApart = far
RefusesIf large far row LargeRow = row
RefusesIf large far row _ = ⊥

-- the first of these refusals that has a cause, if one has
abbrev pub IsFirstRefusal : (Refusal → Type 0) → List Refusal → Option Refusal → Type 0
IsFirstRefusal Refuses [] found = found ≡ None
IsFirstRefusal Refuses (why ∷ later) found = (Refuses why × (found ≡ Some why)) ⊎ ((Refuses why → ⊥) × IsFirstRefusal Refuses later found)

-- the refusal of a command, if it is refused
abbrev pub IsRefused : (Refusal → Type 0) → Option Refusal → Type 0
IsRefused Refuses found = IsFirstRefusal Refuses command_refusals found
