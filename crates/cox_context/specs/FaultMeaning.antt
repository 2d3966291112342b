-- What a fault says of the members that a context was to have.
use Rattle.std.specs.Prelude.{◌≡◌, ℕ, ◌+◌, List}
use Rattle.cox_context.specs.declared.fault.ContextFault.{ContextFault}
use Rattle.cox_context.specs.declared.fault.ContextFault.TheVariants.{Size, Long, NoMemory}
use Rattle.cox_base.specs.SortedList.{HasMoreThan}
use Rattle.cox_context.specs.Refusal.{IsOver, IsLong}

-- what a fault says of the members with a property; out of memory says nothing
abbrev pub IsRefusal : (List ℕ → Type 0) → ℕ → ContextFault → Type 0
IsRefusal P limit (Size bound seen) = (bound ≡ limit) × (seen ≡ limit + 1) × IsOver P limit
IsRefusal P limit Long = IsLong P limit
IsRefusal P limit NoMemory = Unit {0}

-- what a fault of the appending says: more words than the limit have a property; out of memory says nothing
abbrev pub IsOverfull : (List ℕ → Type 0) → ℕ → ContextFault → Type 0
IsOverfull P limit (Size bound seen) = (bound ≡ limit) × (seen ≡ limit + 1) × HasMoreThan limit P
IsOverfull P limit Long = ⊥
IsOverfull P limit NoMemory = Unit {0}
