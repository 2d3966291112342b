-- What is known of a source.
use Rattle.std.specs.Prelude.{◌≡◌, ℕ, Bool, true, false, List, Option}
use Rattle.cox_outside.specs.FaultCount.{count_after}

-- the bytes left, where the source tells them, the number of its faults, and whether it never fails
pub record Supply : Type 0 where
  pub left : Option (List ℕ)
  pub faults : ℕ
  pub sure : Bool

-- The count of faults rises by one exactly where a call tells of a fault, and only a source that is not sure has one. Being sure stays.
pub record SourceCause (old new : Supply) (told : Bool) : Type 0 where
  pub faults : new.faults ≡ count_after told old.faults
  pub same_sure : new.sure ≡ old.sure
  pub unsure : told ≡ true → old.sure ≡ false
