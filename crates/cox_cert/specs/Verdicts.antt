-- For code: the status that is due, and what is written of it.
use Rattle.std.specs.Prelude.{◌≡◌, ◌≢◌, ◌<◌, ℕ, List, [], length, Option, IfSome}
use Rattle.cox_outside.specs.Outlet.{Outlet, Writes, SinkCause, IsPrefix}
use Rattle.cox_cert.specs.declared.status.CheckStatus.{CheckStatus}
use Rattle.cox_cert.specs.declared.status.CheckStatus.TheVariants.{Usage, WriteFault}
use Rattle.cox_cert.specs.Checks.{Says, status_text, is_check_write_fault}

-- it does not tell that a write failed
abbrev pub IsTold : CheckStatus → Type 0
IsTold status = status ≢ WriteFault

-- how the check of a text ends, where no words follow the program's name
pub record IsVerdict (status : CheckStatus) (text left : Option (List ℕ)) : Type 0 where
  pub says : Says status text left
  pub no_usage : status ≢ Usage
  pub told : IsTold status

-- a prefix of a text was written, which is not empty, and there was no room for all of it
pub record IsCut (text : List ℕ) (old new : Outlet) : Type 0 where
  pub some : text ≢ []
  pub prefix : List ℕ
  pub is_prefix : IsPrefix prefix text
  pub writes : Writes prefix old new
  pub room : IfSome old.room (λ count. count < length text)

-- the text of the status that is due was written, or a write failed
pub record Tells (status due : CheckStatus) (old new : Outlet) : Type 0 where
  pub same : status ≢ WriteFault → status ≡ due
  pub writes : status ≢ WriteFault → Writes (status_text due) old new
  pub cut : status ≡ WriteFault → IsCut (status_text due) old new
  pub cause : SinkCause old new (is_check_write_fault status)
