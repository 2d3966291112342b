-- Two runs over one script.
use Rattle.std.specs.Prelude.{◌≡◌, ℕ, List, codes, Some}
use Rattle.cox_outside.specs.Supply.{Supply}
use Rattle.cox_outside.specs.Outlet.{Outlet, Writes}
use Rattle.cox_options.specs.Arguments.{given_number}
use Rattle.cox_shell.specs.declared.status.Status.{Status}
use Rattle.cox_shell.specs.declared.status.Status.TheVariants.{Done, Refused, Usage, ReadFault, WriteFault, NoMemory, InputLimit}
use Rattle.cox_shell.specs.WholeRun.{IsRun}

-- the script was answered whole
abbrev pub IsWhole : Status → Type 0
IsWhole Done = Unit {0}
IsWhole Refused = Unit {0}
IsWhole Usage = ⊥
IsWhole ReadFault = ⊥
IsWhole WriteFault = ⊥
IsWhole NoMemory = ⊥
IsWhole InputLimit = ⊥

-- arguments that give the same numbers to all options but `--workers`
pub record DifferInWorkersAtMost (one other : List (List ℕ)) : Type 0 where
  pub context : given_number (codes "context") one ≡ given_number (codes "context") other
  pub coef : given_number (codes "coef") one ≡ given_number (codes "coef") other
  pub roots : given_number (codes "roots") one ≡ given_number (codes "roots") other

-- two runs with such arguments over one script, both of which answered it whole, ended by the same status and wrote the same bytes
abbrev pub AnswersAlike : List (List ℕ) → List (List ℕ) → List ℕ → Type 0
AnswersAlike one other script = (status status' : Status) (source left source' left' : Supply) (old new old' new' : Outlet)
    → source.left ≡ Some script → source'.left ≡ Some script
    → IsRun status one source left old new → IsRun status' other source' left' old' new' → IsWhole status → IsWhole status'
    → (status ≡ status') × (text : List ℕ) × Writes text old new × Writes text old' new'
