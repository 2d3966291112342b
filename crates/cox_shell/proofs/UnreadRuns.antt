-- The contract of a whole run that reads nothing: memory ran out before, or the arguments give no options.
use Rattle.std.proofs.Common.{◌≡◌, inl, inr, ◌<◌, ◌≤◌, ◌+◌, ℕ, true, false, List, [], length, Option}
use Rattle.std.proofs.Common.{refl, sym, ◌∙◌, arith}
use Rattle.std.specs.Prelude.{IfSome}
use Rattle.std.specs.Io.KnownBytes.{prepend_known}
use Rattle.std.proofs.lemmas.List.{append-nil}
use Rattle.cox_outside.specs.declared.limits.TheConstants.{INPUT_LIMIT}
use Rattle.cox_outside.specs.Supply.{Supply, SourceCause}
use Rattle.cox_outside.specs.Outlet.{Outlet, Writes, IsPrefix, SinkCause}
use Rattle.cox_outside.proofs.Known.{prepend_known-none}
use Rattle.cox_options.specs.Arguments.{IsTaken, IsUsage}
use Rattle.cox_shell.specs.declared.status.Status.{Status}
use Rattle.cox_shell.specs.declared.status.Status.TheVariants.{Usage, WriteFault, NoMemory}
use Rattle.cox_shell.specs.Top.{usage_line, given_limits}
use Rattle.cox_shell.specs.Reading.{IsReadBy}
use Rattle.cox_shell.specs.WholeRun.{IsRun}
use Rattle.cox_shell.proofs.DueByRun.{WritesDue-none, IsDue-usage, StopsReading-none}

-- arguments are not both taken and wrong
pub not-taken_and_wrong : (arguments : List (List ℕ)) → IsTaken arguments → IsUsage arguments → ⊥
not-taken_and_wrong arguments right wrong = let bad : false ≡ true = sym right ∙ wrong in cc

no_fault : (supply : Supply) → SourceCause supply supply false
no_fault supply = record { faults = refl; same_sure = refl; unsure = λ e. absurd (cc e) }

-- nothing was read
takes-none : (script : Option (List ℕ)) → (given : List ℕ) × (script ≡ prepend_known given script) × (length given ≤ INPUT_LIMIT + 1)
takes-none script = ([], sym (prepend_known-none script), omega arith)

-- ---- memory ran out before anything was read

pub run-none : (arguments : List (List ℕ)) (supply : Supply) (outlet : Outlet) → IsRun NoMemory arguments supply supply outlet outlet
run-none arguments supply outlet = record {
  done = λ e. absurd (cc e);
  refused = λ e. absurd (cc e);
  given = λ e. absurd (cc e);
  limit = λ e. absurd (cc e);
  usage = λ e. absurd (cc e);
  usage_always = λ wrong. inr (inr refl);
  lost = false;
  read_fault = no_fault supply;
  fault_lost = λ e. absurd (cc e);
  lost_told = λ e. absurd (cc e);
  write_fault = refl;
  prefix = WritesDue-none arguments supply.left outlet;
}

pub read-none : (arguments : List (List ℕ)) (supply : Supply) → IsReadBy NoMemory arguments supply supply
read-none arguments supply = record {
  stops = λ which taken. inl (StopsReading-none (given_limits arguments) supply.left);
  within = takes-none supply.left;
}

-- ---- the usage line

module _ (arguments : List (List ℕ)) (supply : Supply) (old new : Outlet) (wrong : IsUsage arguments) where
  pub run-usage : Writes usage_line old new → SinkCause old new false → IsRun Usage arguments supply supply old new
  run-usage writes cause = record {
    done = λ e. absurd (cc e);
    refused = λ e. absurd (cc e);
    given = λ e. absurd (cc e);
    limit = λ e. absurd (cc e);
    usage = λ e. (wrong, writes);
    usage_always = λ wrong. inl refl;
    lost = false;
    read_fault = no_fault supply;
    fault_lost = λ e. absurd (cc e);
    lost_told = λ e. absurd (cc e);
    write_fault = cause;
    prefix = (
      usage_line,
      IsDue-usage false arguments supply.left supply.left wrong,
      usage_line,
      ([], sym (append-nil usage_line)),
      writes,
      λ e. absurd (cc e),
    );
  }

  pub run-usage_cut_off : (written : List ℕ) → IsPrefix written usage_line → Writes written old new
      → IfSome old.room (λ count. count < length usage_line) → SinkCause old new true → IsRun WriteFault arguments supply supply old new
  run-usage_cut_off written prefix writes full cause = record {
    done = λ e. absurd (cc e);
    refused = λ e. absurd (cc e);
    given = λ e. absurd (cc e);
    limit = λ e. absurd (cc e);
    usage = λ e. absurd (cc e);
    usage_always = λ wrong. inr (inl refl);
    lost = false;
    read_fault = no_fault supply;
    fault_lost = λ e. absurd (cc e);
    lost_told = λ e. absurd (cc e);
    write_fault = cause;
    prefix = (usage_line, IsDue-usage false arguments supply.left supply.left wrong, written, prefix, writes, λ e. full);
  }

-- nothing is read then
pub read-usage : (status : Status) (arguments : List (List ℕ)) (supply : Supply) → IsUsage arguments
    → IsReadBy status arguments supply supply
read-usage status arguments supply wrong = record {
  stops = λ cut taken. absurd (not-taken_and_wrong arguments taken wrong);
  within = takes-none supply.left;
}
