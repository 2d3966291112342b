-- The calls of a memory form: which of them have to fail, and what was made of them.
use Rattle.std.specs.Prelude.{ℕ, ◌+◌, ◌-◌, ◌^◌, min, Bool, ◌==◌, List, length}
use Rattle.std.specs.List.{list_any}
use Rattle.cox_outside.specs.FaultCount.{count_after}

-- the numbers of the calls that have to fail, counted from 1, and how many calls were made and how many have failed
pub record Calls : Type 0 where
  pub fails : List ℕ
  pub made : ℕ
  pub failed : ℕ

-- no call was made yet
abbrev pub no_calls : List ℕ → Calls
no_calls fails = record { fails = fails; made = 0; failed = 0 }

-- no call has to fail
abbrev pub none_fails : Calls → Bool
none_fails calls = length calls.fails == 0

-- The number of the next call. It stops at a value that no list of `u64` holds.
abbrev pub next_call : Calls → ℕ
next_call calls = min (calls.made + 1) (2 ^ 128 - 1)

-- whether the next call has to fail
abbrev pub next_fails : Calls → Bool
next_fails calls = list_any (λ number. number == next_call calls) calls.fails

-- the calls after one more, which failed or did not
abbrev pub after_call : Bool → Calls → Calls
after_call failed calls = record {
  fails = calls.fails;
  made = next_call calls;
  failed = count_after failed calls.failed;
}
