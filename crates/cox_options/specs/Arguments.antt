-- Which arguments give options, and which options. Arguments begin with the program's name.
use Rattle.std.specs.Prelude.{◌≡◌, ℕ, Bool, true, false, not, List, Option, option_map}
use Rattle.std.specs.Str.Parse.{digits_value, without_leading_plus}
use Rattle.clap.specs.Words.{Text, fault_of, matches_of, one_of}
use Rattle.clap.specs.Walk.{is_empty}
use Rattle.cox_options.specs.Command.{coxeter_app}

-- a step of the arguments' parse fails, for another cause than memory
abbrev pub is_refused : List Text → Bool
is_refused arguments = not (is_empty (fault_of coxeter_app arguments))

-- the arguments give options
abbrev pub IsTaken : List Text → Type 0
IsTaken arguments = is_refused arguments ≡ false

-- the arguments give none
abbrev pub IsUsage : List Text → Type 0
IsUsage arguments = is_refused arguments ≡ true

-- the number that decimal digits write, where a plus may stand first
abbrev pub decimal_value : Text → ℕ
decimal_value text = digits_value 10 (without_leading_plus text)

-- the number that the arguments give to the option `--name`: its default, where they do not name it
abbrev pub given_number : Text → List Text → Option ℕ
given_number name arguments = option_map decimal_value (one_of name (matches_of coxeter_app arguments))
