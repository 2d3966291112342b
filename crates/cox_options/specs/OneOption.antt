-- Words of the laws on one option.
use Rattle.std.specs.Prelude.{◌≤◌, ℕ, ◌++◌, codes}
use Rattle.clap.specs.Words.{Text}
use Rattle.cox_options.specs.Command.{NumberOption}

-- the argument `--NAME`
abbrev pub named : NumberOption → Text
named option = codes "--" ++ option.name

-- the argument `--NAME=TEXT`
abbrev pub joined_argument : NumberOption → Text → Text
joined_argument option text = named option ++ codes "=" ++ text

-- a number of the option's range
abbrev pub IsInRange : NumberOption → ℕ → Type 0
IsInRange option n = (1 ≤ n) × (n ≤ option.most)
