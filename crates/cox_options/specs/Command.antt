-- The command `coxeter`, by the definitions of `clap`.
use Rattle.std.specs.Prelude.{ℕ, List, true, [], ◌∷◌, Some, codes, map, fold}
use Rattle.cox_options.specs.declared.options.TheConstants.{MAX_CONTEXT, MAX_CONTEXT_TEXT, MAX_ROOTS, MAX_ROOTS_TEXT, MAX_COEF}
use Rattle.cox_options.specs.declared.options.TheConstants.{MAX_COEF_TEXT, MAX_WORKERS, DEFAULT_WORKERS_TEXT}
use Rattle.clap.specs.Words.{App, Rule, Text, new_app, new_rule, with_rule}
use Rattle.clap.specs.Simple.{on_top}
use Rattle.clap.specs.declared.builder.action.ArgAction.TheVariants.{Set}
use Rattle.clap.specs.declared.builder.value_parser.ValueParser.TheVariants.{Unsigned}

-- the option `--name` with one number from 1 to `most`, which is the one that `default` writes where none is given
pub record NumberOption : Type 0 where
  pub name : Text
  pub most : ℕ
  pub default : Text

-- the options, one a line
abbrev pub number_options : List NumberOption
number_options =
    record { name = codes "context"; most = MAX_CONTEXT; default = MAX_CONTEXT_TEXT.now }
    ∷ record { name = codes "roots"; most = MAX_ROOTS; default = MAX_ROOTS_TEXT.now }
    ∷ record { name = codes "coef"; most = MAX_COEF; default = MAX_COEF_TEXT.now }
    ∷ record { name = codes "workers"; most = MAX_WORKERS; default = DEFAULT_WORKERS_TEXT.now } ∷ []

-- the option as clap reads it, with a number of 64 bits
abbrev pub number_rule : NumberOption → Rule
number_rule option = record (new_rule option.name)
    { long = Some option.name; action = Some Set; defaults = option.default ∷ []; parser = Some (Unsigned 1 option.most) }

-- the command `coxeter` with its options, and without the flags that clap adds by itself; with no version told it adds none for that
abbrev pub coxeter_app : App
coxeter_app =
    fold with_rule (on_top (λ s. record s { disable_help_flag = true }) (new_app (codes "coxeter"))) (map number_rule number_options)
