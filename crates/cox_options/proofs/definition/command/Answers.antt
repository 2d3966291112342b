-- The command that is built is the one of the definition: each step adds the rule of the next option.
use Rattle.std.proofs.Common.{◌≡◌, ◌∙◌, ap, ap₂, codes, ℕ, true}
use Rattle.std.proofs.lemmas.Result.{IfOk-weaker}
use Rattle.cox_options.specs.declared.options.TheConstants.{MAX_CONTEXT_TEXT, MAX_ROOTS_TEXT, MAX_COEF, MAX_COEF_TEXT}
use Rattle.cox_options.specs.declared.options.TheConstants.{DEFAULT_WORKERS_TEXT}
use Rattle.clap.specs.Words.{App, Rule, Text, app_of, new_app, with_rule}
use Rattle.clap.specs.Simple.{app_of_fields, on_top}
use Rattle.cox_options.specs.Command.{number_rule}
use Rattle.cox_options.proofs.definition.command.Goals as goal

-- the rule of an option, by its parts
abbrev rule : Text → Text → ℕ → Rule
rule name default most = number_rule (record { name = name; most = most; default = default })

-- a command without the flag for help
abbrev without_help : App → App
without_help = on_top (λ s. record s { disable_help_flag = true })

pub returns : goal.returns
returns c =
    let bare : app_of c.disable_help_flag-bare.result ≡ without_help (app_of c.new.result)
    = ap app_of_fields c.disable_help_flag-bare.ensures in
    let start : app_of c.disable_help_flag-bare.result ≡ without_help (new_app (codes "coxeter"))
    = bare ∙ ap without_help c.new.ensures.app in
    let context = ap (rule (codes "context") MAX_CONTEXT_TEXT.now) c.from.ensures in
    let roots = ap (rule (codes "roots") MAX_ROOTS_TEXT.now) c.from-2.ensures in
    let one = c.in_ok-one.ensures ∙ ap₂ with_rule start context in
    let two = c.in_ok-two.ensures ∙ ap₂ with_rule one roots in
    let three = c.in_ok-three.ensures ∙ ap (λ (app : App). with_rule app (rule (codes "coef") MAX_COEF_TEXT.now MAX_COEF)) two in
    let workers = ap (rule (codes "workers") DEFAULT_WORKERS_TEXT.now) c.from-3.ensures in
    IfOk-weaker c.with_number-4.result _ _ (λ command added. added ∙ ap₂ with_rule three workers) c.with_number-4.ensures
