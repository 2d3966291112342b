-- The call of `arg` adds the rule of the option.
use Rattle.std.proofs.Common.{ap, ◌∙◌}
use Rattle.std.proofs.lemmas.Result.{IfOk-weaker}
use Rattle.clap.specs.Words.{app_of, with_rule}
use Rattle.cox_options.proofs.definition.with_number.Goals as goal

pub returns : goal.returns
returns c = IfOk-weaker c.arg.result _ _
    (λ command added. added.shape c.number_option.ensures.local ∙ ap (with_rule (app_of c.args.command)) c.number_option.ensures.rule)
    c.arg.ensures
