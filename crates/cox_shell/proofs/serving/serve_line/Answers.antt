-- A reply that could not be written is cut off.
use Rattle.std.proofs.Common.{◌≡◌, ◌<◌, length, refl, ◌∙◌, subst}
use Rattle.std.specs.Option.{IfSome}
use Rattle.cox_outside.specs.Outlet.{IsPrefix}
use Rattle.std.proofs.lemmas.Result.{err_from_is_err_and}
use Rattle.cox_shell.proofs.ServedLines.{AnswersNextLine-serves, Says-serves}
use Rattle.cox_shell.proofs.serving.serve_line.Goals as goal

pub returns-in_err-said-clause-serves : goal.returns-in_err-said-clause-serves
returns-in_err-said-clause-serves g c =
    let p = err_from_is_err_and c.from_residual.result c.from_residual.ensures.1 in
    rw (p.1, p.2) (AnswersNextLine-serves _ _ _ _ c.in_err-said.ensures.answers refl)

pub returns-in-Ok-clause-serves : goal.returns-in-Ok-clause-serves
returns-in-Ok-clause-serves g c =
    let answers = c.in_ok-said.ensures.answers in
    let bytes : c.deref.result.now ≡ answers.0.text = c.deref.ensures.value ∙ answers.2.text in
    Says-serves c.in_ok-said.said _ _ answers.0 _ answers.1 answers.2 (rw (← bytes) c.in-Ok.ensures.ok)

pub returns-in-Err-clause-serves : goal.returns-in-Err-clause-serves
returns-in-Err-clause-serves g c =
    let answers = c.in_ok-said.ensures.answers in
    let bytes : c.deref.result.now ≡ answers.0.text = c.deref.ensures.value ∙ answers.2.text in
    let put = c.in-Err.ensures.err in (
      record {
        reply = answers.0;
        taken = answers.1;
        prefix = put.0;
        is_prefix = subst (λ t. IsPrefix put.0 t) bytes put.1;
        writes = put.2;
      },
      subst (λ t. IfSome (g.K.Sink.seen c.args.sink.now).room (λ left. left < length t)) bytes c.in-Err.ensures.full,
    )
