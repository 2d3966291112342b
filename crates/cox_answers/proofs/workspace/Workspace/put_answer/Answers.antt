-- The proof of `Workspace::put_answer`.
use Rattle.std.proofs.Common.{rules}
use Rattle.std.proofs.lemmas.Result.{err_from_is_err_and}
use Rattle.cox_replies.proofs.Unless.{PutsUnless-failed, PutsUnless-broken, PutsUnless-ended}
use Rattle.cox_answers.proofs.workspace.Workspace.put_answer.Goals as goal

pub returns-in_err-put_text_of-clause-puts : goal.returns-in_err-put_text_of-clause-puts
returns-in_err-put_text_of-clause-puts g c =
    let p = err_from_is_err_and c.from_residual.result c.from_residual.ensures.1 in
    rw (p.1, p.2) (PutsUnless-failed _ _ _ c.put_text_of.result c.in_err-put_text_of.field-0.0 _
    (c.in_err-put_text_of.was {u = tt}) c.put_text_of.ensures.puts)

pub returns-in_err-put_end-clause-puts : goal.returns-in_err-put_end-clause-puts
returns-in_err-put_end-clause-puts g c =
    let p = err_from_is_err_and c.from_residual-in_err-put_end.result c.from_residual-in_err-put_end.ensures.1 in
    rw (p.1, p.2) (PutsUnless-broken _ _ _ c.put_text_of.result _ _ (search rules) c.put_text_of.ensures.puts
    (c.in_err-put_end.ensures {u = tt}))

pub returns-clause-puts : goal.returns-clause-puts
returns-clause-puts g c =
    PutsUnless-ended _ _ _ c.put_text_of.result _ _ (search rules) c.put_text_of.ensures.puts (c.in_ok-put_end.ensures {u = tt})
