-- The proof of `Session::refuse`.
use Rattle.std.proofs.Common.{[], ◌∷◌}
use Rattle.cox_poly.proofs.Behind.{PutsPrefix-first}
use Rattle.cox_command.specs.RefusalNumber.{refusal_number}
use Rattle.cox_print.specs.AnswerText.{refusal_text}
use Rattle.cox_shell.proofs.SaidReplies.{SaysPrefix-broken}
use Rattle.cox_shell.specs.Reply.{refusal}
use Rattle.cox_shell.proofs.session.Session.refuse.Goals as goal

pub returns-in_err-put_refusal-clause-err : goal.returns-in_err-put_refusal-clause-err
returns-in_err-put_refusal-clause-err c =
    SaysPrefix-broken _ (refusal c.args.self.now c.args.why) _ _ _
    (PutsPrefix-first (refusal_text (refusal_number c.args.why)) (10 ∷ []) _ _
    (rw c.number.ensures at (c.in_err-put_refusal.ensures {u = tt})))
