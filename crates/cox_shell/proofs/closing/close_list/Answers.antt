-- A reply that could not be written is cut off.
use Rattle.std.proofs.Common.{◌≡◌, ◌<◌, [], ◌∷◌, ◌++◌, length, refl, sym, ap, ◌∙◌, subst, rules}
use Rattle.std.specs.Option.{IfSome}
use Rattle.std.proofs.lemmas.List.{append-nil}
use Rattle.cox_outside.specs.Outlet.{IsPrefix}
use Rattle.cox_outside.proofs.Known.{Writes-none}
use Rattle.cox_shell.specs.Reply.{texts}
use Rattle.cox_shell.proofs.OpenListReplies.{closing-of}
use Rattle.cox_shell.proofs.ClosedLists.{err_of, ok_of, closed-said}
use Rattle.cox_shell.proofs.closing.close_list.Goals as goal

pub returns-in-Err-clause-closes : goal.returns-in-Err-clause-closes
returns-in-Err-clause-closes g c =
    let said = c.in-Ok.ensures.ok in
    let reply = said.0 in
    let bytes : c.deref.result.now ≡ texts (reply ∷ []) =
    c.deref.ensures.value ∙ said.2.text ∙ ap (λ l. l ++ reply.text) c.clear.ensures.items ∙ sym (append-nil reply.text) in
    let put = c.in-Err.ensures.err in (
      record {
        list_open = search rules;
        closing = reply ∷ [];
        closes = closing-of c.args.session.now reply said.1;
        prefix = put.0;
        is_prefix = subst (λ t. IsPrefix put.0 t) bytes put.1;
        writes = put.2;
      },
      subst (λ t. IfSome (g.K.Sink.seen c.args.sink.now).room (λ left. left < length t)) bytes c.in-Err.ensures.full,
    )

pub returns-in_default-clause-closes : goal.returns-in_default-clause-closes
returns-in_default-clause-closes g c =
    let cut = err_of _ _ c.in_default.not-Ok c.end_list.ensures.err in
    record {
      list_open = search rules;
      closing = cut.0 ∷ [];
      closes = closing-of c.args.session.now cut.0 cut.1;
      prefix = [];
      is_prefix = (texts (cut.0 ∷ []), refl);
      writes = Writes-none _;
    }

pub returns-clause-closes : goal.returns-clause-closes
returns-clause-closes g c =
    let said = c.in-Ok.ensures.ok in
    let bytes : c.deref.result.now ≡ said.0.text =
    c.deref.ensures.value ∙ said.2.text ∙ ap (λ l. l ++ said.0.text) c.clear.ensures.items in
    rw c.of.ensures (closed-said c.in-Ok.said said.0 c.args.session.now _ _ said.2.is_said (closing-of c.args.session.now said.0 said.1)
    (rw (← bytes) (ok_of _ _ c.in_default-write_all.not-Err c.write_all.ensures.ok)))
