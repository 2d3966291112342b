-- What ending an open list does at the end of reading.
use Rattle.std.proofs.Common.{◌≡◌, ◌||◌, true, false, [], ◌∷◌, Option, Some, None, IsSomeAnd, Result, Ok, Err, refl, sym, ap, subst}
use Rattle.std.specs.Prelude.{OnErr, OnOk}
use Rattle.std.specs.Option.{is_some}
use Rattle.std.specs.declared.alloc.AllocError.{AllocError}
use Rattle.std.proofs.lemmas.List.{append-nil}
use Rattle.cox_command.specs.declared.refusal.Refusal.{Refusal}
use Rattle.cox_command.specs.RefusalNumber.{refusal_number}
use Rattle.cox_outside.specs.Outlet.{Outlet, Writes}
use Rattle.cox_shell.specs.declared.session.Said.{Said}
use Rattle.cox_shell.specs.declared.session.Said.TheVariants.{Answered, Refused, Quit}
use Rattle.cox_shell.specs.Reply.{State, Reply}
use Rattle.cox_shell.specs.Answer.{IsClosing}
use Rattle.cox_shell.specs.Closing.{Closes, closed_by}
use Rattle.cox_shell.specs.Saying.{IsSaid}

-- what holds where there was no memory
pub err_of : (result : Result Said AllocError) (P : Type 0) → ((said : Said) → result ≡ Ok said → ⊥) → OnErr result P → P
err_of (Ok said) P never on = absurd (never said refl)
err_of (Err error) P never on = on

is_refusal : (found : Option Refusal) (P : Refusal → Type 0) → IsSomeAnd found P → (is_some found || false) ≡ true
is_refusal None P is = absurd is
is_refusal (Some why) P is = refl

-- the reply to the end of the list was written
pub closed-said : (said : Said) (reply : Reply) (state : State) (old new : Outlet) → IsSaid said reply → IsClosing state (reply ∷ [])
    → Writes reply.text old new → Closes (closed_by said) state old new
closed-said Answered reply state old new is closes writes = record {
  closing = reply ∷ [];
  closes = closes;
  writes = subst (λ t. Writes t old new) (sym (append-nil reply.text)) writes;
  refuses = ap (λ o. is_some o || false) is.0;
}
closed-said (Refused number) reply state old new is closes writes = record {
  closing = reply ∷ [];
  closes = closes;
  writes = subst (λ t. Writes t old new) (sym (append-nil reply.text)) writes;
  refuses = is_refusal reply.refused (λ why. number ≡ refusal_number why) is.0;
}
closed-said Quit reply state old new is closes writes = record {
  closing = reply ∷ [];
  closes = closes;
  writes = subst (λ t. Writes t old new) (sym (append-nil reply.text)) writes;
  refuses = ap (λ o. is_some o || false) is.0;
}

-- what holds where nothing failed
pub ok_of : {E : Type 0} (result : Result Unit E) (P : Type 0) → ((error : E) → result ≡ Err error → ⊥) → OnOk result P → P
ok_of (Ok done) P never on = on
ok_of (Err error) P never on = absurd (never error refl)
