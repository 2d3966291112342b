-- What the calls that answer say of a reply.
use Rattle.std.specs.Prelude.{Result, Ok, Err, IfOk, OnErr, IsErr, None, IsSomeAnd, ◌≡◌, ℕ, true, false, List}
use Rattle.std.specs.Prelude.{◌++◌}
use Rattle.std.specs.declared.alloc.AllocError.{AllocError}
use Rattle.cox_poly.specs.Puts.{PutsPrefix}
use Rattle.cox_command.specs.RefusalNumber.{refusal_number}
use Rattle.cox_replies.specs.declared.unanswered.Unanswered.{Unanswered}
use Rattle.cox_replies.specs.declared.unanswered.Unanswered.TheVariants as unanswered
use Rattle.cox_shell.specs.declared.session.Said.{Said}
use Rattle.cox_shell.specs.declared.session.Said.TheVariants.{Answered, Refused, Quit}
use Rattle.cox_shell.specs.Reply.{State, Reply, refusal}

-- what is said of a reply: that it is an answer, the number of its refusal, or that it ends the run
abbrev pub IsSaid : Said → Reply → Type 0
IsSaid Answered reply = (reply.refused ≡ None) × (reply.quits ≡ false)
IsSaid (Refused number) reply = IsSomeAnd reply.refused (λ why. number ≡ refusal_number why) × (reply.quits ≡ false)
IsSaid Quit reply = (reply.refused ≡ None) × (reply.quits ≡ true)

-- a reply was given: its text was appended
pub record SaysText (said : Said) (reply : Reply) (before after : List ℕ) : Type 0 where
  pub is_said : IsSaid said reply
  pub text : after ≡ before ++ reply.text

-- a reply was given: its text was appended, and the state is the one after it
pub record Says (said : Said) (reply : Reply) (state : State) (before after : List ℕ) : Type 0 where
  pub is_said : IsSaid said reply
  pub text : after ≡ before ++ reply.text
  pub state_after : state ≡ reply.after

-- a reply was broken off: a prefix of its text was appended, and the state is as it was
pub record SaysPrefix (reply : Reply) (old new : State) (before after : List ℕ) : Type 0 where
  pub puts_prefix : PutsPrefix reply.text before after
  pub same_state : new ≡ old

-- what is said after a line was put, or was refused, or memory ran out
abbrev pub Concludes : Result Unit Unanswered → State → Result Said AllocError → List ℕ → List ℕ → Type 0
Concludes (Ok done) state result before after = (result ≡ Ok Answered) × (after ≡ before)
Concludes (Err (unanswered.Refused why)) state result before after = IfOk result (λ said. Says said (refusal state why) state before after)
    × OnErr result (SaysPrefix (refusal state why) state state before after)
Concludes (Err unanswered.NoMemory) state result before after = IsErr result × (after ≡ before)
