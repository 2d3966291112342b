-- What the calls that sum up rows say of their totals.
use Rattle.std.specs.Prelude.{Result, Ok, Err, None, Some}
use Rattle.cox_command.specs.declared.refusal.Refusal.{Refusal}
use Rattle.cox_replies.specs.declared.unanswered.Unanswered.{Unanswered}
use Rattle.cox_replies.specs.declared.unanswered.Unanswered.TheVariants as unanswered
use Rattle.cox_replies.specs.Question.{IsRefused}
use Rattle.cox_replies.specs.Totals.{Totals}

-- nothing refuses, and these are the totals; or it is refused; or memory ran out
abbrev pub SumsUp : Result Totals Unanswered → (Refusal → Type 0) → (Totals → Type 0) → Type 0
SumsUp (Ok totals) Refuses Are = IsRefused Refuses None × Are totals
SumsUp (Err (unanswered.Refused why)) Refuses Are = IsRefused Refuses (Some why)
SumsUp (Err unanswered.NoMemory) Refuses Are = Unit {0}
