-- Runs with arguments that give the same limits write the same, where both answer their script whole.
use Rattle.std.proofs.Common.{◌≡◌, Bool, true, false, List, ℕ, Some, refl, sym, ap, ◌∙◌}
use Rattle.cox_outside.specs.Supply.{Supply}
use Rattle.cox_outside.specs.Outlet.{Outlet, Writes}
use Rattle.cox_shell.specs.declared.status.Status.{Status}
use Rattle.cox_shell.specs.declared.status.Status.TheVariants.{Done, Refused, Usage, ReadFault, WriteFault, NoMemory, InputLimit}
use Rattle.cox_shell.specs.Reply.{Reply, opening, texts}
use Rattle.cox_shell.specs.Answer.{AreScriptReplies, has_refusal, script_lines}
use Rattle.cox_shell.specs.Top.{given_limits, AnswersWhole}
use Rattle.cox_shell.specs.WholeRun.{IsRun}
use Rattle.cox_laws.specs.SameRuns.{IsWhole, DifferInWorkersAtMost, AnswersAlike}
use Rattle.cox_shell.proofs.LineReplies.{AreAllReplies-unique}

-- the status of a run that answered its script whole, by whether a reply is a refusal
abbrev whole_status : Bool → Status
whole_status true = Refused
whole_status false = Done

module _ (arguments : List (List ℕ)) (script : List ℕ) (source left : Supply) (old new : Outlet) (known : source.left ≡ Some script) where
  abbrev IsAnswered : Status → Type 0
  IsAnswered status = (replies : List Reply) × AreScriptReplies (given_limits arguments) script replies × Writes (texts replies) old new
      × (status ≡ whole_status (has_refusal replies))

  from_whole : (refused : Bool) → AnswersWhole refused (given_limits arguments) source.left left.left old new
      → IsAnswered (whole_status refused)
  from_whole refused h = (h.replies, rw known at h.are_replies, h.writes, ap whole_status (sym h.refuses))

  answered : (status : Status) → IsRun status arguments source left old new → IsWhole status → IsAnswered status
  answered Done run whole = from_whole false (run.done refl)
  answered Refused run whole = from_whole true (run.refused refl)
  answered Usage run whole = absurd whole
  answered ReadFault run whole = absurd whole
  answered WriteFault run whole = absurd whole
  answered NoMemory run whole = absurd whole
  answered InputLimit run whole = absurd whole

same_limits : (one other : List (List ℕ)) → DifferInWorkersAtMost one other → given_limits other ≡ given_limits one
same_limits one other h = rw (h.context, h.coef, h.roots) refl

pub same-answers : (one other : List (List ℕ)) (script : List ℕ) → DifferInWorkersAtMost one other → AnswersAlike one other script
same-answers one other script h status status' source left source' left' old new old' new' known known' run run' whole whole' =
    let p = answered one script source left old new known status run whole in
    let q = answered other script source' left' old' new' known' status' run' whole' in
    let same : q.0 ≡ p.0 = AreAllReplies-unique (opening (given_limits one)) tt (script_lines script) q.0 p.0
    (rw (same_limits one other h) at q.1) p.1 in (
      p.3 ∙ sym (ap (λ replies. whole_status (has_refusal replies)) same) ∙ sym q.3,
      texts p.0,
      p.2,
      rw same at q.2,
    )
