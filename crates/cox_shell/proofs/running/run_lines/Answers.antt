-- Each line that is served carries the run on, or ends it.
use Rattle.std.proofs.Common.{◌≡◌, Bool, false, Option, Some, None, refl, sym, ap, ◌∙◌, arith}
use Rattle.std.specs.Option.{is_some}
use Rattle.cox_outside.specs.declared.line_reader.Stop.{Stop}
use Rattle.cox_outside.specs.FaultCount.{count_after}
use Rattle.cox_outside.specs.Reader.{Reader}
use Rattle.cox_shell.proofs.Progress.{Progress-start, Progress-answered, Progress-refused}
use Rattle.cox_shell.proofs.EndOfRun.{ends_at_quit, ends_stopped, ends_stopping, Runs-whole, budget-served}
use Rattle.cox_shell.proofs.EndOfRun.{stopping-read_fault, stopping-write_fault}
use Rattle.cox_shell.proofs.running.run_lines.Goals as goal

-- a reader that has not stopped
going : (halt : Option Stop) (stopped : Bool) → stopped ≡ is_some halt → stopped ≡ false → halt ≡ None
going None stopped is false_is = refl
going (Some halt) stopped is false_is = cc

pub lines-init : goal.lines-init
lines-init g c = record {
  progress = Progress-start _ (ap (λ (r : Reader). r.stop) c.requires.fresh)
      (rw c.requires.fresh (omega arith, omega arith));
  source_faults = refl;
  same_sure = refl;
  sink_faults = refl;
}

pub lines-preserved-in-Ok-Answered : goal.lines-preserved-in-Ok-Answered
lines-preserved-in-Ok-Answered g c =
    let told = rw (c.in-Ok-Answered.is, c.in-Ok-Answered.field-0-is) at c.serve_line.ensures in
    record {
      progress = Progress-answered _ _ _ _
          (going _ _ c.has_stopped.ensures c.lines-test.true) c.lines.invariant.progress told.serves;
      source_faults = told.source_cause.faults ∙ c.lines.invariant.source_faults;
      same_sure = told.source_cause.same_sure ∙ c.lines.invariant.same_sure;
      sink_faults = told.sink_cause ∙ c.lines.invariant.sink_faults;
    }

pub lines-preserved : goal.lines-preserved
lines-preserved g c =
    let told = rw (c.in-Ok-Refused.is, c.in-Ok-Refused.field-0-is) at c.serve_line.ensures in
    record {
      progress = Progress-refused _ _ _ _
          (going _ _ c.has_stopped.ensures c.lines-test.true) c.lines.invariant.progress told.serves;
      source_faults = told.source_cause.faults ∙ c.lines.invariant.source_faults;
      same_sure = told.source_cause.same_sure ∙ c.lines.invariant.same_sure;
      sink_faults = told.sink_cause ∙ c.lines.invariant.sink_faults;
    }

pub lines-smaller : goal.lines-smaller
lines-smaller g c =
    budget-served _ _ _ _ (rw (c.in-Ok-Refused.is, c.in-Ok-Refused.field-0-is) at c.serve_line.ensures.serves)

pub returns-in-Ok-Quit-clause-runs : goal.returns-in-Ok-Quit-clause-runs
returns-in-Ok-Quit-clause-runs g c =
    let serves = rw (c.in-Ok-Quit.is, c.in-Ok-Quit.field-0-is) at c.serve_line.ensures.serves in
    rw c.status.ensures
    (Runs-whole c.lines.refused _ _
    (ends_at_quit _ _ _ _ (going _ _ c.has_stopped.ensures c.lines-test.true) c.lines.invariant.progress serves))

pub returns-in-Err : goal.returns-in-Err
returns-in-Err g c =
    let told = c.in-Err.ensures in
    let going_on = going _ _ c.has_stopped.ensures c.lines-test.true in
    rw c.status-in-Err.ensures (record {
      runs = ends_stopping c.in-Err.stopped _ _ _ _ going_on c.lines.invariant.progress told.serves;
      source_cause = rw (stopping-read_fault c.in-Err.stopped c.lines.refused) (record {
        faults = told.source_cause.faults ∙ ap (count_after _) c.lines.invariant.source_faults;
        same_sure = told.source_cause.same_sure ∙ c.lines.invariant.same_sure;
        unsure = λ t. sym c.lines.invariant.same_sure ∙ told.source_cause.unsure t;
      });
      sink_cause = rw (stopping-write_fault c.in-Err.stopped c.lines.refused)
          (told.sink_cause ∙ ap (count_after _) c.lines.invariant.sink_faults);
    })

pub returns-clause-runs : goal.returns-clause-runs
returns-clause-runs g c =
    rw c.status-2.ensures
    (Runs-whole c.lines.refused _ _ (ends_stopped _ _ _ c.lines.invariant.progress (sym c.has_stopped.ensures ∙ c.lines-test.false)))
