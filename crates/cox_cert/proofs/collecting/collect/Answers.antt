-- Each line that is taken carries the reading on, or ends it.
use Rattle.std.proofs.Common.{refl, sym, ap, ◌∙◌}
use Rattle.cox_outside.specs.Reader.{Reader}
use Rattle.cox_cert.proofs.Collections.{Progress-start, Progress-step, step-smaller, begins-fresh, limit-fresh, going}
use Rattle.cox_cert.proofs.Collections.{gathers-halted, gathers-all, gathers-none, reads-within}
use Rattle.cox_cert.proofs.collecting.collect.Goals as goal

pub lines-init : goal.lines-init
lines-init g c = record {
  progress = Progress-start _ _ (ap (λ (r : Reader). r.stop) c.requires) (ap (λ (r : Reader). r.feed.pending) c.requires);
  source_faults = refl;
  same_sure = refl;
}

pub lines-preserved : goal.lines-preserved
lines-preserved g c =
    let told = c.in-Ok.ensures in
    record {
      progress = Progress-step _ _ _ _ _ _ _ c.lines.invariant.progress told.steps;
      source_faults = told.cause.faults ∙ c.lines.invariant.source_faults;
      same_sure = told.cause.same_sure ∙ c.lines.invariant.same_sure;
    }

pub lines-smaller : goal.lines-smaller
lines-smaller g c =
    rw (going _ _ c.has_stopped.ensures c.lines-test.true) (step-smaller _ _ _ _ _ c.in-Ok.ensures.steps)

pub returns-in-Err-clause-gathers : goal.returns-in-Err-clause-gathers
returns-in-Err-clause-gathers g c =
    (gathers-halted _ _ _ _ _ (begins-fresh _ _ c.requires) (limit-fresh _ c.requires) refl refl
    c.in-Err.halt _ _ _ _ c.lines.invariant.progress c.in-Err.ensures.steps).0

pub returns-in-Err-clause-within : goal.returns-in-Err-clause-within
returns-in-Err-clause-within g c =
    (gathers-halted _ _ _ _ _ (begins-fresh _ _ c.requires) (limit-fresh _ c.requires) refl refl
    c.in-Err.halt _ _ _ _ c.lines.invariant.progress c.in-Err.ensures.steps).1

pub returns-in-Some-clause-gathers : goal.returns-in-Some-clause-gathers
returns-in-Some-clause-gathers g c =
    let p = c.lines.invariant.progress in
    gathers-all _ _ _ _ _ (begins-fresh _ _ c.requires) (limit-fresh _ c.requires) refl refl
    c.in-Some.draft p.lines _ p.taken (sym c.has_stopped.ensures ∙ c.lines-test.false) p.short (c.in-Some.ensures p.lines p.forms)

pub returns-in-Some-clause-within : goal.returns-in-Some-clause-within
returns-in-Some-clause-within g c =
    let p = c.lines.invariant.progress in
    reads-within _ _ _ _ _ (begins-fresh _ _ c.requires) (limit-fresh _ c.requires) refl refl p.taken.taken p.taken.takes p.taken.few

pub returns-in-None-clause-gathers : goal.returns-in-None-clause-gathers
returns-in-None-clause-gathers g c =
    let p = c.lines.invariant.progress in
    gathers-none _ _ _ _ _ (begins-fresh _ _ c.requires) (limit-fresh _ c.requires) refl refl
    p.lines _ p.taken (sym c.has_stopped.ensures ∙ c.lines-test.false) (c.in-None.ensures p.lines p.forms)

pub returns-in-None-clause-within : goal.returns-in-None-clause-within
returns-in-None-clause-within g c =
    let p = c.lines.invariant.progress in
    reads-within _ _ _ _ _ (begins-fresh _ _ c.requires) (limit-fresh _ c.requires) refl refl p.taken.taken p.taken.takes p.taken.few
