-- A line that a scan ended is shown, and no fault is told of it.
use Rattle.std.proofs.Common.{◌≡◌, Some, None, refl, sym, ap, ◌∙◌, subst, rules}
use Rattle.std.proofs.lemmas.List.{take_at}
use Rattle.cox_outside.specs.declared.line_reader.Stop.TheVariants as stop
use Rattle.cox_outside.specs.Scan.{KeepsLine}
use Rattle.cox_outside.specs.Reader.{halt_of}
use Rattle.cox_outside.proofs.Telling.{ReadsNext-line, SourceCause-shown, none_is_not_some}
use Rattle.cox_outside.proofs.line_reader.LineReader.next.Goals as goal

pub returns-in-Line : goal.returns-in-Line
returns-in-Line g c =
    let scans = c.in-Line.ensures.scans in
    let buffer : c.deref.result.now ≡ c.scan_line-ended.new.line = c.deref.ensures.value
    ∙ take_at _ _ _ (c.scan_line-ended.ensures.size ∙ sym c.self.invariant.0) in
    let keeps : KeepsLine scans.0 c.in-Line.count c.in-Line.by_cr c.deref.result.now = subst
    (λ b. KeepsLine scans.0 c.in-Line.count c.in-Line.by_cr b) (sym buffer) scans.2 in
    let shows = c.show.ensures scans.0 keeps in
    let going : c.self.inside.stop ≡ None = search rules in
    let halt : c.stop_at-self-inside.result ≡ None = c.stop_at-self-inside.ensures ∙ ap halt_of c.in-Line.is in
    rw (← c.self.view_is) (
      (refl, (λ _. tt), rw going (rw halt (ReadsNext-line _ None _ _ _ scans.1 shows))),
      record {
        answers = tt;
        still = λ stopped. absurd (none_is_not_some _ going stopped);
        cause =
            SourceCause-shown _ _ _ _ _ shows going c.in-Line.ensures.cause;
      },
    )

pub returns-in-Last : goal.returns-in-Last
returns-in-Last g c =
    let scans = c.in-Last.ensures.scans in
    let buffer : c.deref-in-Last.result.now ≡ c.scan_line-ended.new.line = c.deref-in-Last.ensures.value
    ∙ take_at _ _ _ (c.scan_line-ended.ensures.size ∙ sym c.self.invariant.0) in
    let keeps : KeepsLine scans.0 c.in-Last.count c.in-Last.by_cr c.deref-in-Last.result.now = subst
    (λ b. KeepsLine scans.0 c.in-Last.count c.in-Last.by_cr b) (sym buffer) scans.2 in
    let shows = c.show-in-Last.ensures scans.0 keeps in
    let going : c.self.inside.stop ≡ None = search rules in
    let halt : c.stop_at-self-inside.result ≡ Some stop.End = c.stop_at-self-inside.ensures ∙ ap halt_of c.in-Last.is in
    rw (← c.self.view_is) (
      (refl, (λ _. tt), rw going (rw halt (ReadsNext-line _ (Some stop.End) _ _ _ scans.1 shows))),
      record {
        answers = tt;
        still = λ stopped. absurd (none_is_not_some _ going stopped);
        cause =
            SourceCause-shown _ _ _ _ _ shows going c.in-Last.ensures.cause;
      },
    )
