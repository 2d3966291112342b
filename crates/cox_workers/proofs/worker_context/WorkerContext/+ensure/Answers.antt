-- The worker's steps.
use Rattle.std.proofs.Common.{◌≡◌, ◌<◌, ◌≤◌, ⊎_elim, refl, ap, ◌∙◌, subst, rules, arith}
use borrow.Author.Count.{below_none}
use Rattle.std.proofs.lemmas.Bool.{cases_lt}
use Rattle.std.specs.Prelude.{IfErr}
use Rattle.cox_row_symmetry.proofs.LowerMembers.{lower-before}
use Rattle.cox_klstep.proofs.NeededRows.{listed-needs, identity-needs}
use Rattle.cox_row.specs.Rising.{number_at}
use Rattle.cox_claims.specs.Knowledge.{looked}
use Rattle.cox_claims.specs.Seats.{view_of, HasSeen}
use Rattle.cox_row_store.specs.Stores.{limit_of}
use Rattle.cox_workers.proofs.SeatSteps.{needs-map, unmade_by-needed, unmade_err, looked_kept}
use Rattle.cox_workers.proofs.SeatSteps.{looked_void, published_kept, voided_kept, unmade_missing}
use Rattle.cox_workers.proofs.WaitingOrder.{beyond-still, from-beyond}
use Rattle.cox_workers.proofs.Working.{ready_still, work-trans, work-same, work-needed, work-tables, work-list}
use Rattle.cox_workers.proofs.NeedsByNumber.{lower-needed_at, correction-needed_at, correction-before_at}
use Rattle.cox_workers.specs.RowsRead.{IsRead}
use Rattle.cox_workers.specs.SeatChanges.{IsRowMissing}
use Rattle.cox_klstep.specs.NeedsOf.{AreNeeds}
use Rattle.cox_base.specs.IntegerMatrix.{integer_matrix}
use Rattle.cox_context.specs.Numbers.{word_at}
use Rattle.cox_workers.proofs.worker_context.WorkerContext.+ensure.Goals as goal

pub ensure-returns-in-Lost-Published-clause-work : goal.ensure-returns-in-Lost-Published-clause-work
ensure-returns-in-Lost-Published-clause-work g t c = work-same c.requires.ready c.claim.ensures.own
    (looked_kept c.args.self.now.context.now c.args.i c.args.i c.args.seat.now c.claim.new.seat _ c.claim.ensures.seat
    c.claim.ensures.splits c.in-Lost-Published.ensures.step.after c.in-Lost-Published.ensures.step.kept)

pub ensure-returns-in-Lost-Void-clause-work : goal.ensure-returns-in-Lost-Void-clause-work
ensure-returns-in-Lost-Void-clause-work g t c = work-same c.requires.ready c.claim.ensures.own
    (looked_kept c.args.self.now.context.now c.args.i c.args.i c.args.seat.now c.claim.new.seat _ c.claim.ensures.seat
    c.claim.ensures.splits c.in-Lost-Void.ensures.step.after c.in-Lost-Void.ensures.step.kept)

pub ensure-returns-in-Lost-Void-clause-missing : goal.ensure-returns-in-Lost-Void-clause-missing
ensure-returns-in-Lost-Void-clause-missing g t c =
    looked_void c.args.self.now.context.now c.len-len.ensures.admissible c.args.i c.args.seat.now c.args.seat.now c.claim.new.seat
    c.requires.member refl
    (c.in-Lost-Void.ensures.step.after ∙ ap (looked (view_of c.args.seat.now) c.args.i) c.in-Lost-Void.field-0-is)

pub ensure-returns-in-Ok-clause-work : goal.ensure-returns-in-Ok-clause-work
ensure-returns-in-Ok-clause-work g t c = record {
  ready = ready_still c.made.ensures.work.ready c.publish.ensures.own c.publish.ensures.step.kept;
  kept = published_kept c.args.self.now.context.now c.len-len.ensures.admissible c.args.i c.requires.member c.args.seat.now c.claim.new.seat
      c.made.new.seat c.publish.new.seat c.claim.ensures.seat c.claim.ensures.splits c.in-Won.ensures.step c.made.ensures.work.kept
      c.publish.ensures.seat c.publish.ensures.splits c.publish.ensures.step c.in-Ok.ensures.needs;
  rows = c.made.ensures.work.rows;
}

pub ensure-returns-in-Err-clause-work : goal.ensure-returns-in-Err-clause-work
ensure-returns-in-Err-clause-work g t c = record {
  ready = ready_still c.made.ensures.work.ready c.void.ensures.own c.void.ensures.step.kept;
  kept = voided_kept c.args.self.now.context.now c.len-len.ensures.admissible c.args.i c.requires.member c.args.seat.now c.claim.new.seat
      c.made.new.seat c.void.new.seat c.claim.ensures.seat c.claim.ensures.splits c.in-Won.ensures.step c.made.ensures.work.kept
      c.void.ensures.seat c.void.ensures.splits c.void.ensures.step;
  rows = c.made.ensures.work.rows;
}

pub ensure-returns-in-Err-clause-missing : goal.ensure-returns-in-Err-clause-missing
ensure-returns-in-Err-clause-missing g t c =
    unmade_missing c.args.self.now.context.now c.len-len.ensures.admissible c.args.i c.requires.member c.args.seat.now c.claim.new.seat
    c.made.new.seat
    c.void.new.seat c.claim.ensures.seat c.claim.ensures.splits c.in-Won.ensures.step c.made.ensures.work.kept c.void.ensures.seat
    c.void.ensures.splits c.void.ensures.step c.void.ensures.seen.0 (limit_of c.args.self.now.store.now) c.in-Err.missing
    c.in-Err.ensures.missing

-- ---- the rows that a row is made from

pub made-made_from-requires-clause-needs : goal.made-made_from-requires-clause-needs
made-made_from-requires-clause-needs g t c = λ _ _.
    needs-map c.args.self.now.context.now (IsRead c.take_in.new.scratch.rows) (IsRead c.gather.new.scratch.rows) c.args.i
    c.gather.ensures.work.rows
    c.in_ok-budget.ensures.needs

pub made-returns-clause-needs : goal.made-returns-clause-needs
made-returns-clause-needs g t c =
    needs-map c.args.self.now.context.now (IsRead c.take_in.new.scratch.rows) (HasSeen c.gather.new.seat) c.args.i
    (λ j on. c.gather.ensures.work.ready.seen j (c.gather.ensures.work.rows j on)) c.in_ok-budget.ensures.needs

pub made-returns-clause-work : goal.made-returns-clause-work
made-returns-clause-work g t c =
    work-tables c.made_from.new.tables c.made_from.new.steps c.made_from.ensures.tables
    (work-trans c.take_in.ensures.work c.gather.ensures.work)

pub made-returns-in_err-row-clause-work : goal.made-returns-in_err-row-clause-work
made-returns-in_err-row-clause-work g t c =
    work-tables c.made_from.new.tables c.made_from.new.steps c.made_from.ensures.tables
    (work-trans c.take_in.ensures.work c.gather.ensures.work)

-- ---- one row that is read

pub obtain-returns-then-take_published-clause-work : goal.obtain-returns-then-take_published-clause-work
obtain-returns-then-take_published-clause-work g t c = c.take_published.ensures.work c.args.u

pub obtain-ensure-requires : goal.obtain-ensure-requires
obtain-ensure-requires g t c = λ κs outlives. (
  omega (arith, c.decreases),
  (
    outlives.0,
    (
      outlives.1,
      (
        search rules,
        (
          (c.take_published.ensures.work c.args.u).ready,
          (
            c.requires.member,
            beyond-still c.args.u c.args.seat.now c.take_published.new.seat
                (c.take_published.ensures.work c.args.u).kept.held c.requires.order,
          ),
        ),
      ),
    ),
  ),
)

pub obtain-returns-in_err-ensure-clause-work : goal.obtain-returns-in_err-ensure-clause-work
obtain-returns-in_err-ensure-clause-work g t c = work-trans (c.take_published.ensures.work c.args.u) c.ensure.ensures.work

pub obtain-returns-clause-work : goal.obtain-returns-clause-work
obtain-returns-clause-work g t c =
    let made = work-trans (c.take_published.ensures.work c.args.u) c.ensure.ensures.work
    in record { ready = c.read_row.ensures.ready; kept = made.kept; rows = λ j on. c.read_row.ensures.rows j (made.rows j on) }

pub take_in-returns-then-i-eq0-clause-needs : goal.take_in-returns-then-i-eq0-clause-needs
take_in-returns-then-i-eq0-clause-needs g t c =
    let none : c.args.i ≡ 0 = omega arith
    in rw none (identity-needs c.args.self.now.context.now c.len-len.ensures.admissible c.len-len.ensures.closed
    (IsRead c.args.scratch.now.rows))

-- ---- the shorter element

pub take_in-obtain-requires : goal.take_in-obtain-requires
take_in-obtain-requires g t c = λ κs outlives.
    let e = c.args.self.now.context.now in
    let less = lower-before e c.len-len.ensures.admissible c.len-len.ensures.closed c.of-descent.result c.of-descent.ensures.descent
    in (
      omega (arith, less, c.of-descent.ensures.number, c.decreases),
      (
        outlives.0,
        (
          outlives.1,
          (
            search rules,
            (
              c.requires.ready,
              (
                c.of-descent.ensures.descent.lower_within,
                from-beyond c.args.i c.of-descent.result.lower c.args.seat.now c.args.seat.now
                    (omega (arith, less, c.of-descent.ensures.number)) refl c.requires.order,
              ),
            ),
          ),
        ),
      ),
    )

pub take_in-returns-in_err-obtain-clause-work : goal.take_in-returns-in_err-obtain-clause-work
take_in-returns-in_err-obtain-clause-work g t c =
    let e = c.args.self.now.context.now in
    let needed = lower-needed_at e c.len-len.ensures.admissible c.len-len.ensures.closed c.of-descent.result c.of-descent.ensures.descent
    c.of-descent.ensures.number
    in work-needed c.len-len.ensures.admissible needed c.obtain.ensures.work

pub take_in-returns-in_err-corrections-clause-work : goal.take_in-returns-in_err-corrections-clause-work
take_in-returns-in_err-corrections-clause-work g t c =
    let e = c.args.self.now.context.now in
    let needed = lower-needed_at e c.len-len.ensures.admissible c.len-len.ensures.closed c.of-descent.result c.of-descent.ensures.descent
    c.of-descent.ensures.number
    in work-list c.corrections_of.new.kept (work-needed c.len-len.ensures.admissible needed c.obtain.ensures.work)

pub take_in-returns-in_err-obtain-clause-missing : goal.take_in-returns-in_err-obtain-clause-missing
take_in-returns-in_err-obtain-clause-missing g t c =
    let e = c.args.self.now.context.now in
    let limit = limit_of c.args.self.now.store.now in
    let needed = lower-needed_at e c.len-len.ensures.admissible c.len-len.ensures.closed c.of-descent.result c.of-descent.ensures.descent
    c.of-descent.ensures.number
    in let why : IfErr c.from_residual.result (IsRowMissing e limit c.of-descent.result.lower c.args.seat.now c.obtain.new.seat) = search
    rules
    in unmade_by-needed e c.len-len.ensures.admissible limit c.args.i c.of-descent.result.lower c.args.seat.now c.args.seat.now
    c.obtain.new.seat
    c.from_residual.result needed refl why

pub take_in-returns-in_err-corrections-clause-missing : goal.take_in-returns-in_err-corrections-clause-missing
take_in-returns-in_err-corrections-clause-missing g t c =
    unmade_err c.args.self.now.context.now (limit_of c.args.self.now.store.now) c.args.i c.args.seat.now c.obtain.new.seat
    c.from_residual-in_err-corrections.result c.from_residual-in_err-corrections.ensures.1

-- ---- the corrections

pub take_in-obtain-requires-in-corrections : goal.take_in-obtain-requires-in-corrections
take_in-obtain-requires-in-corrections g t c = λ κs outlives.
    let before = correction-before_at _
    c.len-len.ensures.admissible c.len-len.ensures.closed c.of-descent.result c.of-descent.ensures.descent c.of-descent.ensures.number
    c.deref-u-items.ensures.value c.in_ok-corrections.ensures c.corrections-test.true in
    let needed = correction-needed_at _
    c.len-len.ensures.admissible c.len-len.ensures.closed c.of-descent.result c.of-descent.ensures.descent c.of-descent.ensures.number
    c.deref-u-items.ensures.value c.in_ok-corrections.ensures c.corrections-test.true
    in (
      omega (arith, before, c.decreases),
      (
        outlives.0,
        (
          outlives.1,
          (
            search rules,
            (
              c.corrections.invariant.work.ready,
              (
                needed.within,
                from-beyond c.args.i (number_at c.deref-u-items.result.now c.corrections.u-index) c.args.seat.now c.corrections.seat before
                    c.corrections.invariant.work.kept.held c.requires.order,
              ),
            ),
          ),
        ),
      ),
    )

pub take_in-corrections-init : goal.take_in-corrections-init
take_in-corrections-init g t c =
    let e = c.args.self.now.context.now in
    let needed = lower-needed_at e c.len-len.ensures.admissible c.len-len.ensures.closed c.of-descent.result c.of-descent.ensures.descent
    c.of-descent.ensures.number
    in record {
      work = work-list c.corrections_of.new.kept (work-needed c.len-len.ensures.admissible needed c.obtain.ensures.work);
      none = c.in_ok-obtain.ensures.here.1;
      stay = λ j on. on;
      taken = below_none (λ k. IsRead c.obtain.new.scratch.rows (number_at c.deref-u-items.result.now k));
    }

pub take_in-returns-in_err-obtain-2-clause-work : goal.take_in-returns-in_err-obtain-2-clause-work
take_in-returns-in_err-obtain-2-clause-work g t c =
    let needed = correction-needed_at _
    c.len-len.ensures.admissible c.len-len.ensures.closed c.of-descent.result c.of-descent.ensures.descent c.of-descent.ensures.number
    c.deref-u-items.ensures.value c.in_ok-corrections.ensures c.corrections-test.true
    in work-trans {worker = c.args.self.now} {i = c.args.i} c.corrections.invariant.work
    (work-needed {worker = c.args.self.now} {i = c.args.i} c.len-len.ensures.admissible needed c.obtain-in-corrections.ensures.work)

pub take_in-corrections-preserved : goal.take_in-corrections-preserved
take_in-corrections-preserved g t c =
    let items = c.deref-u-items.result.now in
    let needed = correction-needed_at _
    c.len-len.ensures.admissible c.len-len.ensures.closed c.of-descent.result c.of-descent.ensures.descent c.of-descent.ensures.number
    c.deref-u-items.ensures.value c.in_ok-corrections.ensures c.corrections-test.true
    in let more = work-needed {worker = c.args.self.now} {i = c.args.i} c.len-len.ensures.admissible needed
    c.obtain-in-corrections.ensures.work
    in record {
      work = work-trans {worker = c.args.self.now} {i = c.args.i} c.corrections.invariant.work more;
      none = c.in_ok-obtain-2.ensures.here.1 ∙ c.corrections.invariant.none;
      stay = λ j on. more.rows j (c.corrections.invariant.stay j on);
      taken = λ k l. ⊎_elim (λ (less : k < c.corrections.u-index). more.rows (number_at items k) (c.corrections.invariant.taken k less))
          (λ (past : c.corrections.u-index ≤ k).
          let last : c.corrections.u-index ≡ k = omega (arith, l, past)
          in subst (λ n. IsRead c.obtain-in-corrections.new.scratch.rows (number_at items n)) last c.in_ok-obtain-2.ensures.here.0)
          (cases_lt k c.corrections.u-index);
    }

pub take_in-returns-in_err-obtain-2-clause-missing : goal.take_in-returns-in_err-obtain-2-clause-missing
take_in-returns-in_err-obtain-2-clause-missing g t c =
    let limit = limit_of c.args.self.now.store.now in
    let e = c.args.self.now.context.now in
    let u = number_at c.deref-u-items.result.now c.corrections.u-index in
    let needed = correction-needed_at _
    c.len-len.ensures.admissible c.len-len.ensures.closed c.of-descent.result c.of-descent.ensures.descent c.of-descent.ensures.number
    c.deref-u-items.ensures.value c.in_ok-corrections.ensures c.corrections-test.true
    in let why : IfErr c.from_residual-in_err-obtain-2.result (IsRowMissing e limit u c.corrections.seat c.obtain-in-corrections.new.seat) =
    search rules
    in unmade_by-needed e c.len-len.ensures.admissible limit c.args.i u c.args.seat.now c.corrections.seat c.obtain-in-corrections.new.seat
    c.from_residual-in_err-obtain-2.result needed c.corrections.invariant.none why

pub take_in-returns-clause-work : goal.take_in-returns-clause-work
take_in-returns-clause-work g t c = work-list _ c.corrections.invariant.work

pub take_in-returns-clause-needs : goal.take_in-returns-clause-needs
take_in-returns-clause-needs g t c =
    let e = c.args.self.now.context.now in
    let d = c.of-descent.result in
    let items = c.deref-u-items.result.now in
    let are : AreNeeds (integer_matrix e.matrix) e.members d.letter (word_at e.members d.member) items =
    rw c.deref-u-items.ensures.value c.in_ok-corrections.ensures in
    rw c.of-descent.ensures.number at
    (listed-needs e (IsRead c.corrections.scratch.rows) d items c.len-len.ensures.admissible c.len-len.ensures.closed
    c.of-descent.ensures.descent are
    (c.corrections.invariant.stay d.lower c.in_ok-obtain.ensures.here.0)
    (λ k l. c.corrections.invariant.taken k (omega (arith, l, c.corrections-test.false))))
