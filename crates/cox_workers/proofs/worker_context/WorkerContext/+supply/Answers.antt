-- The worker's steps.
use Rattle.std.proofs.Common.{rules, Some, arith, ◌∙◌}
use Rattle.cox_row_symmetry.proofs.LowerMembers.{lower-before}
use Rattle.cox_claims.specs.Seats.{HasSeenClaimed, HasSeenEnd}
use Rattle.cox_workers.specs.SeatChanges.{IsNeededAt}
use Rattle.cox_workers.proofs.Growing.{claimed-looked, claimed-still, fresh-claimed, fresh-before}
use Rattle.cox_workers.proofs.SeatSteps.{kept-refl}
use Rattle.cox_workers.proofs.Working.{work-trans, work-same, work-again, work-lower, work-needed, work-list, option_or-both}
use Rattle.cox_workers.proofs.NeedsByNumber.{correction-needed_at, correction-before_at}
use Rattle.cox_workers.proofs.worker_context.WorkerContext.+supply.Goals as goal

pub provide-returns-in-Claimed-clause-work : goal.provide-returns-in-Claimed-clause-work
provide-returns-in-Claimed-clause-work g t c =
    work-trans (work-same c.requires.ready c.look.ensures.own (c.look.ensures.kept c.args.u)) c.supply.ensures.work

pub provide-returns-in-Claimed-clause-claimed : goal.provide-returns-in-Claimed-clause-claimed
provide-returns-in-Claimed-clause-claimed g t c =
    rw c.or.ensures (option_or-both _ c.supply.result (Some c.args.u) c.supply.ensures.claimed c.requires.member)

pub provide-returns-in-Claimed-clause-seen : goal.provide-returns-in-Claimed-clause-seen
provide-returns-in-Claimed-clause-seen g t c =
    rw c.or.ensures (option_or-both (HasSeenClaimed c.supply.new.seat) c.supply.result (Some c.args.u) c.supply.ensures.seen
    (c.supply.ensures.work.kept.seen.claimed c.args.u
    (claimed-looked c.args.seat.now c.look.new.seat c.args.u c.in-Claimed.ensures.step.after)))

pub provide-returns-in-Claimed-clause-fresh : goal.provide-returns-in-Claimed-clause-fresh
provide-returns-in-Claimed-clause-fresh g t c =
    rw c.or.ensures (option_or-both (λ j. ¬ HasSeenEnd c.args.seat.now j) c.supply.result (Some c.args.u)
    (fresh-before c.args.seat.now c.look.new.seat (c.look.ensures.kept c.args.u).seen c.supply.result c.supply.ensures.fresh)
    (fresh-claimed c.args.seat.now c.args.u c.in-Claimed.ensures.step.known))

pub provide-returns-in_default-clause-work : goal.provide-returns-in_default-clause-work
provide-returns-in_default-clause-work g t c = work-same c.requires.ready c.look.ensures.own (c.look.ensures.kept c.args.u)

pub provide-returns-then-is_some-clause-work : goal.provide-returns-then-is_some-clause-work
provide-returns-then-is_some-clause-work g t c =
    work-trans (work-same c.requires.ready c.look.ensures.own (c.look.ensures.kept c.args.u)) c.supply-claimed.ensures.work

pub provide-returns-then-is_some-clause-fresh : goal.provide-returns-then-is_some-clause-fresh
provide-returns-then-is_some-clause-fresh g t c =
    fresh-before c.args.seat.now c.look.new.seat (c.look.ensures.kept c.args.u).seen c.supply-claimed.result c.supply-claimed.ensures.fresh

pub provide-returns-in-Free-look-clause-work : goal.provide-returns-in-Free-look-clause-work
provide-returns-in-Free-look-clause-work g t c = work-trans (work-again
    (work-trans (work-same c.requires.ready c.look.ensures.own (c.look.ensures.kept c.args.u)) c.supply-claimed.ensures.work)
    c.look-2.ensures.own (c.look-2.ensures.kept c.args.u))
    c.ensure.ensures.work

pub provide-returns-in-Claimed-look-clause-work : goal.provide-returns-in-Claimed-look-clause-work
provide-returns-in-Claimed-look-clause-work g t c = work-again
    (work-trans (work-same c.requires.ready c.look.ensures.own (c.look.ensures.kept c.args.u)) c.supply-claimed.ensures.work)
    c.look-2.ensures.own (c.look-2.ensures.kept c.args.u)

pub provide-returns-in-Claimed-look-clause-seen : goal.provide-returns-in-Claimed-look-clause-seen
provide-returns-in-Claimed-look-clause-seen g t c =
    claimed-looked c.supply-claimed.new.seat c.look-2.new.seat c.args.u c.in-Claimed-look.ensures.step.after

pub provide-returns-in-Claimed-look-clause-fresh : goal.provide-returns-in-Claimed-look-clause-fresh
provide-returns-in-Claimed-look-clause-fresh g t c =
    let before = (work-trans (work-same c.requires.ready c.look.ensures.own (c.look.ensures.kept c.args.u))
    c.supply-claimed.ensures.work).kept
    in fresh-before c.args.seat.now c.supply-claimed.new.seat before.seen (Some c.args.u)
    (fresh-claimed c.supply-claimed.new.seat c.args.u c.in-Claimed-look.ensures.step.known)

pub provide-returns-in_default-look-clause-work : goal.provide-returns-in_default-look-clause-work
provide-returns-in_default-look-clause-work g t c = work-again
    (work-trans (work-same c.requires.ready c.look.ensures.own (c.look.ensures.kept c.args.u)) c.supply-claimed.ensures.work)
    c.look-2.ensures.own (c.look-2.ensures.kept c.args.u)

pub supply-returns-then-i-eq0-clause-work : goal.supply-returns-then-i-eq0-clause-work
supply-returns-then-i-eq0-clause-work g t c =
    work-same c.requires.ready c.requires.ready.own (kept-refl c.args.self.now.context.now c.args.i c.args.seat.now)

pub supply-provide-first-requires : goal.supply-provide-first-requires
supply-provide-first-requires g t c =
    λ κs outlives.
    let e = c.args.self.now.context.now in
    let less = lower-before e c.len-len.ensures.admissible c.len-len.ensures.closed c.of-descent.result c.of-descent.ensures.descent
    in (
      omega (arith, less, c.of-descent.ensures.number, c.decreases),
      (outlives.0, (outlives.1, (search rules, (c.requires.ready, (c.of-descent.ensures.descent.lower_within, c.requires.idle))))),
    )

pub supply-returns-then-is_some-clause-work : goal.supply-returns-then-is_some-clause-work
supply-returns-then-is_some-clause-work g t c =
    work-lower c.len-len.ensures.admissible c.len-len.ensures.closed c.of-descent.result c.of-descent.ensures.descent
    c.of-descent.ensures.number c.provide-first.ensures.work

pub supply-returns-then-not-take_published-clause-work : goal.supply-returns-then-not-take_published-clause-work
supply-returns-then-not-take_published-clause-work g t c =
    work-trans
    (work-lower c.len-len.ensures.admissible c.len-len.ensures.closed c.of-descent.result c.of-descent.ensures.descent
    c.of-descent.ensures.number c.provide-first.ensures.work)
    (c.take_published.ensures.work c.args.i)

pub supply-corrections_of-requires-clause-rows : goal.supply-corrections_of-requires-clause-rows
supply-corrections_of-requires-clause-rows g t c = (c.take_published.ensures.work c.args.i).ready.rows

pub supply-returns-in_default-clause-work : goal.supply-returns-in_default-clause-work
supply-returns-in_default-clause-work g t c =
    work-list c.corrections_of.new.kept (work-trans
    (work-lower c.len-len.ensures.admissible c.len-len.ensures.closed c.of-descent.result c.of-descent.ensures.descent
    c.of-descent.ensures.number c.provide-first.ensures.work)
    (c.take_published.ensures.work c.args.i))

pub supply-corrections-init : goal.supply-corrections-init
supply-corrections-init g t c =
    record {
      work = work-list c.corrections_of.new.kept (work-trans
          (work-lower c.len-len.ensures.admissible c.len-len.ensures.closed c.of-descent.result c.of-descent.ensures.descent
          c.of-descent.ensures.number c.provide-first.ensures.work)
          (c.take_published.ensures.work c.args.i));
      claimed = tt;
      seen = tt;
      fresh = tt;
    }

pub supply-provide-requires : goal.supply-provide-requires
supply-provide-requires g t c =
    λ κs outlives.
    let found = c.rotated-u.ensures.some in
    let before = correction-before_at _
    c.len-len.ensures.admissible c.len-len.ensures.closed c.of-descent.result c.of-descent.ensures.descent c.of-descent.ensures.number
    c.as_slice.ensures.value c.in-Ok.ensures found.1 in
    let needed = correction-needed_at _
    c.len-len.ensures.admissible c.len-len.ensures.closed c.of-descent.result c.of-descent.ensures.descent c.of-descent.ensures.number
    c.as_slice.ensures.value c.in-Ok.ensures found.1
    in (
      omega (arith, before, found.2, c.decreases),
      (
        outlives.0,
        (
          outlives.1,
          (
            search rules,
            (
              c.corrections.invariant.work.ready,
              (rw found.2 needed.within, c.corrections.invariant.work.kept.held ∙ c.requires.idle),
            ),
          ),
        ),
      ),
    )

pub supply-corrections-preserved : goal.supply-corrections-preserved
supply-corrections-preserved g t c =
    let found = c.rotated-u.ensures.some in
    let needed : IsNeededAt c.args.self.now.context.now c.args.i c.rotated-u.result = rw found.2 (correction-needed_at _
    c.len-len.ensures.admissible c.len-len.ensures.closed c.of-descent.result c.of-descent.ensures.descent c.of-descent.ensures.number
    c.as_slice.ensures.value c.in-Ok.ensures found.1)
    in record {
      work = work-trans c.corrections.invariant.work (work-needed c.len-len.ensures.admissible needed c.provide.ensures.work);
      claimed = rw c.or-claimed.ensures
          (option_or-both _ c.provide.result c.corrections.claimed c.provide.ensures.claimed c.corrections.invariant.claimed);
      seen = rw c.or-claimed.ensures (option_or-both (HasSeenClaimed c.provide.new.seat) c.provide.result c.corrections.claimed
          c.provide.ensures.seen
          (claimed-still c.corrections.seat c.provide.new.seat c.provide.ensures.work.kept.seen c.corrections.claimed
          c.corrections.invariant.seen));
      fresh = rw c.or-claimed.ensures (option_or-both (λ j. ¬ HasSeenEnd c.args.seat.now j) c.provide.result c.corrections.claimed
          (fresh-before c.args.seat.now c.corrections.seat c.corrections.invariant.work.kept.seen c.provide.result c.provide.ensures.fresh)
          c.corrections.invariant.fresh);
    }

pub supply-returns-clause-work : goal.supply-returns-clause-work
supply-returns-clause-work g t c =
    work-list _ c.corrections.invariant.work
