-- What a guard shows is the row of the member with its number.
use Rattle.std.proofs.Common.{sym}
use Rattle.std.proofs.lemmas.Bool.{ltb-true}
use Rattle.cox_workers.proofs.Guards.{guarded_row, found_at}
use Rattle.cox_workers.proofs.read_rows.ReadRows.get.Goals as goal

pub returns-in-Some-Some-clause-row : goal.returns-in-Some-Some-clause-row
returns-in-Some-Some-clause-row c =
    let rows = c.args.self.now in
    guarded_row rows.context.value rows.limit c.args.member c.in-Some-Some.guard c.row.result.now
    (rows.guarded c.args.member c.in-Some-Some.guard
    (found_at rows.guards.items c.deref.result.now c.args.member c.in-Some-Some.field-0.now c.in-Some-Some.guard c.deref.ensures.value
    (ltb-true _ _ (sym c.in-Some-Some.ensures.lookup.0)) c.in-Some-Some.ensures.lookup.1 c.in-Some-Some.field-0-is)) c.row.ensures
