-- One row more is put at its place, or there was none.
use Rattle.std.proofs.Common.{sym, ◌∙◌}
use Rattle.cox_rows.proofs.JoinedRows.{put-gap, put-some}
use Rattle.cox_rows.proofs.held.with_rows.Goals.{in-Some, in_default}
use Rattle.cox_rows.proofs.held.with_rows.Goals as goal

pub places-preserved : goal.places-preserved
places-preserved c = elim c.match-take_at.branch [
  | in-Some w ↦ rw w.all-is (put-some c.args.rows.items c.args.more.items c.places.i c.places.all.items c.places.more.items
      c.take_at.new.rows.items c.places.invariant c.take_at.ensures.others w.set_at.new.rows.items w.in-Some.row
      (sym c.take_at.ensures.taken ∙ w.in-Some.is) w.set_at.ensures.at w.set_at.ensures.others w.set_at.ensures.count)
  | in_default w ↦ rw w.all-is (put-gap c.args.rows.items c.args.more.items c.places.i c.places.all.items c.places.more.items
      c.take_at.new.rows.items c.places.invariant c.take_at.ensures.others (sym c.take_at.ensures.taken ∙ w.in_default.is))
]
