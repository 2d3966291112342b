-- One letter more, and its entry at the shorter member.
use Rattle.std.proofs.Common.{◌+◌, ◌<◌, refl, sym, ◌∙◌, arith}
use Rattle.cox_base.specs.Matrix.{IsLetter}
use Rattle.cox_context.specs.declared.shifts.TheConstants.{NO_MEMBER}
use Rattle.cox_context.proofs.ShiftRows.{row-start, row-push, row-link, row-entry}
use Rattle.cox_context.proofs.builder.push_row.Goals as goal
use Rattle.cox_context.proofs.builder.push_row.Goals.{in-Some, in_default}

pub loop-t-init : goal.loop-t-init
loop-t-init c = record {
  pushed = row-start c.args.rank c.args.number c.args.lower.now c.args.table.now.items c.requires.size;
  room = omega (arith, c.requires.room);
}

pub loop-t-preserved : goal.loop-t-preserved
loop-t-preserved c =
    let l : IsLetter c.args.rank c.loop-t.t = record { from_one = c.loop-t.auto.t; to_rank = omega (arith, c.loop-t-test.true) }
    in let small : c.args.number < NO_MEMBER = omega (arith, c.requires.few)
    in elim c.match-shorter.branch [
      | in-Some w ↦
          rw (w.table-is, w.place.ensures, c.push_reserved.ensures.items) (record {
            pushed = row-link c.args.rank c.args.number c.args.lower.now c.args.table.now.items c.loop-t.table.items c.loop-t.t
                (c.loop-t.t + 1) refl l c.loop-t.invariant.pushed _ (row-entry c.args.rank c.args.lower.now c.loop-t.t)
                c.requires.below w.in-Some.k (sym c.entry-shorter.ensures ∙ w.in-Some.is) small;
            room = omega (arith, c.loop-t.invariant.room, c.push_reserved.ensures.len, c.push_reserved.ensures.capacity);
          })
      | in_default w ↦
          rw (w.table-is, c.push_reserved.ensures.items) (record {
            pushed = row-push c.args.rank c.args.number c.args.lower.now c.args.table.now.items c.loop-t.table.items c.loop-t.t
                (c.loop-t.t + 1) refl l c.loop-t.invariant.pushed _ (row-entry c.args.rank c.args.lower.now c.loop-t.t)
                c.requires.below (sym c.entry-shorter.ensures ∙ w.in_default.is);
            room = omega (arith, c.loop-t.invariant.room, c.push_reserved.ensures.len, c.push_reserved.ensures.capacity);
          })
    ]
