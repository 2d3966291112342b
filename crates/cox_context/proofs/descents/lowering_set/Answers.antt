-- A bit is set exactly where the shift goes to a member before.
use Rattle.std.proofs.Common.{◌≡◌, ◌+◌, ◌-◌, refl, ap, sym, ◌∙◌, arith}
use Rattle.cox_context.specs.Shifts.{entry}
use Rattle.cox_context.specs.Sets.{is_lower}
use Rattle.cox_context.proofs.LetterSets.{set-start, set-skip, set-add, bit-shifted}
use Rattle.cox_context.proofs.descents.lowering_set.Goals as goal
use Rattle.cox_context.proofs.descents.lowering_set.Goals.{then-is_lower, else-is_lower}

pub loop-s-init : goal.loop-s-init
loop-s-init c = set-start c.args.rank c.args.table.now c.args.i

pub loop-s-preserved : goal.loop-s-preserved
loop-s-preserved c =
    let is : is_lower c.args.i (entry c.args.rank c.args.table.now c.loop-s.s c.args.i) ≡ c.is_lower.result =
    sym (c.is_lower.ensures ∙ ap (is_lower c.args.i) c.entry.ensures)
    in elim c.if-is_lower.branch [
      | then-is_lower w ↦
          rw (w.set-is, bit-shifted (c.loop-s.s - 1) (omega (arith, c.loop-s-test.true, c.requires.limit, c.loop-s.auto.s))) (set-add
          c.args.rank c.args.table.now c.args.i c.loop-s.s (c.loop-s.s + 1) c.loop-s.set refl c.loop-s.auto.s
          c.loop-s.invariant (is ∙ w.if-is_lower.true))
      | else-is_lower w ↦
          rw w.set-is (set-skip c.args.rank c.args.table.now c.args.i c.loop-s.s (c.loop-s.s + 1) c.loop-s.set refl
          c.loop-s.invariant (is ∙ w.if-is_lower.false))
    ]
