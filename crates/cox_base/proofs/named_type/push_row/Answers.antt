-- The proof of `push_row`.
use Rattle.std.proofs.Common.{◌+◌, ◌-◌, arith, lit<}
use Rattle.cox_base.specs.NamedType.{type_label}
use Rattle.cox_base.proofs.LabelRows.{length-with_row, with_row-more}
use Rattle.cox_base.proofs.named_type.push_row.Goals as goal

pub push-requires : goal.push-requires
push-requires c = (
  lit< tt,
  omega (
    arith,
    length-with_row c.args.labels.now.items c.loop-t.labels.items (type_label c.args.letter c.args.n c.args.s)
        (c.args.s + 1) (c.loop-t.t - (c.args.s + 1)) c.loop-t.invariant,
  ),
)

pub loop-t-preserved : goal.loop-t-preserved
loop-t-preserved c =
    with_row-more c.args.labels.now.items c.loop-t.labels.items _ (type_label c.args.letter c.args.n c.args.s)
    (c.args.s + 1) c.loop-t.t _ c.loop-t.invariant (omega arith) c.push.ensures.items c.label_of.ensures.label
