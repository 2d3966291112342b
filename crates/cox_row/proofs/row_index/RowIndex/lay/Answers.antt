-- There are no more extremal members than members.
use Rattle.std.proofs.Common.{arith}
use Rattle.std.specs.Arc.{arc_value}
use Rattle.cox_row.proofs.RisingNumbers.{rising-few}
use Rattle.cox_row.proofs.row_index.RowIndex.lay.Goals as goal

pub put_places-requires-clause-few : goal.put_places-requires-clause-few
put_places-requires-clause-few c =
    let extremal = c.requires.row.values.extremal
    in let few = rising-few _ (arc_value c.args.row.now.values).extremal.items extremal.rising extremal.within
    in rw (c.deref.ensures.value, c.values.ensures) (omega (arith, few, c.len-len.ensures.closed.few))

pub put_places-requires-clause-within : goal.put_places-requires-clause-within
put_places-requires-clause-within c = rw (c.deref_mut.ensures.value, c.deref.ensures.value, c.values.ensures) (λ k l.
    let less = c.requires.row.values.extremal.within k l
    in omega (arith, less, c.len.ensures.len, c.in_ok-make_room.ensures {u = tt}))
