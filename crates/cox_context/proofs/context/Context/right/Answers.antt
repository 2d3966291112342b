-- The entry of the table of right shifts.
use Rattle.std.proofs.Common.{◌<◌, length}
use Rattle.cox_base.specs.Matrix.{IsLetter}
use Rattle.cox_context.proofs.ShiftPlaces.{place-within}
use Rattle.cox_context.proofs.context.Context.right.Goals as goal

pub returns : goal.returns
returns c =
    let v = c.self.inside
    in let h = c.self.invariant.tables
    in let letter : IsLetter v.group.rank c.args.s = rw (← c.self.view_is) at c.requires.letter
    in let member : c.args.i < length v.listing.members = rw (← c.self.view_is) at c.requires.member
    in rw (← c.self.view_is, c.entry_by.ensures, c.rank.ensures.rank, c.as_slice-table.ensures.value)
    (h.right_shifts.shift c.args.s c.args.i letter member
    (rw h.right_size (place-within v.group.rank (length v.listing.members) c.args.i c.args.s letter member)))
