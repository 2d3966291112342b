-- The entry of a member lies within the table.
use Rattle.std.proofs.Common.{◌<◌, length}
use Rattle.cox_base.specs.Matrix.{IsLetter}
use Rattle.cox_context.proofs.ShiftPlaces.{place-within}
use Rattle.cox_context.proofs.shifts.LeftShifts.shift.Goals as goal

pub entry-requires-clause-within : goal.entry-requires-clause-within
entry-requires-clause-within c =
    let letter : IsLetter c.self.inside.group.now.rank c.args.s = rw (← c.self.view_is) at c.requires.letter
    in let member : c.args.i < length c.self.inside.members.now = rw (← c.self.view_is) at c.requires.member
    in rw (c.rank.ensures.rank, c.self.invariant.shifts.size)
    (place-within c.self.inside.group.now.rank _ c.args.i c.args.s letter member)

pub returns : goal.returns
returns c =
    let letter : IsLetter c.self.inside.group.now.rank c.args.s = rw (← c.self.view_is) at c.requires.letter
    in let member : c.args.i < length c.self.inside.members.now = rw (← c.self.view_is) at c.requires.member
    in rw (← c.self.view_is, c.entry.ensures, c.rank.ensures.rank) (c.self.invariant.shifts.shift c.args.s c.args.i letter member)
