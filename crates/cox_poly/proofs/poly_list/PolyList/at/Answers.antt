-- The place is one of the list.
use Rattle.std.proofs.Common.{◌<◌, length, arith, sym}
use Rattle.cox_poly.proofs.Stored.{pieces-length, pieces-at}
use Rattle.cox_poly.proofs.poly_list.PolyList.at.Goals as goal

pub piece-requires-clause-place : goal.piece-requires-clause-place
piece-requires-clause-place c =
    let place : c.args.k < length c.args.self.now = c.requires in
    rw c.deref-2.ensures.value
    (omega (arith, rw (← c.self.view_is) at place, pieces-length c.self.inside.coefficients.items c.self.inside.ends.items))

pub of_trimmed-requires : goal.of_trimmed-requires
of_trimmed-requires c =
    let place : c.args.k < length c.args.self.now = c.requires in
    rw (c.piece.ensures, c.deref.ensures.value, c.deref-2.ensures.value) (c.self.invariant.each c.args.k
    (omega (arith, rw (← c.self.view_is) at place, pieces-length c.self.inside.coefficients.items c.self.inside.ends.items)))

pub returns : goal.returns
returns c =
    let place : c.args.k < length c.args.self.now = c.requires in
    rw (c.of_trimmed.ensures, c.piece.ensures, c.deref.ensures.value, c.deref-2.ensures.value, ← c.self.view_is)
    (sym (pieces-at c.self.inside.coefficients.items c.self.inside.ends.items c.args.k
    (omega (arith, rw (← c.self.view_is) at place, pieces-length c.self.inside.coefficients.items c.self.inside.ends.items))))
