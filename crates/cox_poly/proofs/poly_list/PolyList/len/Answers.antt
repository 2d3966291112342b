-- Each polynomial has one end.
use Rattle.std.proofs.Common.{arith}
use Rattle.cox_poly.proofs.Stored.{pieces-length}
use Rattle.cox_poly.proofs.poly_list.PolyList.len.Goals as goal

pub returns : goal.returns
returns c = rw (← c.self.view_is) (omega (arith, c.len.ensures, pieces-length c.self.inside.coefficients.items c.self.inside.ends.items))
