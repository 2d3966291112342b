-- The sums that are left out are 0.
use Rattle.cox_poly.proofs.Polynomials.{coefficient-take}
use Rattle.cox_poly.proofs.Fingerprints.{fingerprint-same}
use Rattle.cox_poly.proofs.accumulator.Acc.fingerprint.Goals as goal

pub returns : goal.returns
returns c = rw (c.fingerprint.ensures, ← c.self.view_is) (fingerprint-same _ _
    (coefficient-take c.self.inside.sums c.self.inside.used c.self.invariant.1))
