-- A line that is too long, or has a foreign byte, is no certificate's.
use Rattle.cox_cert.proofs.Collections.{foreign-long, foreign-byte}
use Rattle.cox_cert.proofs.collecting.take_next.Goals as goal

pub returns-in-Long-clause-steps : goal.returns-in-Long-clause-steps
returns-in-Long-clause-steps g c =
    let reads = rw (c.in-Long.is, c.requires) at c.next.follows.holds-at-none in
    foreign-long _ _ _ _ _ reads.1 reads.2.1

pub returns-in-Byte-clause-steps : goal.returns-in-Byte-clause-steps
returns-in-Byte-clause-steps g c =
    let reads = rw (c.in-Byte.is, c.requires) at c.next.follows.holds-at-none in
    foreign-byte _ _ _ _ _ _ reads.1 reads.2.1
