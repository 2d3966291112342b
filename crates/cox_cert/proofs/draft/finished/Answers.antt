-- Lines before the last are no whole certificate's.
use Rattle.cox_cert.proofs.NextLines.{few-start, few-matrix, few-head, few-entries}
use Rattle.cox_cert.proofs.draft.finished.Goals as goal

pub returns-in-Start : goal.returns-in-Start
returns-in-Start c = λ lines h. few-start lines (rw c.in-Start.is at h)

pub returns-in-Matrix : goal.returns-in-Matrix
returns-in-Matrix c = λ lines h. few-matrix _ lines (rw c.in-Matrix.is at h)

pub returns-in-Top : goal.returns-in-Top
returns-in-Top c = λ lines h. few-head _ _ lines (rw c.in-Top.is at h)

pub returns : goal.returns
returns c = λ lines h. few-entries _ lines (rw c.in-Entries.is at h)
