-- What the loop of `put_labels` keeps.
use Rattle.std.proofs.Common.{◌≡◌, ◌++◌, take}
use Rattle.cox_certtext.specs.CertificateParts.{labels_text}
use Rattle.cox_certtext.proofs.LabelOrder.{IsPair}
use Rattle.cox_certtext.proofs.printing.put_labels.Given as goal

abbrev pub invariant-loop-k : goal.invariant-loop-k
invariant-loop-k l = IsPair l.g.rank l._k l.s l.t × (l.out.items ≡ l.initial.out.items ++ labels_text (take l._k l.g.labels))
