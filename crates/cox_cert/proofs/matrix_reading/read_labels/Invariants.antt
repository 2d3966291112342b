-- What the loop of `read_labels` keeps.
use Rattle.std.proofs.Common.{◌≡◌, ◌*◌, length, take}
use Rattle.cox_certtext.specs.CertificateParts.{labels_text}
use Rattle.cox_cert.specs.LineReading.{AreDigits}
use Rattle.cox_cert.proofs.matrix_reading.read_labels.Given as goal

abbrev pub invariant-loop-k : goal.invariant-loop-k
invariant-loop-k l = record {
  digits : AreDigits l.labels.items;
  count : length l.labels.items ≡ l.k;
  read : labels_text l.labels.items ≡ take (2 * l.k) l.text;
}
