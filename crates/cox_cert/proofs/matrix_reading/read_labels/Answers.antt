-- The proof of `read_labels`.
use Rattle.std.proofs.Common.{ℕ, ◌<◌, sym, ap, subst, ◌∙◌, length, get_or, arith}
use Rattle.std.specs.Char.{is_ascii_digit}
use Rattle.std.proofs.lemmas.Bool.{false≢true}
use Rattle.std.proofs.lemmas.List.Elements.{All-get_or, All-push}
use Rattle.cox_polyread.proofs.ReadNumerals.{is_digit}
use Rattle.cox_certtext.specs.CertificateParts.{labels_text}
use Rattle.cox_cert.specs.LineReading.{AreDigits}
use Rattle.cox_cert.proofs.MatrixLines.{HasLabel, length-labels_text, labels_text-at, labels_text-push}
use Rattle.cox_cert.proofs.matrix_reading.read_labels.Goals as goal
use Rattle.cox_cert.proofs.matrix_reading.read_labels.Goals.{then-space-ne32-via-then-space-ne32}
use Rattle.cox_cert.proofs.matrix_reading.read_labels.Goals.{then-space-ne32-via-else-space-ne32+then-not-is_ascii_digit}

pub returns-then-text-count : goal.returns-then-text-count
returns-then-text-count c = λ labels small count same.
    c.if-text-count.true (omega (arith, ap (length {A = ℕ}) same, length-labels_text labels small, count))

pub returns-then-space-ne32 : goal.returns-then-space-ne32
returns-then-space-ne32 c = λ labels small count same.
    let within : c.loop-k.k < length labels = omega arith in
    let label = get_or labels c.loop-k.k 0 in
    let has = subst (λ text. HasLabel text c.loop-k.k label) same (labels_text-at labels c.loop-k.k small within) in
    let digit = All-get_or (λ m. m < 10) labels c.loop-k.k 0 within small in
    elim c.then-space-ne32.branch [
      | then-space-ne32-via-then-space-ne32 w ↦ w.if-space-ne32.true has.space
      | then-space-ne32-via-else-space-ne32+then-not-is_ascii_digit w ↦
          false≢true ((w.if-not-is_ascii_digit.ensures {u = tt}).value ∙ ap is_ascii_digit has.digit ∙ is_digit label digit)
    ]

pub loop-k-preserved : goal.loop-k-preserved
loop-k-preserved c =
    let before = c.loop-k.invariant in
    let old = c.loop-k.labels.items in
    let pushed = c.push.ensures.items in
    let byte = (c.if-not-is_ascii_digit.ensures {u = tt}).cases in
    let label = c.from.ensures in
    let small : c.from.result < 10 = omega (arith, byte.1) in
    let has : HasLabel c.args.text.now c.loop-k.k c.from.result =
    record { space = c.if-space-ne32.false; digit = omega (arith, byte.0, label) } in
    record {
      digits = subst AreDigits (sym pushed) (All-push (λ m. m < 10) old c.from.result before.digits small);
      count = omega (arith, before.count, c.push.ensures.len);
      read = ap labels_text pushed ∙ labels_text-push c.args.text.now old c.loop-k.k c.from.result (omega arith) small has before.read;
    }
