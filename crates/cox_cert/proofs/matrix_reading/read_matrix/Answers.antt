-- The proof of `read_matrix`.
use Rattle.std.proofs.Common.{◌-◌, ◌*◌, ◌/◌, IsTrue, sym, ap, subst, ◌∙◌}
use Rattle.std.specs.List.{All}
use Rattle.cox_base.specs.Matrix.{is_label}
use Rattle.cox_cert.proofs.MatrixLines.{matrix_line-parts, labels-digits, labels_text-one, rank-read, no_bad_label}
use Rattle.cox_cert.proofs.matrix_reading.read_matrix.Goals as goal

pub returns-in_err-rank-clause-none : goal.returns-in_err-rank-clause-none
returns-in_err-rank-clause-none c =
    rw c.from_residual-in_err-rank.ensures (λ g is limit same.
    let parts = matrix_line-parts c.args.line.now c.in_ok-behind.field-0.now c.cut.result.0.now c.cut.result.1.now g
    (c.in_ok-behind.ensures {u = tt}) c.cut.ensures.front c.cut.ensures.back limit same in
    c.in_err-rank.ensures {u = tt} g.rank is.some limit parts.front)

pub returns-in_err-labels-clause-none : goal.returns-in_err-labels-clause-none
returns-in_err-labels-clause-none c =
    rw c.from_residual-in_err-labels.ensures (λ g is limit same.
    let parts = matrix_line-parts c.args.line.now c.in_ok-behind.field-0.now c.cut.result.0.now c.cut.result.1.now g
    (c.in_ok-behind.ensures {u = tt}) c.cut.ensures.front c.cut.ensures.back limit same in
    let read = c.in_ok-rank.ensures {u = tt} in
    let rank = rank-read g c.in_ok-rank.rank c.cut.result.0.now limit read.1 parts.front read.2 in
    c.in_err-labels.ensures {u = tt} g.labels (labels-digits g.labels is.admitted) (is.count ∙ ap (λ n. n * (n - 1) / 2) rank) parts.back)

pub returns-in-Err-clause-none : goal.returns-in-Err-clause-none
returns-in-Err-clause-none c = λ g is limit same.
    let parts = matrix_line-parts c.args.line.now c.in_ok-behind.field-0.now c.cut.result.0.now c.cut.result.1.now g
    (c.in_ok-behind.ensures {u = tt}) c.cut.ensures.front c.cut.ensures.back limit same in
    let read = c.in_ok-labels.ensures {u = tt} in
    let labels = labels_text-one g.labels c.in_ok-labels.labels.items (labels-digits g.labels is.admitted) read.0
    (parts.back ∙ sym read.2) in
    no_bad_label c.as_slice.result.now _ _ (c.in-Err.ensures {u = tt}).fault
    (subst (All (λ m. IsTrue (is_label m))) (labels ∙ sym c.as_slice.ensures.value) is.admitted)
