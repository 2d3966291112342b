-- The proof of `read_rank`.
use Rattle.std.proofs.Common.{arith, ◌∙◌, sym}
use Rattle.std.proofs.lemmas.Fmt.{decimal_injective}
use Rattle.cox_cert.proofs.matrix_reading.read_rank.Goals as goal

pub returns-else-rank-le-MAX_RANK : goal.returns-else-rank-le-MAX_RANK
returns-else-rank-le-MAX_RANK c = λ n some limit same.
    let read = c.in_ok-rank.ensures {u = tt} in
    let e = decimal_injective n c.in_ok-rank.field-0 (omega arith) (omega (arith, read.1)) (same ∙ sym read.2) in
    omega arith
