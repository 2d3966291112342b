-- The proof of `read_count`.
use Rattle.std.proofs.Common.{arith, ◌∙◌, sym, codes, decimal}
use Rattle.std.proofs.lemmas.Fmt.{decimal_injective}
use Rattle.std.proofs.lemmas.List.{append_cancel_left}
use Rattle.cox_cert.proofs.reading.read_count.Goals as goal

pub returns-else-count-clause-none : goal.returns-else-count-clause-none
returns-else-count-clause-none c = λ n some few same.
    let line = c.in_ok-behind.ensures {u = tt} in
    let read = c.in_ok-count.ensures {u = tt} in
    let texts = append_cancel_left (codes "rows ") (decimal n) c.in_ok-behind.field-0.now (sym same ∙ line) in
    let e = decimal_injective n c.in_ok-count.count (omega arith) (omega (arith, read.1)) (texts ∙ sym read.2) in
    omega arith
