-- The fingerprint is that of the polynomial.
use Rattle.std.proofs.Common.{◌≡◌, sym, ◌∙◌}
use Rattle.cox_row_builder.specs.Prints.{print_of}
use Rattle.cox_row_builder.proofs.PoolPrints.{print-same, prints-pushed}
use Rattle.cox_row_builder.proofs.pool.Pool.push.Goals as goal

pub invariant_of-self-2 : goal.invariant_of-self-2
invariant_of-self-2 c =
    let same : c.args.print ≡ print_of c.view.result
    = c.requires.print ∙ sym (print-same c.view.result c.args.sums.now (rw c.view.ensures c.requires.sums))
    in rw (c.in_ok-push.ensures.items, c.truncate.ensures.items, c.len.ensures)
    (prints-pushed c.self.inside.polynomials c.self.inside.prints.items c.self.invariant c.args.print c.push-2.new.self c.view.result
    c.push-2.result same c.push-2.ensures.pushed c.push-2.ensures.kept)
