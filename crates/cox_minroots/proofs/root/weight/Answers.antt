-- One coordinate more.
use Rattle.std.proofs.Common.{rules, ℕ, ◌-◌, ◌*◌, ◌≤◌, refl, ap₂, arith}
use Rattle.cox_base.specs.IntegerMatrix.{integer_matrix}
use Rattle.cox_minroots.specs.Coordinates.{nat_sum_to}
use Rattle.cox_minroots.proofs.CoordinateLists.{nat_sum_to-next, nat_sum_to-bound, nat_sum_to-all}
use Rattle.cox_minroots.proofs.root.weight.Goals as goal

pub loop-t-init : goal.loop-t-init
unfolding nat_sum_to
loop-t-init c = (refl, omega arith)

pub loop-t-preserved : goal.loop-t-preserved
loop-t-preserved c =
    let coordinate : c.from.result ≤ 65535 = search rules
    in (
      nat_sum_to-next c.loop-t.t c.loop-t.sum c.size.result c.from.result _ c.loop-t.auto.t c.loop-t.invariant.0
          (ap₂ (λ (a b : ℕ). a * b) c.size.ensures.value c.from.ensures),
      nat_sum_to-bound c.loop-t.t c.loop-t.sum c.size.result c.from.result c.loop-t.auto.t c.loop-t.invariant.1
          c.size.ensures.small coordinate,
    )

pub returns-clause-value : goal.returns-clause-value
returns-clause-value c =
    nat_sum_to-all c.args.kind (integer_matrix c.args.g.now) c.args.s c.args.x.now (c.loop-t.t - 1) c.loop-t.sum
    (omega (arith, c.loop-t.auto.t-end (omega arith), c.loop-t-test.false, c.rank.ensures.rank)) c.loop-t.invariant.0
