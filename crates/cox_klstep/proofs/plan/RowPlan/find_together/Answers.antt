-- The order of what is found does not matter.
use Rattle.std.proofs.Common.{arith}
use Rattle.std.proofs.lemmas.List.Sorted.{All-permutation}
use Rattle.cox_klstep.specs.FoundTogether.{IsFoundFor}
use Rattle.cox_klstep.proofs.plan.RowPlan.find_together.Goals as goal

pub is_dear-requires : goal.is_dear-requires
is_dear-requires g c = omega (arith, c.min-end.ensures, c.len.ensures)

pub returns : goal.returns
returns g c = All-permutation (λ found. IsFoundFor c.args.ctx.now c.args.self.now.step.member found.member found.polynomial)
    c.find_from-found.result.items c.sort_by_key.new.self.items c.sort_by_key.ensures.permutation c.find_from-found.ensures
