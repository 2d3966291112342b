-- The proof of `has_shifts`.
use Rattle.std.proofs.Common.{◌≡◌, arith, ⊎_elim}
use Rattle.std.proofs.lemmas.Bool.{cases_eq}
use Rattle.cox_context.proofs.NextChild.{found-contains}
use Rattle.cox_answers.proofs.kept_rows.group.has_shifts.Goals as goal

pub loop-s-preserved : goal.loop-s-preserved
loop-s-preserved c = λ t least below. ⊎_elim
    (λ (same : t ≡ c.loop-s.s). rw same (found-contains c.args.context.now.members _ c.left.result c.left.ensures
    (c.if-is_none.ensures {u = tt})))
    (λ (other : t ≡ c.loop-s.s → ⊥). c.loop-s.invariant t least (omega (arith, below, other)))
    (cases_eq t c.loop-s.s)
