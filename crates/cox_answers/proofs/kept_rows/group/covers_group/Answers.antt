-- The proof of `covers_group`.
use Rattle.std.proofs.Common.{◌≡◌, arith, refl, ⊎_elim}
use Rattle.std.proofs.lemmas.Bool.{cases_eq}
use Rattle.cox_answers.proofs.kept_rows.group.covers_group.Goals as goal

pub loop-i-preserved : goal.loop-i-preserved
loop-i-preserved c = λ k below s letter. ⊎_elim
    (λ (same : k ≡ c.loop-i.i). rw same (c.has_shifts.ensures.0 c.if-not-has_shifts.false s letter))
    (λ (other : k ≡ c.loop-i.i → ⊥). c.loop-i.invariant k (omega (arith, below, other)) s letter)
    (cases_eq k c.loop-i.i)

pub returns : goal.returns
returns c = (
  λ done i within. c.loop-i.invariant i (omega (arith, within, c.len-i-end.ensures.len, c.loop-i-test.false)),
  λ all. refl,
)
