-- The proof of `is_same_group`.
use Rattle.std.proofs.Common.{refl, sym, ◌∙◌, arith}
use Rattle.cox_answers.proofs.SameMatrices.{same_matrices}
use Rattle.cox_answers.proofs.likeness.is_same_group.Goals as goal

pub returns : goal.returns
returns c = (
  λ done. same_matrices c.args.one.now c.args.other.now c.rank-rank.ensures.matrix c.rank.ensures.matrix
      (sym c.rank.ensures.rank ∙ c.if-rank.false ∙ c.rank-rank.ensures.rank)
      (λ s t from_one rising to_rank. c.loop-s.invariant s t from_one
      (omega (arith, rising, to_rank, c.loop-s-test.false, c.rank-rank.ensures.rank)) rising to_rank),
  λ same. refl,
)
