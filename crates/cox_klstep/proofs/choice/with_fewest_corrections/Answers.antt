-- A descent is a letter, and each letter is tried on both sides.
use Rattle.std.proofs.Common.{◌≡◌, ℕ, ◌+◌, ◌<◌, ◌≤◌, ⊎_elim, arith}
use Rattle.std.proofs.lemmas.Bool.{cases_lt}
use Rattle.cox_base.specs.declared.side.Side.{Side}
use Rattle.cox_base.specs.declared.side.Side.TheVariants.{Left, Right}
use Rattle.cox_base.specs.IntegerMatrix.{integer_matrix}
use Rattle.cox_context.specs.Closed.{Elements}
use Rattle.cox_context.specs.Numbers.{word_at}
use Rattle.cox_row_symmetry.proofs.DescentsOnSides.{lowered-letter}
use Rattle.cox_klstep.specs.ChoiceOf.{HasNoFewer}
use Rattle.cox_klstep.proofs.choice.with_fewest_corrections.Goals as goal

-- one letter, on both sides
module _ (e : Elements) (holds : ℕ → Type 0) (i old m n s : ℕ) (first : m ≤ old) (second : n ≤ m)
    (left : HasNoFewer e holds i m Left s) (right : HasNoFewer e holds i n Right s) where
  last : (side : Side) → HasNoFewer e holds i n side s
  last Left h list are = let few = left h list are in omega (arith, few, second)
  last Right h list are = right h list are

  more : ((side : Side) (t : ℕ) → t < s → HasNoFewer e holds i old side t) → (side : Side) (t : ℕ) → t < s + 1
      → HasNoFewer e holds i n side t
  more before side t l h list are = ⊎_elim
      (λ (less : t < s). let few = before side t less h list are in omega (arith, few, first, second))
      (λ (past : s ≤ t). let is : t ≡ s = omega (arith, l, past) in last side (rw is at h) list (rw is at are))
      (cases_lt t s)

pub loop-s-init : goal.loop-s-init
loop-s-init g c = record {
  choice = c.requires.start;
  fewest = λ side t l h.
      let letter = lowered-letter side (integer_matrix c.args.ctx.now.matrix) c.len-len.ensures.admissible t
      (word_at c.args.ctx.now.members c.args.start.now.descent.member) h.descent
      in absurd (omega (arith, l, letter.from_one));
}

pub loop-s-preserved : goal.loop-s-preserved
loop-s-preserved g c = record {
  choice = c.with_fewer_corrections-best-in-loop-s.ensures.choice;
  fewest = more c.args.ctx.now (g.L.LowerRows.holds c.args.lower.now) c.args.start.now.descent.member c.loop-s.best.corrections
      c.with_fewer_corrections-best.result.corrections c.with_fewer_corrections-best-in-loop-s.result.corrections c.loop-s.s
      c.with_fewer_corrections-best.ensures.no_more c.with_fewer_corrections-best-in-loop-s.ensures.no_more
      c.with_fewer_corrections-best.ensures.fewest c.with_fewer_corrections-best-in-loop-s.ensures.fewest
      c.loop-s.invariant.fewest;
}

pub returns-clause-fewest : goal.returns-clause-fewest
returns-clause-fewest g c = λ side t h.
    let letter = lowered-letter side (integer_matrix c.args.ctx.now.matrix) c.len-len.ensures.admissible t
    (word_at c.args.ctx.now.members c.args.start.now.descent.member) h.descent
    in let rank = rw c.matrix.ensures at c.rank-rank.ensures.rank
    in c.loop-s.invariant.fewest side t (omega (arith, letter.to_rank, rank, c.loop-s-test.false)) h
