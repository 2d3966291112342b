-- One letter more.
use Rattle.std.proofs.Common.{◌+◌, ◌<◌, ◌++◌, ◌∷◌, [], refl, arith}
use Rattle.cox_base.specs.Matrix.{IsLetter}
use Rattle.cox_base.specs.IntegerMatrix.{integer_matrix}
use Rattle.cox_base.specs.ShortLex.{normal_form}
use Rattle.cox_base.specs.declared.limits.TheConstants.{MAX_RANK}
use Rattle.cox_context.specs.declared.shifts.TheConstants.{NO_MEMBER}
use Rattle.cox_context.specs.Numbers.{word_at}
use Rattle.cox_context.specs.Numbering.{IsNumberOf}
use Rattle.cox_context.proofs.ShiftRows.{entries-start, entries-skip, entries-set}
use Rattle.cox_context.proofs.right_shifts.last_right_shifts.Goals as goal
use Rattle.cox_context.proofs.right_shifts.last_right_shifts.Goals.{in-Some, in_default}

pub loop-s-init : goal.loop-s-init
loop-s-init c = entries-start c.args.shifts.now.matrix.rank
    (λ q x. IsNumberOf c.args.shifts.now.members (normal_form (integer_matrix c.args.shifts.now.matrix)
    (word_at c.args.shifts.now.members c.args.i ++ q ∷ [])) x) MAX_RANK (omega (arith, c.rank.ensures.rank, c.rank.ensures.limit))

pub loop-s-preserved : goal.loop-s-preserved
loop-s-preserved c =
    elim c.match-last_right_shift.branch [
      | in-Some w ↦
          let found = rw w.in-Some.is at c.last_right_shift.ensures
          in let l : IsLetter c.args.shifts.now.matrix.rank c.loop-s.s = record {
            from_one = c.loop-s.auto.s;
            to_rank = omega (arith, c.rank.ensures.rank);
          }
          in let small : w.in-Some.k < NO_MEMBER = omega (arith, found.0, c.rank.ensures.closed.few)
          in rw w.row-is (entries-set c.args.shifts.now.matrix.rank
          (λ q x. IsNumberOf c.args.shifts.now.members (normal_form (integer_matrix c.args.shifts.now.matrix)
          (word_at c.args.shifts.now.members c.args.i ++ q ∷ [])) x)
          c.loop-s.s (c.loop-s.s + 1) w.in-Some.k c.loop-s.row refl l c.loop-s.invariant small found)
      | in_default w ↦
          let none = rw w.in_default.is at c.last_right_shift.ensures
          in rw w.row-is (entries-skip c.args.shifts.now.matrix.rank
          (λ q x. IsNumberOf c.args.shifts.now.members (normal_form (integer_matrix c.args.shifts.now.matrix)
          (word_at c.args.shifts.now.members c.args.i ++ q ∷ [])) x)
          c.loop-s.s (c.loop-s.s + 1) c.loop-s.row refl c.loop-s.invariant none)
    ]

pub returns-clause-size : goal.returns-clause-size
returns-clause-size c = c.loop-s.invariant.size

pub returns-clause-each : goal.returns-clause-each
returns-clause-each c = λ s l. c.loop-s.invariant.each s l (omega (arith, l.to_rank, c.rank.ensures.rank, c.loop-s-test.false))
