-- One letter more.
use Rattle.std.proofs.Common.{◌+◌, ◌<◌, ◌∷◌, refl, arith}
use Rattle.cox_base.specs.Matrix.{IsLetter}
use Rattle.cox_base.specs.IntegerMatrix.{integer_matrix}
use Rattle.cox_base.specs.declared.limits.TheConstants.{MAX_RANK}
use Rattle.cox_context.specs.declared.shifts.TheConstants.{NO_MEMBER}
use Rattle.cox_context.specs.Numbers.{word_at}
use Rattle.cox_context.specs.Shifts.{IsLower}
use Rattle.cox_context.proofs.ShiftRows.{entries-start, entries-skip, entries-set, lower-end}
use Rattle.cox_context.proofs.lower.lower_members.Goals as goal
use Rattle.cox_context.proofs.lower.lower_members.Goals.{in-Some, in_default}

pub loop-t-init : goal.loop-t-init
loop-t-init c = entries-start c.args.shifts.now.matrix.rank
    (λ q x. IsLower (integer_matrix c.args.shifts.now.matrix) c.args.shifts.now.members
    (c.args.s ∷ word_at c.args.shifts.now.members c.args.i) q x) MAX_RANK (omega (arith, c.rank.ensures.rank, c.rank.ensures.limit))

pub loop-t-preserved : goal.loop-t-preserved
loop-t-preserved c =
    elim c.match-branch-2.branch [
      | in-Some w ↦
          let found = rw w.in-Some.is at c.in_ok-k.ensures.lower
          in let l : IsLetter c.args.shifts.now.matrix.rank c.loop-t.t = record {
            from_one = c.loop-t.auto.t;
            to_rank = omega (
              arith,
              c.rank.ensures.rank,
            );
          }
          in let small : w.in-Some.k < NO_MEMBER = omega (arith, found.1, c.rank.ensures.closed.few)
          in rw w.lower-is (entries-set c.args.shifts.now.matrix.rank
          (λ q x. IsLower (integer_matrix c.args.shifts.now.matrix) c.args.shifts.now.members
          (c.args.s ∷ word_at c.args.shifts.now.members c.args.i) q x)
          c.loop-t.t (c.loop-t.t + 1) w.in-Some.k c.loop-t.lower refl l c.loop-t.invariant small found)
      | in_default w ↦
          let none = rw w.in_default.is at c.in_ok-k.ensures.lower
          in rw w.lower-is (entries-skip c.args.shifts.now.matrix.rank
          (λ q x. IsLower (integer_matrix c.args.shifts.now.matrix) c.args.shifts.now.members
          (c.args.s ∷ word_at c.args.shifts.now.members c.args.i) q x) c.loop-t.t (c.loop-t.t + 1) c.loop-t.lower refl c.loop-t.invariant
          none)
    ]

pub returns-clause-lower : goal.returns-clause-lower
returns-clause-lower c = lower-end (integer_matrix c.args.shifts.now.matrix) c.args.shifts.now.members
    (c.args.s ∷ word_at c.args.shifts.now.members c.args.i)
    c.loop-t.t c.loop-t.lower (omega (arith, c.rank.ensures.rank, c.loop-t-test.false)) c.loop-t.invariant
