-- The letters before s are right descents.
use Rattle.std.proofs.Common.{◌<◌, ℕ, Contains}
use Rattle.cox_base.specs.Matrix.{IsLetter}
use Rattle.cox_base.specs.IntegerMatrix.{integer_matrix}
use Rattle.cox_base.specs.Descents.{right_descents}
use Rattle.cox_answers.proofs.finite.missing_letter.Given as goal

abbrev pub invariant-loop-s : goal.invariant-loop-s
invariant-loop-s l = (q : ℕ) → IsLetter l.table.rank q → q < l.s → Contains (right_descents (integer_matrix l.table) l.word.items) q
