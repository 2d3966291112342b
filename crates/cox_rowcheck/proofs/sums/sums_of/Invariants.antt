-- The sums over the words so far, how large they are, and the columns of the prefixes of the last word.
use Rattle.std.proofs.Common.{ℕ, ◌*◌, ◌^◌, ◌≤◌, take, map, unsigned_abs}
use Rattle.cox_base.specs.IntegerMatrix.{integer_matrix}
use Rattle.cox_poly.specs.Polynomial.{coefficient}
use Rattle.cox_rpoly.specs.Terms.{numbered}
use Rattle.cox_rowcheck.specs.Prefixes.{letters_of, ArePrefixes}
use Rattle.cox_rowcheck.specs.MemberSums.{AreSums}
use Rattle.cox_rowcheck.proofs.sums.sums_of.Given as goal

abbrev pub invariant-loop-word : goal.invariant-loop-word
invariant-loop-word l = record {
  prefixes : ArePrefixes (integer_matrix l.ctx.matrix) l.ctx.members l.last.items l.stack.items;
  sums : AreSums (integer_matrix l.ctx.matrix) l.ctx.members l.polynomials (take l.word-index (map letters_of l.word-items)) l.sums.items;
  small : (i k : ℕ) → unsigned_abs (coefficient (numbered l.sums.items i) k) ≤ l.word-index * 2 ^ 100;
}
