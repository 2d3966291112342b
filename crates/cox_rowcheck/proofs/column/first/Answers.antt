-- The identity is the first member.
use Rattle.std.proofs.Common.{◌≡◌, ◌∷◌, [], ◌∙◌, ℕ, zero, suc, pos, refl, sym, arith}
use Rattle.cox_base.specs.IntegerMatrix.{IntegerMatrix, integer_matrix}
use Rattle.cox_poly.specs.Coefficients.{one_polynomial}
use Rattle.cox_poly.specs.Polynomial.{coefficient}
use Rattle.cox_context.proofs.Ideals.{element-nil}
use Rattle.cox_context.proofs.Shifting.{first-member}
use Rattle.cox_rowcheck.proofs.WordColumns.{column-first}
use Rattle.cox_rowcheck.proofs.column.first.Goals as goal

-- the list of 1
one-is : (k : ℕ) → coefficient (pos 1 ∷ []) k ≡ one_polynomial k
one-is zero = refl
one-is (suc k) = refl

pub returns : goal.returns
returns c =
    let A : IntegerMatrix = integer_matrix c.args.ctx.now.matrix
    in let g = c.len-len.ensures.admissible
    in let closed = c.len-len.ensures.closed
    in let entries : c.push.new.self ≡ (pos 1 ∷ []) ∷ [] = rw (c.in_ok-entries.ensures {u = tt}) at (c.in_ok-push.ensures {u = tt})
    in record {
      inside = omega (arith, closed.some);
      named = first-member A g c.args.ctx.now.members closed ∙ sym (element-nil A g).normal;
      entries = rw entries (column-first A g c.args.ctx.now.members closed (pos 1 ∷ []) one-is);
    }
