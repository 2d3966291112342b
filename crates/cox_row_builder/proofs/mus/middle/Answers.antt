-- The middle coefficient where the difference of lengths is odd.
use Rattle.std.proofs.Common.{◌≡◌, ◌-◌, FitsSigned, w64, rules, sym, ◌∙◌, arith}
use Rattle.std.proofs.lemmas.Int.{to_z-of_z}
use Rattle.cox_base.specs.IntegerMatrix.{IntegerMatrix, integer_matrix}
use Rattle.cox_base.specs.Length.{word_length}
use Rattle.cox_poly.specs.Polynomial.{coefficient}
use Rattle.cox_context.specs.Numbers.{word_at}
use Rattle.cox_context.proofs.Shifting.{length-at}
use Rattle.cox_hecke.proofs.AllRows.{mu-by_polynomial}
use Rattle.cox_row_builder.proofs.NotedMus.{middle-odd, middle-even}
use Rattle.cox_row_builder.proofs.mus.middle.Goals as goal

pub returns-then-difference-eq1 : goal.returns-then-difference-eq1
returns-then-difference-eq1 c = λ is.
    let fits : FitsSigned w64 c.coefficient.result = search rules
    in let A : IntegerMatrix = integer_matrix c.args.ctx.now.matrix
    in let long = length-at A c.len-len.ensures.admissible c.args.ctx.now.members c.len-len.ensures.closed c.args.i c.requires.i
    in let short = length-at A c.len-len.ensures.admissible c.args.ctx.now.members c.len-len.ensures.closed c.args.x c.requires.x
    in let d : word_length A (word_at c.args.ctx.now.members c.args.i) - word_length A (word_at c.args.ctx.now.members c.args.x)
    ≡ c.saturating_sub-difference.result
    = omega (arith, long, short, c.length.ensures, c.length-2.ensures, c.saturating_sub-difference.ensures)
    in rw (to_z-of_z w64 c.coefficient.result fits) (mu-by_polynomial A c.len-len.ensures.admissible _ _ _
    (coefficient c.args.polynomial.now) is
    (rw d (c.coefficient.ensures ∙ sym (middle-odd c.saturating_sub-difference.result (coefficient c.args.polynomial.now)
    c.if-difference-eq1.true))))

pub returns-else-difference-eq1 : goal.returns-else-difference-eq1
returns-else-difference-eq1 c = λ is.
    let A : IntegerMatrix = integer_matrix c.args.ctx.now.matrix
    in let long = length-at A c.len-len.ensures.admissible c.args.ctx.now.members c.len-len.ensures.closed c.args.i c.requires.i
    in let short = length-at A c.len-len.ensures.admissible c.args.ctx.now.members c.len-len.ensures.closed c.args.x c.requires.x
    in let d : word_length A (word_at c.args.ctx.now.members c.args.i) - word_length A (word_at c.args.ctx.now.members c.args.x)
    ≡ c.saturating_sub-difference.result
    = omega (arith, long, short, c.length.ensures, c.length-2.ensures, c.saturating_sub-difference.ensures)
    in mu-by_polynomial A c.len-len.ensures.admissible _ _ _ (coefficient c.args.polynomial.now) is
    (rw d (sym (middle-even c.saturating_sub-difference.result (coefficient c.args.polynomial.now) c.if-difference-eq1.false)))
