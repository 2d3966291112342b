-- The conditions hold exactly where the polynomials are the row.
use Rattle.std.proofs.Common.{IsTrue, sym, ◌∙◌, arith, rules}
use Rattle.std.proofs.lemmas.Bool.{false≢true}
use Rattle.cox_base.specs.IntegerMatrix.{IntegerMatrix, integer_matrix}
use Rattle.cox_context.specs.Numbers.{word_at}
use Rattle.cox_rowcheck.proofs.IntervalRows.{interval-length, interval-short, row-decided}
use Rattle.cox_rowcheck.proofs.Decision.{members-balanced, balanced-bounded, balanced-turned}
use Rattle.cox_rowcheck.proofs.row_check.is_row.Goals as goal

pub returns-then-not-are_bounded-clause-row : goal.returns-then-not-are_bounded-clause-row
returns-then-not-are_bounded-clause-row c =
    let A : IntegerMatrix = integer_matrix c.args.ctx.now.matrix
    in let g = c.len-len.ensures.admissible
    in let members = c.args.ctx.now.members
    in let polynomials = c.args.polynomials.now
    in (
      λ f. absurd (false≢true f),
      λ row. absurd (false≢true (sym c.if-not-are_bounded.true ∙ c.are_bounded.ensures.1
          (balanced-bounded A g members c.args.w c.requires.w c.requires.interval polynomials c.requires.count
          ((row-decided A g (word_at members c.args.w) members c.requires.interval polynomials c.requires.count).0 row)))),
    )

pub sums_of-requires-clause-short : goal.sums_of-requires-clause-short
sums_of-requires-clause-short c = λ i l.
    let A : IntegerMatrix = integer_matrix c.args.ctx.now.matrix
    in let g = c.len-len.ensures.admissible
    in let members = c.args.ctx.now.members
    in omega (
      arith,
      c.requires.short,
      interval-short A g (word_at members c.args.w) members c.requires.interval i l,
      interval-length A g (word_at members c.args.w) members c.requires.interval c.args.w c.requires.w,
    )

pub returns-clause-row : goal.returns-clause-row
returns-clause-row c =
    let A : IntegerMatrix = integer_matrix c.args.ctx.now.matrix
    in let g = c.len-len.ensures.admissible
    in let members = c.args.ctx.now.members
    in let polynomials = c.args.polynomials.now
    in let bounded : IsTrue c.are_bounded.result = search rules
    in let turned = rw c.as_slice.ensures.value at c.are_turned.ensures
    in let decided = row-decided A g (word_at members c.args.w) members c.requires.interval polynomials c.requires.count
    in let sums = c.in_ok-sums.ensures {u = tt}
    in (
      λ yes. decided.1 (members-balanced A g members c.args.w c.requires.w c.requires.interval polynomials c.requires.count
          c.in_ok-sums.sums.items sums (c.are_bounded.ensures.0 bounded) (turned.0 yes)),
      λ row. turned.1 (balanced-turned A g members c.args.w c.requires.w c.requires.interval polynomials c.requires.count
          c.in_ok-sums.sums.items sums (decided.0 row)),
    )
