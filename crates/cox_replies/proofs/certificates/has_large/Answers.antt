-- The proof of `has_large`.
use Rattle.std.proofs.Common.{◌<◌, ◌≤◌, length, refl, pos, arith}
use Rattle.std.specs.Prelude.{◌≤ℤ◌}
use Rattle.std.proofs.lemmas.Bool.{false≢true}
use Rattle.std.proofs.lemmas.Int.{ints}
use Rattle.cox_base.specs.IntegerMatrix.{integer_matrix}
use Rattle.cox_base.specs.Admissible.{IsAdmissible}
use Rattle.cox_context.specs.Closed.{IsClosed}
use Rattle.cox_row.specs.RowOf.{pool_of}
use Rattle.cox_certtext.specs.declared.limits.TheConstants.{MAX_CHECKED_COEFFICIENT}
use Rattle.cox_replies.proofs.RowLimits.{large-beyond, within-not_beyond}
use Rattle.cox_replies.proofs.certificates.has_large.Goals as goal

pub returns-in-Some-large_degree : goal.returns-in-Some-large_degree
returns-in-Some-large_degree c =
    let e = c.args.rows.now.elements in
    let g : IsAdmissible (integer_matrix e.matrix) = rw c.context.ensures.context at c.len.ensures.admissible in
    let closed : IsClosed (integer_matrix e.matrix) e.members = rw c.context.ensures.context at c.len.ensures.closed in
    let least : pos 0 ≤ℤ MAX_CHECKED_COEFFICIENT = omega (arith, ints) in
    let held = (c.in-Some.ensures {u = tt}).row in
    let inside : c.loop-k.k < length (pool_of c.in-Some.row.now) = rw (c.len-k-end.ensures, c.pool.ensures) at c.loop-k-test.true in
    let large = rw (c.at.ensures, c.pool-in-loop-k.ensures) at (rw c.in-Some-large_degree.is at c.large_degree.ensures.some) in (
      λ yes. large-beyond e g closed c.args.rows.now.limit c.args.i c.in-Some.row.now held MAX_CHECKED_COEFFICIENT least c.loop-k.k
          c.in-Some-large_degree.field-0 inside large,
      λ beyond. refl,
    )

pub returns : goal.returns
returns c =
    let e = c.args.rows.now.elements in
    let g : IsAdmissible (integer_matrix e.matrix) = rw c.context.ensures.context at c.len.ensures.admissible in
    let closed : IsClosed (integer_matrix e.matrix) e.members = rw c.context.ensures.context at c.len.ensures.closed in
    let least : pos 0 ≤ℤ MAX_CHECKED_COEFFICIENT = omega (arith, ints) in
    let held = (c.in-Some.ensures {u = tt}).row in
    let end : c.len-k-end.result ≤ c.loop-k.k = omega arith in
    let past : length (pool_of c.in-Some.row.now) ≤ c.loop-k.k = rw (c.len-k-end.ensures, c.pool.ensures) at end in (
      λ yes. absurd (false≢true yes),
      λ beyond. absurd (within-not_beyond e g closed c.args.rows.now.limit c.args.i c.in-Some.row.now held
          MAX_CHECKED_COEFFICIENT least (λ j l. c.loop-k.invariant j (omega (arith, l, past))) beyond),
    )
