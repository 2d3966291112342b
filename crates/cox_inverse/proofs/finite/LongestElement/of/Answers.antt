-- One row more.
use Rattle.std.proofs.Common.{◌≡◌, ◌<◌, ◌≤◌, length, Option, Some, None, w64, ⊎_elim, refl, arith}
use Rattle.std.specs.Prelude.{IfNone}
use Rattle.std.proofs.lemmas.Bool.{cases_lt, both_ways}
use Rattle.std.proofs.lemmas.Int.{to_z-of_z}
use Rattle.cox_base.specs.IntegerMatrix.{integer_matrix}
use Rattle.cox_poly.specs.Polynomial.{coefficient}
use Rattle.cox_row.specs.Polynomials.{polynomial_at}
use Rattle.cox_row.specs.RowOf.{pool_of}
use Rattle.cox_row.proofs.ViewedPolynomials.{row-polynomials}
use Rattle.cox_inverse.specs.declared.finite.LongestElement.{LongestElement}
use Rattle.cox_inverse.specs.WholeGroups.{IsReadable}
use Rattle.cox_inverse.proofs.FirstPairs.{row-small}
use Rattle.cox_inverse.proofs.finite.LongestElement.of.Goals as goal

pub loop-i-preserved : goal.loop-i-preserved
loop-i-preserved g c = record {
  there = λ k l. ⊎_elim (λ (less : k < c.loop-i.i). c.loop-i.invariant.there k less)
      (λ (more : c.loop-i.i ≤ k). let is : k ≡ c.loop-i.i = omega (arith, l, more) in rw is (c.has.ensures.0 c.if-not-has.false))
      (cases_lt k c.loop-i.i);
  small = λ x k l. ⊎_elim (λ (less : k < c.loop-i.i). c.loop-i.invariant.small x k less)
      (λ (more : c.loop-i.i ≤ k). let is : k ≡ c.loop-i.i = omega (arith, l, more)
      in let within = rw (to_z-of_z w64 c.args.limit c.ranges.limit) at (c.is_within.ensures.small c.if-not-is_within.false)
      in rw (is, to_z-of_z w64 c.args.limit c.ranges.limit) (row-small c.args.ctx.now c.len-i-end.ensures.admissible
      c.len-i-end.ensures.closed c.loop-i.i
      (omega (arith, c.loop-i-test.true, c.len-i-end.ensures.len)) c.args.limit c.requires.least
      c.row.result.now (rw c.requires.rows at c.row.ensures.row) within x))
      (cases_lt k c.loop-i.i);
}

pub returns-clause-readable : goal.returns-clause-readable
returns-clause-readable g c = record {
  longest = c.in_ok-longest.ensures.some;
  there = λ i l. c.loop-i.invariant.there i (omega (arith, l, c.loop-i-test.false, c.len-i-end.ensures.len));
  small = λ x i l. rw (to_z-of_z w64 c.args.limit c.ranges.limit) at
      (c.loop-i.invariant.small x i (omega (arith, l, c.loop-i-test.false, c.len-i-end.ensures.len)));
}

-- ---- there is none

if_none : {X P : Type 0} (o : Option X) → P → IfNone o P
if_none (Some x) p = tt
if_none None p = p

pub returns-in_err-longest-clause-none : goal.returns-in_err-longest-clause-none
returns-in_err-longest-clause-none g c =
    let none : (w0 : LongestElement) → IsReadable c.args.ctx.now (g.L.LowerRows.holds c.args.rows.now) c.args.limit w0 → ⊥
    = λ w0 h. c.in_err-longest.ensures.none w0.longest h.longest
    in if_none c.from_residual.result none

pub returns-then-not-has-clause-none : goal.returns-then-not-has-clause-none
returns-then-not-has-clause-none g c = λ w0 h.
    let there = c.has.ensures.1 (h.there c.loop-i.i (omega (arith, c.loop-i-test.true, c.len-i-end.ensures.len)))
    in both_ways _ c.if-not-has.true there

pub returns-then-not-is_within-clause-none : goal.returns-then-not-is_within-clause-none
returns-then-not-is_within-clause-none g c = λ w0 h.
    let inside : c.loop-i.i < length c.args.ctx.now.members = omega (arith, c.loop-i-test.true, c.len-i-end.ensures.len)
    in let large = rw (to_z-of_z w64 c.args.limit c.ranges.limit) at (c.is_within.ensures.large c.if-not-is_within.true)
    in let one = (row-polynomials (integer_matrix c.args.ctx.now.matrix) c.len-i-end.ensures.admissible c.args.ctx.now.members
    c.len-i-end.ensures.closed c.loop-i.i inside c.row.result.now (rw c.requires.rows at c.row.ensures.row)).each large.place large.within
    in h.small one.x c.loop-i.i inside large.degree (coefficient (polynomial_at (pool_of c.row.result.now) large.place) large.degree)
    (record {
      polynomial = coefficient (polynomial_at (pool_of c.row.result.now) large.place);
      is = one.is;
      value = refl;
      above = large.above;
    })
