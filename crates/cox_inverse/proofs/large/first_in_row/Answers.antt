-- One member more.
use Rattle.std.proofs.Common.{◌≡◌, ◌<◌, ◌≤◌, length, FitsSigned, w64, rules, refl, ⊎_elim, arith}
use Rattle.std.specs.Prelude.{◌≤ℤ◌}
use Rattle.std.proofs.lemmas.Bool.{cases_lt}
use Rattle.std.proofs.lemmas.Int.{ints, to_z-of_z}
use Rattle.std.proofs.lemmas.List.{get_or_read}
use Rattle.cox_base.specs.IntegerMatrix.{integer_matrix}
use Rattle.cox_poly.specs.Polynomial.{coefficient}
use Rattle.cox_context.specs.Numbers.{word_at}
use Rattle.cox_row.specs.Rising.{number_at}
use Rattle.cox_row_builder.proofs.LargeCoefficients.{within-none, outside-none, within-more}
use Rattle.cox_inverse.specs.declared.fault.TheConstants.{MAX_COEFFICIENT}
use Rattle.cox_inverse.proofs.FirstPairs.{at_most, row-within, small-row, first-pair_at}
use Rattle.cox_inverse.proofs.large.first_in_row.Goals as goal
use Rattle.cox_inverse.proofs.large.first_in_row.Goals.{in-Some+in_default-large_degree, in_default}

pub returns-then-limit-le-MAX_COEFFICIENT-clause-none : goal.returns-then-limit-le-MAX_COEFFICIENT-clause-none
returns-then-limit-le-MAX_COEFFICIENT-clause-none c = λ x p.
    let most : c.args.limit ≤ℤ MAX_COEFFICIENT
    = at_most c.args.limit MAX_COEFFICIENT (rw (to_z-of_z w64 c.args.limit c.ranges.limit) at c.if-limit-le-MAX_COEFFICIENT.true)
    in within-more (integer_matrix c.args.ctx.now.matrix) (word_at c.args.ctx.now.members x)
    (word_at c.args.ctx.now.members (number_at c.args.interval.now.members.items c.args.k)) c.args.limit MAX_COEFFICIENT most
    (row-within c.args.ctx.now c.len-len.ensures.admissible c.len-len.ensures.closed (number_at c.args.interval.now.members.items c.args.k)
    (c.requires.interval.between.within c.args.k c.requires.place) c.args.limit c.requires.least c.args.row.now c.requires.row
    c.requires.within (word_at c.args.ctx.now.members x))

pub polynomial-requires-clause-x : goal.polynomial-requires-clause-x
polynomial-requires-clause-x c =
    let l : c.loop-j.j < length c.args.interval.now.members.items = omega (arith, c.loop-j-test.true, c.requires.place)
    in rw (get_or_read c.args.interval.now.members.items _ _ l c.index-x.ensures 0) (c.requires.interval.between.within c.loop-j.j l)

pub returns-in-Some-large_degree-clause-some : goal.returns-in-Some-large_degree-clause-some
returns-in-Some-large_degree-clause-some c = λ most before.
    let l : c.loop-j.j < length c.args.interval.now.members.items = omega (arith, c.loop-j-test.true, c.requires.place)
    in let fits : FitsSigned w64 c.coefficient.result = search rules
    in rw (to_z-of_z w64 c.coefficient.result fits, c.coefficient.ensures)
    (first-pair_at c.args.ctx.now c.len-len.ensures.admissible c.len-len.ensures.closed c.args.interval.now.bottom c.args.interval.now.top
    c.args.interval.now.members.items c.requires.interval.between c.index-x.result.now c.index-z.result.now c.loop-j.j c.args.k
    c.in-Some-large_degree.degree (coefficient c.in-Some.p c.in-Some-large_degree.degree) c.in-Some.p l c.requires.place
    (get_or_read c.args.interval.now.members.items _ _ l c.index-x.ensures 0)
    (get_or_read c.args.interval.now.members.items _ _ c.requires.place c.index-z.ensures 0)
    (c.in-Some.ensures.exactly.0 refl) c.in-Some.ensures.value c.in-Some-large_degree.ensures.some c.loop-j.invariant before)

pub loop-j-preserved : goal.loop-j-preserved
loop-j-preserved c = λ i less within. ⊎_elim (λ (before : i < c.loop-j.j). c.loop-j.invariant i before within)
    (λ (more : c.loop-j.j ≤ i).
    let is : i ≡ c.loop-j.j = omega (arith, less, more)
    in let l : c.loop-j.j < length c.args.interval.now.members.items = omega (arith, c.loop-j-test.true, c.requires.place)
    in rw (is, ← get_or_read c.args.interval.now.members.items _ _ l c.index-x.ensures 0) (elim c.match-polynomial.branch [
      | in-Some+in_default-large_degree w ↦ within-none (integer_matrix c.args.ctx.now.matrix) c.len-len.ensures.admissible MAX_COEFFICIENT
          (word_at c.args.ctx.now.members c.index-x.result.now) (word_at c.args.ctx.now.members c.index-z.result.now) w.in-Some.p
          w.in-Some.ensures.value w.in_default-large_degree.ensures.none
      | in_default w ↦ outside-none (integer_matrix c.args.ctx.now.matrix) c.len-len.ensures.admissible MAX_COEFFICIENT
          (word_at c.args.ctx.now.members c.index-x.result.now) (word_at c.args.ctx.now.members c.index-z.result.now)
          (omega (arith, ints)) (λ b. let never = w.in_default.ensures.exactly.1 b in absurd (cc))
    ]))
    (cases_lt i c.loop-j.j)

pub returns-clause-none : goal.returns-clause-none
returns-clause-none c =
    let at = get_or_read c.args.interval.now.members.items _ _ c.requires.place c.index-z.ensures 0
    in small-row c.args.ctx.now c.len-len.ensures.admissible c.len-len.ensures.closed c.args.interval.now.bottom c.args.interval.now.top
    c.args.interval.now.members.items c.requires.interval.between c.args.k c.requires.place
    (λ i less within. rw at at (c.loop-j.invariant i (omega (arith, less, c.loop-j-test.false)) within))
