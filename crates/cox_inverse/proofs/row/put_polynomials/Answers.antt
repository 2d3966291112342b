-- One polynomial more, or the first fault.
use Rattle.std.proofs.Common.{◌≡◌, ◌<◌, [], ◌∷◌, length, pos, w64, refl, arith}
use Rattle.std.proofs.lemmas.Int.{to_z-of_z}
use Rattle.cox_lemmas.proofs.PushedItems.{push-length}
use Rattle.cox_base.specs.IntegerMatrix.{integer_matrix}
use Rattle.cox_poly.specs.Limit.{AllWithin}
use Rattle.cox_context.specs.Numbers.{word_at}
use Rattle.cox_inverse.specs.declared.fault.TheConstants.{MAX_COEFFICIENT}
use Rattle.cox_inverse.specs.NumberedInverses.{number_before}
use Rattle.cox_inverse.proofs.LastMembers.{last-top}
use Rattle.cox_inverse.proofs.LastInverses.{inverses-none, inverses-push, inverses-keep, inverses-more, inverse-within}
use Rattle.cox_inverse.proofs.LastInverses.{sums-fault, top-value}
use Rattle.cox_inverse.proofs.SummedMembers.{read-number}
use Rattle.cox_inverse.proofs.row.put_polynomials.Goals as goal

pub returns-in-Err-clause-fault : goal.returns-in-Err-clause-fault
returns-in-Err-clause-fault g c =
    let fault = rw (to_z-of_z w64 c.args.limit c.ranges.limit) at c.in-Err.ensures.fault
    in let top = top-value c.args.ctx.now c.len-len.ensures.admissible c.len-len.ensures.closed c.args.interval.now.bottom
    c.args.interval.now.top c.requires.interval.top_member c.args.interval.now.members.items
    c.requires.interval.between c.args.limit c.requires.below
    in sums-fault c.args.ctx.now c.len-len.ensures.admissible c.len-len.ensures.closed c.args.interval.now.bottom
    c.args.interval.now.top c.requires.interval.top_member c.args.interval.now.members.items
    c.requires.interval.between c.args.limit [] (pos 1 ∷ []) c.in-Err.fault c.requires.small
    top.0 (inverses-none c.args.ctx.now c.len-len.ensures.admissible c.len-len.ensures.closed c.args.interval.now.bottom
    c.args.interval.now.top c.requires.interval.top_member c.args.interval.now.members.items
    c.requires.interval.between c.args.limit) top.1 (rw top.2 fault)

pub push_reserved-requires : goal.push_reserved-requires
push_reserved-requires g c =
    let top = last-top c.args.ctx.now c.len-len.ensures.admissible c.len-len.ensures.closed c.args.interval.now.bottom
    c.args.interval.now.top c.requires.interval.top_member c.args.interval.now.members.items
    c.requires.interval.between c.requires.below
    in let empty : length c.args.polynomials.now.items ≡ 0 = rw c.requires.none refl
    in omega (arith, top.0, empty, c.requires.room, c.args.polynomials.now.ok)

pub loop-done-init : goal.loop-done-init
loop-done-init g c =
    let top = top-value c.args.ctx.now c.len-len.ensures.admissible c.len-len.ensures.closed c.args.interval.now.bottom
    c.args.interval.now.top c.requires.interval.top_member c.args.interval.now.members.items
    c.requires.interval.between c.args.limit c.requires.below
    in let within = rw (to_z-of_z w64 c.args.limit c.ranges.limit) at c.in-Ok.ensures.within
    in let items = rw (c.requires.none, c.in-Ok.ensures.one) at c.push_reserved.ensures.items
    in rw (items, to_z-of_z w64 c.args.limit c.ranges.limit) record {
      size = refl;
      inverses = inverses-push c.args.ctx.now c.len-len.ensures.admissible c.len-len.ensures.closed c.args.interval.now.bottom
          c.args.interval.now.top c.requires.interval.top_member c.args.interval.now.members.items
          c.requires.interval.between c.args.limit [] (pos 1 ∷ []) top.0 top.1 top.3 within
          (inverses-none c.args.ctx.now c.len-len.ensures.admissible c.len-len.ensures.closed c.args.interval.now.bottom
          c.args.interval.now.top c.requires.interval.top_member c.args.interval.now.members.items
          c.requires.interval.between c.args.limit);
    }

pub sum_up-requires-clause-inverses : goal.sum_up-requires-clause-inverses
sum_up-requires-clause-inverses g c =
    rw c.as_slice.ensures.value (inverses-more c.args.ctx.now c.len-len.ensures.admissible c.len-len.ensures.closed
    c.args.interval.now.bottom c.args.interval.now.top c.requires.interval.top_member c.args.interval.now.members.items
    c.requires.interval.between c.args.limit c.loop-done.polynomials.items MAX_COEFFICIENT c.requires.most
    (rw (to_z-of_z w64 c.args.limit c.ranges.limit) at c.loop-done.invariant.inverses))

pub returns-in-Err-closed-clause-fault : goal.returns-in-Err-closed-clause-fault
returns-in-Err-closed-clause-fault g c =
    let polys = c.loop-done.polynomials.items
    in let before = rw (to_z-of_z w64 c.args.limit c.ranges.limit) at c.loop-done.invariant.inverses
    in let size : c.len.result ≡ length c.args.interval.now.members.items
    = omega (arith, c.len.ensures, c.args.interval.now.members.ok)
    in let more : length c.loop-done.polynomials.items < length c.args.interval.now.members.items
    = omega (arith, c.loop-done.invariant.size, c.loop-done-test.true, c.len-done-end.ensures, c.args.interval.now.members.ok)
    in let is = rw c.as_slice.ensures.value at c.sum_up.ensures
    in let fault = rw (to_z-of_z w64 c.args.limit c.ranges.limit) at c.in-Err-closed.ensures.fault
    in let at_x : c.index-x.result.now ≡ number_before c.args.interval.now.members.items (length c.loop-done.polynomials.items)
    = read-number c.args.interval.now.members.items c.len.result (length c.loop-done.polynomials.items)
    c.index-x.result.now size
    more (rw c.loop-done.invariant.size c.index-x.ensures)
    in sums-fault c.args.ctx.now c.len-len.ensures.admissible c.len-len.ensures.closed c.args.interval.now.bottom
    c.args.interval.now.top c.requires.interval.top_member c.args.interval.now.members.items
    c.requires.interval.between c.args.limit c.loop-done.polynomials.items c.sum_up.new.sums c.in-Err-closed.fault c.requires.small
    more before is
    (rw (← at_x) fault)

pub loop-done-preserved : goal.loop-done-preserved
loop-done-preserved g c =
    let polys = c.loop-done.polynomials.items
    in let before = rw (to_z-of_z w64 c.args.limit c.ranges.limit) at c.loop-done.invariant.inverses
    in let size : c.len.result ≡ length c.args.interval.now.members.items
    = omega (arith, c.len.ensures, c.args.interval.now.members.ok)
    in let more : length c.loop-done.polynomials.items < length c.args.interval.now.members.items
    = omega (arith, c.loop-done.invariant.size, c.loop-done-test.true, c.len-done-end.ensures, c.args.interval.now.members.ok)
    in let is = rw c.as_slice.ensures.value at c.sum_up.ensures
    in let within = rw (to_z-of_z w64 c.args.limit c.ranges.limit) at c.in-Ok-closed.ensures.within
    in rw (c.push_reserved-in-Ok-closed.ensures.items, to_z-of_z w64 c.args.limit c.ranges.limit) record {
      size = omega (arith, push-length c.loop-done.polynomials.items c.in-Ok-closed.polynomial, c.loop-done.invariant.size);
      inverses = inverses-keep c.args.ctx.now c.len-len.ensures.admissible c.len-len.ensures.closed c.args.interval.now.bottom
          c.args.interval.now.top c.requires.interval.top_member c.args.interval.now.members.items
          c.requires.interval.between c.args.limit c.loop-done.polynomials.items c.sum_up.new.sums c.in-Ok-closed.polynomial more is
          c.in-Ok-closed.ensures.same c.in-Ok-closed.ensures.trimmed within before;
    }

pub returns-in-Err-clause-memory : goal.returns-in-Err-clause-memory
returns-in-Err-clause-memory g c = λ out.
    let top = top-value c.args.ctx.now c.len-len.ensures.admissible c.len-len.ensures.closed c.args.interval.now.bottom
    c.args.interval.now.top c.requires.interval.top_member c.args.interval.now.members.items
    c.requires.interval.between c.args.limit c.requires.below
    in let within : AllWithin c.args.limit (pos 1 ∷ [])
    = rw (out, to_z-of_z w64 c.args.limit c.ranges.limit) at c.in-Err.ensures.fault
    in rw c.requires.none (inverse-within (integer_matrix c.args.ctx.now.matrix) c.len-len.ensures.admissible c.args.limit
    (word_at c.args.ctx.now.members (number_before c.args.interval.now.members.items 0))
    (word_at c.args.ctx.now.members c.args.interval.now.top) (pos 1 ∷ []) top.1 within)

pub returns-in-Err-closed-clause-memory : goal.returns-in-Err-closed-clause-memory
returns-in-Err-closed-clause-memory g c = λ out.
    let within : AllWithin c.args.limit c.sum_up.new.sums
    = rw (out, to_z-of_z w64 c.args.limit c.ranges.limit) at c.in-Err-closed.ensures.fault
    in inverse-within (integer_matrix c.args.ctx.now.matrix) c.len-len.ensures.admissible c.args.limit
    (word_at c.args.ctx.now.members (number_before c.args.interval.now.members.items (length c.loop-done.polynomials.items)))
    (word_at c.args.ctx.now.members c.args.interval.now.top) c.sum_up.new.sums (rw c.as_slice.ensures.value at c.sum_up.ensures) within
