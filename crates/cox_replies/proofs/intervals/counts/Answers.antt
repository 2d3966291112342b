-- The proof of `counts`.
use Rattle.std.proofs.Common.{◌+◌, ◌<◌, pos, refl, ◌∙◌, length, take, arith}
use Rattle.std.proofs.lemmas.List.{get_or-replicate, length-set}
use Rattle.cox_base.specs.declared.limits.TheConstants.{MAX_LETTERS}
use Rattle.cox_base.specs.Interval.{count_of_length}
use Rattle.cox_context.specs.Numbers.{word_at}
use Rattle.cox_context.proofs.PlacedWords.{contains-at}
use Rattle.cox_replies.proofs.LengthCounts.{count-most, count-room, count-added, counts-more}
use Rattle.cox_replies.proofs.intervals.counts.Goals as goal

pub loop-i-init : goal.loop-i-init
loop-i-init c = record { long = refl; values = λ k below. get_or-replicate (MAX_LETTERS + 1) k (pos 0) (pos 0) below }

pub overflow_add-counts : goal.overflow_add-counts
overflow_add-counts c =
    let members = c.args.context.now.members in
    let below : c.loop-i.i < length members = omega arith in
    let short = c.len-i-end.ensures.closed.short (word_at members c.loop-i.i) (contains-at members c.loop-i.i below) in
    let few = count-most members c.loop-i.i c.length.result in
    count-room _ (count_of_length (take c.loop-i.i members) c.length.result)
    (c.loop-i.invariant.values c.length.result (omega (arith, short)))
    (omega (arith, few, c.len-i-end.ensures.closed.few))

pub loop-i-preserved : goal.loop-i-preserved
loop-i-preserved c =
    let members = c.args.context.now.members in
    let below : c.loop-i.i < length members = omega arith in
    let short = c.len-i-end.ensures.closed.short (word_at members c.loop-i.i) (contains-at members c.loop-i.i below) in
    let bound : c.length.result < MAX_LETTERS + 1 = omega (arith, short) in
    let few = count-most members c.loop-i.i c.length.result in
    let sum = count-added _ (count_of_length (take c.loop-i.i members) c.length.result) (c.loop-i.invariant.values c.length.result bound)
    (omega (arith, few, c.len-i-end.ensures.closed.few)) in
    record {
      long = length-set c.loop-i.counts c.length.result _ ∙ c.loop-i.invariant.long;
      values = counts-more members c.loop-i.counts c.loop-i.i c.length.result _ c.loop-i.invariant.values below c.length.ensures.length
          (omega (arith, bound)) sum;
    }
