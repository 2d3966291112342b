-- The proof of `put_in_order`.
use Rattle.std.proofs.Common.{◌≡◌, ◌<◌, length, is_lt, rules}
use Rattle.std.specs.List.Sorted.{IsSortedByKey}
use Rattle.std.proofs.lemmas.Fn.{always_returns_same}
use Rattle.std.proofs.lemmas.List.Sorted.{All-permutation, ranks_by, IsNonDecreasingBy-from_sort}
use Rattle.cox_base.specs.IntegerMatrix.{integer_matrix}
use Rattle.cox_base.specs.ShortLex.{shortlex_cmp}
use Rattle.cox_context.specs.Numbers.{word_at}
use Rattle.cox_context.proofs.RisingMembers.{shortlex_total}
use Rattle.cox_replies.proofs.OrderOfWords.{sorted-rising, words-rising, numbers-rising, differ-words, distinct-permuted}
use Rattle.cox_replies.proofs.order.put_in_order.Goals as goal

pub returns-then-is_in_order-clause-order : goal.returns-then-is_in_order-clause-order
returns-then-is_in_order-clause-order c =
    let e = c.args.context.now in
    let new = c.sort_unstable.new.self.items in
    let moved = c.sort_unstable.ensures.permutation in
    words-rising e.members new (numbers-rising e.members (c.is_in_order.ensures.0 c.if-is_in_order.true) new
    (All-permutation (λ x. x < length e.members) _ new moved c.requires.members) (distinct-permuted _ new moved c.requires.distinct)
    (IsNonDecreasingBy-from_sort (λ x. x) new c.sort_unstable.ensures.sorted))

pub returns-clause-order : goal.returns-clause-order
returns-clause-order c =
    let e = c.args.context.now in
    let word = word_at e.members in
    let new = c.sort_unstable_by.new.self.items in
    let moved = c.sort_unstable_by.ensures.permutation in
    let sorted : IsSortedByKey word shortlex_cmp new
    = c.sort_unstable_by.ensures.sorted (λ x y. is_lt (shortlex_cmp (word x) (word y))) (ranks_by shortlex_total word)
    (always_returns_same _ (λ a r. is_lt r ≡ is_lt (shortlex_cmp (word a.0.now) (word a.1.0.now))) _ (λ a r f' k. search rules)) in
    let within = All-permutation (λ x. x < length e.members) _ new moved c.requires.members in
    let distinct = distinct-permuted _ new moved c.requires.distinct in
    words-rising e.members new (sorted-rising word new sorted
    (differ-words (integer_matrix e.matrix) c.len.ensures.admissible e.members c.len.ensures.closed new within distinct))
