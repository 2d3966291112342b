-- The new word goes on in order where all are in order, and the last one comes before it.
use Rattle.std.proofs.Common.{◌∷◌, sym, ◌∙◌, arith}
use Rattle.std.proofs.lemmas.Bool.{false≢true}
use Rattle.cox_base.specs.SortedList.{IsRising}
use Rattle.cox_context.specs.Links.{AreRising}
use Rattle.cox_context.specs.Numbers.{word_at}
use Rattle.cox_context.proofs.LinkedWords.{words-size}
use Rattle.cox_context.proofs.RisingMembers.{rising-whole, rising-more, rising-same}
use Rattle.cox_context.proofs.members.Members.rising_with.Goals as goal
use Rattle.cox_context.proofs.members.Members.rising_with.Goals.{else-are_in_order-via-then-are_in_order+else-last_is_before}
use Rattle.cox_context.proofs.members.Members.rising_with.Goals.{else-are_in_order-via-else-are_in_order}

pub overflow_add-result : goal.overflow_add-result
overflow_add-result c =
    omega (arith, c.self.invariant.order.within, words-size c.self.inside.links.items, c.self.invariant.linked.few)

pub returns-then-last_is_before : goal.returns-then-last_is_before
returns-then-last_is_before c =
    let words = c.args.self.now
    in let h : AreRising words c.self.inside.rising = rw c.self.view_is at c.self.invariant.order
    in let all : IsRising words = c.are_in_order.ensures.0 c.if-are_in_order.true
    in rising-more words c.self.inside.rising h _ ((rising-whole words c.self.inside.rising h).1 all)
    (c.last_is_before.ensures.0 c.if-last_is_before.true)

pub returns-else-are_in_order : goal.returns-else-are_in_order
returns-else-are_in_order c =
    let words = c.args.self.now
    in let y = c.args.link.first ∷ word_at words c.args.link.rest
    in let h : AreRising words c.self.inside.rising = rw c.self.view_is at c.self.invariant.order
    in elim c.else-are_in_order.branch [
      | else-are_in_order-via-then-are_in_order+else-last_is_before w ↦ rising-same words c.self.inside.rising h y
          (λ e less. false≢true (sym w.if-last_is_before.false ∙ w.last_is_before.ensures.1 less))
      | else-are_in_order-via-else-are_in_order w ↦ rising-same words c.self.inside.rising h y
          (λ e less. false≢true (sym w.if-are_in_order.false
          ∙ c.are_in_order.ensures.1 ((rising-whole words c.self.inside.rising h).0 e)))
    ]
