-- Each letter is appended exactly where its bit is set.
use Rattle.std.proofs.Common.{◌≡◌, ℕ, ◌+◌, ◌-◌, List, length, ap, sym, ◌∙◌, arith, lit<}
use Rattle.cox_context.proofs.LetterSets.{letters-start, letters-yes, letters-no, letters-length, letters-all, has_letter-read}
use Rattle.cox_context.proofs.LetterSets.{has_letter-unread}
use Rattle.cox_context.proofs.descents.letters_of.Goals as goal
use Rattle.cox_context.proofs.descents.letters_of.Goals.{then-set-s-eq1, else-set-s-eq1}

pub loop-s-init : goal.loop-s-init
loop-s-init c = c.new-found.ensures ∙ sym (letters-start c.args.set)

pub push-requires : goal.push-requires
push-requires c = (
  lit< tt,
  omega (
    arith,
    ap (λ (xs : List ℕ). length xs) c.loop-s.invariant,
    letters-length c.args.set (c.loop-s.s - 1),
    c.requires.limit,
  ),
)

pub loop-s-preserved : goal.loop-s-preserved
loop-s-preserved c =
    let at : c.loop-s.s + 1 - 1 ≡ c.loop-s.s = omega arith
    in elim c.if-set-s-eq1.branch [
      | then-set-s-eq1 w ↦
          rw (w.found-is, at, w.push.ensures.items, c.loop-s.invariant)
          (sym (letters-yes c.args.set c.loop-s.s c.loop-s.auto.s (has_letter-read c.args.set c.loop-s.s w.if-set-s-eq1.true)))
      | else-set-s-eq1 w ↦
          rw (w.found-is, at, c.loop-s.invariant)
          (sym (letters-no c.args.set c.loop-s.s c.loop-s.auto.s (has_letter-unread c.args.set c.loop-s.s w.if-set-s-eq1.false)))
    ]

pub returns : goal.returns
returns c =
    let last : c.loop-s.s - 1 ≡ c.args.rank = omega arith
    in c.loop-s.invariant ∙ rw last (letters-all c.args.set c.args.rank)
