-- One number more, or none.
use Rattle.std.proofs.Common.{rules, ◌≡◌, ◌∷◌, ◌++◌, [], true, false, arith, refl, sym, ◌∙◌}
use Rattle.std.proofs.lemmas.Bool.{false≢true}
use Rattle.std.proofs.lemmas.List.{get_or_default}
use Rattle.cox_context.specs.Spread.{mark_at, was_there, was_added}
use Rattle.cox_context.proofs.ListedMembers.{listed-push, marked-set}
use Rattle.cox_context.proofs.appending.Found.list.Goals as goal

pub returns-then-index-clause-found : goal.returns-then-index-clause-found
returns-then-index-clause-found c =
    let h = c.requires.marked
    in let mark : mark_at c.args.self.now.marks.items c.args.k ≡ true
    = get_or_default c.args.self.now.marks.items c.args.k false c.index.result.now (omega (arith, h.size, c.requires.member))
    ∙ sym c.index.ensures ∙ c.if-index.true
    in was_there ((h.mark c.args.k c.requires.member).0 mark) refl

pub returns-clause-marked : goal.returns-clause-marked
returns-clause-marked c =
    let words = c.args.context.now.members
    in let numbers = c.args.self.now.numbers.items
    in let pushed : c.push.new.self.items ≡ numbers ++ c.args.k ∷ [] = search rules
    in rw pushed (marked-set words c.args.self.now.marks.items numbers c.requires.marked c.args.k c.requires.member
    (λ i l e. c.len-count.ensures.closed.distinct i c.args.k l c.requires.member e))

pub returns-clause-found : goal.returns-clause-found
returns-clause-found c =
    let words = c.args.context.now.members
    in let numbers = c.args.self.now.numbers.items
    in let h = c.requires.marked
    in let mark : mark_at c.args.self.now.marks.items c.args.k ≡ false
    = get_or_default c.args.self.now.marks.items c.args.k false c.index.result.now (omega (arith, h.size, c.requires.member))
    ∙ sym c.index.ensures ∙ c.if-index.false
    in let pushed : c.push.new.self.items ≡ numbers ++ c.args.k ∷ [] = search rules
    in rw pushed (was_added (λ t. false≢true (sym mark ∙ (h.mark c.args.k c.requires.member).1 t)) (listed-push words numbers c.args.k))
