-- The first letter that is exchanged is the least right descent.
use Rattle.std.proofs.Common.{◌≡◌, ◌∷◌, [], ◌++◌, ◌-◌, arith}
use Rattle.cox_base.specs.IntegerMatrix.{integer_matrix}
use Rattle.cox_reflect.proofs.Admissible.{IsAdmissible-integer_matrix}
use Rattle.cox_base.specs.Element.{SameElement}
use Rattle.cox_base.specs.Reduced.{IsReduced}
use Rattle.cox_base.specs.Descents.{IsRightDescent}
use Rattle.cox_base.specs.Matrix.{IsWord}
use Rattle.cox_minroots.proofs.ReducedProducts.{reduced-remove, word-remove}
use Rattle.cox_minroots.proofs.ExchangeForms.{exchanged-descent, form-least, form-none}
use Rattle.cox_minroots.proofs.table.RootTable.take_least.Goals as goal

pub returns-in-Some-clause-form : goal.returns-in-Some-clause-form
returns-in-Some-clause-form c =
    let reduced : IsReduced (integer_matrix c.args.self.now) c.loop-s.v.items = rw c.loop-s.invariant.0 c.requires.reduced
    in let descent : IsRightDescent (integer_matrix c.args.self.now) c.args.v.now.items c.loop-s.s
    = rw c.loop-s.invariant.0 at
    (exchanged-descent (integer_matrix c.args.self.now) (IsAdmissible-integer_matrix c.args.self.now c.in-Some.ensures.matrix)
    c.loop-s.v.items c.loop-s.s
    c.in-Some.place reduced c.in-Some.ensures.within c.in-Some.ensures.without)
    in let gone : SameElement (integer_matrix c.args.self.now) (c.args.v.now.items ++ c.loop-s.s ∷ []) c.remove.new.self.items
    = rw (c.remove.ensures.items, ← c.loop-s.invariant.0) c.in-Some.ensures.without
    in form-least (integer_matrix c.args.self.now) (IsAdmissible-integer_matrix c.args.self.now c.in-Some.ensures.matrix)
    c.args.v.now.items c.loop-s.s c.remove.new.self.items descent
    c.loop-s.invariant.1 gone

pub returns-in-Some-clause-reduced : goal.returns-in-Some-clause-reduced
returns-in-Some-clause-reduced c =
    let reduced : IsReduced (integer_matrix c.args.self.now) c.loop-s.v.items = rw c.loop-s.invariant.0 c.requires.reduced
    in rw c.remove.ensures.items
    (reduced-remove (integer_matrix c.args.self.now) (IsAdmissible-integer_matrix c.args.self.now c.in-Some.ensures.matrix)
    c.loop-s.v.items c.loop-s.s
    c.in-Some.place reduced c.in-Some.ensures.within c.in-Some.ensures.without)

pub returns-in-Some-clause-letters : goal.returns-in-Some-clause-letters
returns-in-Some-clause-letters c =
    let letters : IsWord c.args.self.now.rank c.loop-s.v.items = rw c.loop-s.invariant.0 c.requires.letters
    in rw c.remove.ensures.items (word-remove c.loop-s.v.items c.in-Some.place c.in-Some.ensures.within letters)

pub returns-clause-form : goal.returns-clause-form
returns-clause-form c =
    let rank : c.rank.result ≡ c.args.self.now.rank = rw c.self.view_is at c.rank.ensures.rank
    in form-none (integer_matrix c.args.self.now)
    (IsAdmissible-integer_matrix c.args.self.now (rw c.self.view_is at c.rank.ensures.matrix)) c.args.v.now.items (c.loop-s.s - 1)
    (omega (arith, rank, c.loop-s-test.false)) (λ t a b. c.loop-s.invariant.1 t a (omega (arith, a, b)))
