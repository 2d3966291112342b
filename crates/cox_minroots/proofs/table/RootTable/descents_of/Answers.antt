-- A letter is a right descent exactly where it is exchanged.
use Rattle.std.proofs.Common.{ℕ, ◌≡◌, ◌+◌, ◌-◌, List, length, ap, sym, ◌∙◌, arith, lit<}
use Rattle.cox_base.specs.IntegerMatrix.{integer_matrix}
use Rattle.cox_reflect.proofs.Admissible.{IsAdmissible-integer_matrix}
use Rattle.cox_minroots.proofs.ExchangeForms.{descents_to, descents-none, descents-yes, descents-no, descents-all, descents-letters}
use Rattle.cox_minroots.proofs.ExchangeForms.{some-descent, none-no_descent}
use Rattle.cox_minroots.proofs.table.RootTable.descents_of.Goals as goal
use Rattle.cox_minroots.proofs.table.RootTable.descents_of.Goals.{then-is_some, else-is_some}

pub loop-s-init : goal.loop-s-init
loop-s-init c = c.new-found.ensures ∙ sym (descents-none (integer_matrix c.args.self.now) c.args.v.now.items)

pub push-requires : goal.push-requires
push-requires c = (
  lit< tt,
  omega (
    arith,
    ap (λ (xs : List ℕ). length xs) c.loop-s.invariant,
    (descents-letters (integer_matrix c.args.self.now) c.args.v.now.items (c.loop-s.s - 1)).1,
    c.loop-s-test.true,
    c.rank-2.ensures.limit,
  ),
)

pub loop-s-preserved : goal.loop-s-preserved
loop-s-preserved c =
    let next : c.loop-s.s + 1 - 1 ≡ c.loop-s.s = omega arith
    in elim c.if-is_some.branch [
      | then-is_some w ↦ rw (w.found-is, w.push.ensures.items, next, c.loop-s.invariant)
          (sym (descents-yes (integer_matrix c.args.self.now) c.args.v.now.items c.loop-s.s c.loop-s.auto.s
          (some-descent (integer_matrix c.args.self.now)
          (IsAdmissible-integer_matrix c.args.self.now (rw c.self.view_is at c.rank.ensures.matrix)) c.args.v.now.items c.loop-s.s
          c.exchanged.result c.requires.reduced
          (sym c.is_some.ensures ∙ w.if-is_some.true) c.exchanged.ensures.within c.exchanged.ensures.without)))
      | else-is_some w ↦ rw (w.found-is, next, c.loop-s.invariant)
          (sym (descents-no (integer_matrix c.args.self.now) c.args.v.now.items c.loop-s.s c.loop-s.auto.s
          (none-no_descent (integer_matrix c.args.self.now)
          (IsAdmissible-integer_matrix c.args.self.now (rw c.self.view_is at c.rank.ensures.matrix)) c.args.v.now.items c.loop-s.s
          c.exchanged.result c.requires.reduced
          (sym c.is_some.ensures ∙ w.if-is_some.false) c.exchanged.ensures.longer)))
    ]

pub returns-clause-descents : goal.returns-clause-descents
returns-clause-descents c =
    let rank : c.rank-2.result ≡ c.args.self.now.rank = rw c.self.view_is at c.rank-2.ensures.rank
    in let last : c.loop-s.s - 1 ≡ c.args.self.now.rank = omega (arith, rank, c.loop-s-test.false, c.loop-s.auto.s-end (omega arith))
    in c.loop-s.invariant ∙ ap (descents_to (integer_matrix c.args.self.now) c.args.v.now.items) last
    ∙ descents-all (integer_matrix c.args.self.now) c.args.v.now.items

pub returns-clause-word : goal.returns-clause-word
returns-clause-word c =
    let rank : c.rank-2.result ≡ c.args.self.now.rank = rw c.self.view_is at c.rank-2.ensures.rank
    in let last : c.loop-s.s - 1 ≡ c.args.self.now.rank = omega (arith, rank, c.loop-s-test.false, c.loop-s.auto.s-end (omega arith))
    in rw (c.loop-s.invariant, last) (descents-letters (integer_matrix c.args.self.now) c.args.v.now.items c.args.self.now.rank).0

pub returns-clause-few : goal.returns-clause-few
returns-clause-few c =
    let rank : c.rank-2.result ≡ c.args.self.now.rank = rw c.self.view_is at c.rank-2.ensures.rank
    in let last : c.loop-s.s - 1 ≡ c.args.self.now.rank = omega (arith, rank, c.loop-s-test.false, c.loop-s.auto.s-end (omega arith))
    in rw (c.loop-s.invariant, last) (descents-letters (integer_matrix c.args.self.now) c.args.v.now.items c.args.self.now.rank).1
