-- The walk over the table follows the root of s through the word, from its last letter.
use Rattle.std.proofs.Common.{ℕ, ◌-◌, ◌+◌, ◌*◌, ◌≤◌, ◌<◌, rules, refl, arith, length, get_or}
use Rattle.cox_base.specs.declared.limits.TheConstants.{MAX_RANK}
use Rattle.cox_base.specs.IntegerMatrix.{integer_matrix}
use Rattle.cox_reflect.proofs.Admissible.{IsAdmissible-integer_matrix}
use Rattle.cox_minroots.specs.Moves.{IsRootTable}
use Rattle.cox_minroots.proofs.TableWalks.{walk-start, walk-negative, walk-out, walk-on, walk-end}
use Rattle.cox_minroots.proofs.table.RootTable.exchanged.Goals as goal

pub loop-done-init : goal.loop-done-init
loop-done-init c =
    let t : IsRootTable (integer_matrix c.args.self.now) c.self.inside.count c.self.inside.moves.items
    = rw c.self.view_is at c.self.invariant
    in rw (c.as_slice-moves.ensures.value, c.as_slice-letters.ensures.value)
    (walk-start (integer_matrix c.args.self.now) c.self.inside.count c.self.inside.moves.items c.args.w.now.items c.args.s t
    c.requires.letters
    c.requires.letter c.requires.reduced)

pub returns-then-next-clause-without : goal.returns-then-next-clause-without
returns-then-next-clause-without c =
    let inside : c.self.inside.group.rank ≤ MAX_RANK = omega (arith, c.rank.ensures.rank, c.rank.ensures.limit)
    in let fits : c.args.self.now.rank ≤ MAX_RANK = rw c.self.view_is at inside
    in rw c.as_slice-letters.ensures.value (rw c.as_slice-letters.ensures.value at (walk-negative (integer_matrix c.args.self.now)
    (IsAdmissible-integer_matrix c.args.self.now (rw c.self.view_is at c.rank.ensures.matrix)) fits c.as_slice-moves.result.now
    c.as_slice-letters.result.now c.args.s c.loop-done.done c.loop-done.root c.loop-done.invariant c.loop-done-test.true _ refl _ refl _
    refl c.if-next.true))

pub returns-then-next-2-clause-longer : goal.returns-then-next-2-clause-longer
returns-then-next-2-clause-longer c =
    let inside : c.self.inside.group.rank ≤ MAX_RANK = omega (arith, c.rank.ensures.rank, c.rank.ensures.limit)
    in let fits : c.args.self.now.rank ≤ MAX_RANK = rw c.self.view_is at inside
    in rw c.as_slice-letters.ensures.value at (walk-out (integer_matrix c.args.self.now)
    (IsAdmissible-integer_matrix c.args.self.now (rw c.self.view_is at c.rank.ensures.matrix)) fits c.as_slice-moves.result.now
    c.as_slice-letters.result.now c.args.s c.loop-done.done c.loop-done.root c.loop-done.invariant c.loop-done-test.true _ refl _ refl _
    refl c.if-next-2.true)

pub loop-done-preserved : goal.loop-done-preserved
loop-done-preserved c =
    let move : ℕ = get_or c.as_slice-moves.result.now (MAX_RANK * c.loop-done.root
    + (get_or c.as_slice-letters.result.now (length c.as_slice-letters.result.now - 1 - c.loop-done.done) 0 - 1)) 0
    in let small : move < 65536 = search rules
    in let inside : c.self.inside.group.rank ≤ MAX_RANK = omega (arith, c.rank.ensures.rank, c.rank.ensures.limit)
    in let fits : c.args.self.now.rank ≤ MAX_RANK = rw c.self.view_is at inside
    in walk-on (integer_matrix c.args.self.now)
    (IsAdmissible-integer_matrix c.args.self.now (rw c.self.view_is at c.rank.ensures.matrix)) fits c.as_slice-moves.result.now
    c.as_slice-letters.result.now c.args.s c.loop-done.done c.loop-done.root c.loop-done.invariant c.loop-done-test.true _ refl _ refl _
    refl (omega (arith, c.if-next.false, c.if-next-2.false, small))

pub returns-clause-longer : goal.returns-clause-longer
returns-clause-longer c =
    rw c.as_slice-letters.ensures.value at (walk-end (integer_matrix c.args.self.now)
    (IsAdmissible-integer_matrix c.args.self.now (rw c.self.view_is at c.rank.ensures.matrix)) c.as_slice-moves.result.now
    c.as_slice-letters.result.now
    c.args.s c.loop-done.done c.loop-done.root c.loop-done.invariant
    (omega (arith, c.loop-done-test.false, c.loop-done.auto.done-end)))

pub returns-clause-matrix : goal.returns-clause-matrix
returns-clause-matrix c = rw c.self.view_is at c.rank.ensures.matrix

pub returns-then-next-clause-matrix : goal.returns-then-next-clause-matrix
returns-then-next-clause-matrix c = rw c.self.view_is at c.rank.ensures.matrix

pub returns-then-next-2-clause-matrix : goal.returns-then-next-2-clause-matrix
returns-then-next-2-clause-matrix c = rw c.self.view_is at c.rank.ensures.matrix
