-- One simple root more.
use Rattle.std.proofs.Common.{◌≡◌, ◌-◌, rules, arith}
use Rattle.cox_base.specs.IntegerMatrix.{integer_matrix}
use Rattle.cox_reflect.proofs.Admissible.{IsAdmissible-integer_matrix}
use Rattle.cox_minroots.proofs.SimpleRoots.{starting, starting-next}
use Rattle.cox_minroots.proofs.closure.simple_roots.Goals as goal

pub loop-s-init : goal.loop-s-init
loop-s-init c = starting _ _ c.new-roots.ensures

pub loop-s-preserved : goal.loop-s-preserved
loop-s-preserved c =
    starting-next (integer_matrix c.args.g.now) (IsAdmissible-integer_matrix c.args.g.now c.rank.ensures.matrix) c.loop-s.roots c.loop-s.s
    c.simple.result
    c.insert.new.self c.loop-s.invariant
    (record { from_one = c.loop-s.auto.s; to_rank = omega (arith, c.loop-s-test.true, c.rank.ensures.rank) }) c.simple.ensures.root
    c.simple.ensures.coroot (search rules) (search rules) c.simple.ensures.small c.simple.ensures.small_coroot
    c.in_ok-insert.ensures.inserted

pub returns-clause-small : goal.returns-clause-small
returns-clause-small c = c.loop-s.invariant.small

pub returns-clause-simple : goal.returns-clause-simple
returns-clause-simple c =
    let all : c.loop-s.s - 1 ≡ c.args.g.now.rank
    = omega (arith, c.loop-s.auto.s-end (omega arith), c.loop-s-test.false, c.rank.ensures.rank)
    in rw all at c.loop-s.invariant.simple
