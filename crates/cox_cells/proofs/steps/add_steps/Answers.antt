-- Each value of mu adds the steps either way.
use Rattle.std.proofs.Common.{◌≡◌, ◌+◌, suc, refl, ◌∙◌, arith}
use Rattle.cox_row.specs.Rising.{number_at}
use Rattle.cox_scc.specs.Graph.{edges_of}
use Rattle.cox_cells.proofs.AddedSteps.{adds-if, steps-begin, steps-both, steps-end}
use Rattle.cox_cells.proofs.steps.add_steps.Goals as goal

pub loop-i-init : goal.loop-i-init
loop-i-init c =
    let e = c.args.context.now in
    let h = c.requires.neighbours
    in record {
      vertices = refl;
      steps = steps-begin c.args.kind e c.len-len.ensures.admissible c.len-len.ensures.closed c.args.j c.requires.member
          c.args.neighbours.now h.values h.mus (edges_of c.args.steps.now) c.requires.steps;
    }

pub loop-i-preserved : goal.loop-i-preserved
loop-i-preserved c =
    let e = c.args.context.now in
    let h = c.requires.neighbours in
    let i = number_at c.args.neighbours.now c.loop-i.i-index in
    let up = adds-if c.args.kind e c.len-len.ensures.admissible i c.args.j c.counted_descents-theirs.result c.counted_descents-own.result
    c.has_own.result (edges_of c.loop-i.steps) (edges_of c.add_if.new.self) c.counted_descents-theirs.ensures
    c.counted_descents-own.ensures c.has_own.ensures c.in_ok-add_if.ensures.edges in
    let down = adds-if c.args.kind e c.len-len.ensures.admissible c.args.j i c.counted_descents-own.result c.counted_descents-theirs.result
    c.has_own-in-loop-i.result (edges_of c.add_if.new.self) (edges_of c.add_if-in-loop-i.new.self) c.counted_descents-own.ensures
    c.counted_descents-theirs.ensures c.has_own-in-loop-i.ensures c.in_ok-add_if-2.ensures.edges in
    let next : c.loop-i.i-index + 1 ≡ suc c.loop-i.i-index = omega arith
    in record {
      vertices = c.add_if-in-loop-i.ensures.vertices ∙ c.add_if.ensures.vertices ∙ c.loop-i.invariant.vertices;
      steps = rw next (steps-both c.args.kind e c.len-len.ensures.admissible c.len-len.ensures.closed c.args.j c.requires.member
          c.args.neighbours.now h.values h.mus (edges_of c.loop-i.steps) (edges_of c.add_if.new.self)
          (edges_of c.add_if-in-loop-i.new.self) c.loop-i.i-index c.loop-i-test.true up down c.loop-i.invariant.steps);
    }

pub returns-clause-steps : goal.returns-clause-steps
returns-clause-steps c =
    let e = c.args.context.now in
    let h = c.requires.neighbours in
    let next : c.args.j + 1 ≡ suc c.args.j = omega arith
    in rw next (steps-end c.args.kind e c.len-len.ensures.admissible c.len-len.ensures.closed c.args.j c.requires.member
    c.args.neighbours.now h.values h.mus (edges_of c.loop-i.steps) c.loop-i.i-index
    (omega (arith, c.loop-i-test.false)) c.loop-i.invariant.steps)
