-- A correction is a neighbour that the letter shortens.
use Rattle.std.proofs.Common.{◌+◌, ◌<◌, ◌≤◌, length, refl, arith}
use Rattle.cox_base.specs.IntegerMatrix.{integer_matrix}
use Rattle.cox_context.specs.Numbers.{word_at}
use Rattle.cox_row_symmetry.proofs.DescentsOnSides.{lowered-letter}
use Rattle.cox_klstep.proofs.CountedCorrections.{counted-start, counted-skip, counted-take, counted-few, counted-end}
use Rattle.cox_klstep.proofs.choice.correction_count.Goals as goal
use Rattle.cox_klstep.proofs.choice.correction_count.Goals.{then-shortens+else-count-bound, else-shortens}

pub shortens-requires-clause-letter : goal.shortens-requires-clause-letter
shortens-requires-clause-letter c = lowered-letter c.args.side (integer_matrix c.args.ctx.now.matrix) c.len-len.ensures.admissible
    c.args.descent.now.letter (word_at c.args.ctx.now.members c.args.descent.now.member) c.requires.descent.descent

pub shortens-requires-clause-x : goal.shortens-requires-clause-x
shortens-requires-clause-x c =
    let l : c.loop-u.u-index < length c.args.row.now.neighbours.items = rw c.neighbours-u-items.ensures at c.loop-u-test.true
    in rw c.neighbours-u-items.ensures (c.requires.row.mus.within c.loop-u.u-index l)

pub loop-u-init : goal.loop-u-init
loop-u-init c = record {
  counted = rw c.neighbours-u-items.ensures (counted-start c.args.side (integer_matrix c.args.ctx.now.matrix)
      c.len-len.ensures.admissible c.args.ctx.now.members c.len-len.ensures.closed c.args.descent.now.member
      c.args.descent.now.lower c.args.descent.now.letter
      c.requires.descent.within c.requires.descent.lower_within c.requires.descent.descent c.requires.descent.lower_is
      c.args.row.now.neighbours.items c.args.row.now.mu.items c.requires.row.mus);
  fewer = omega arith;
}

pub loop-u-preserved : goal.loop-u-preserved
loop-u-preserved c =
    let l : c.loop-u.u-index < length c.args.row.now.neighbours.items = rw c.neighbours-u-items.ensures at c.loop-u-test.true
    in let before = rw c.neighbours-u-items.ensures at c.loop-u.invariant.counted
    in elim c.if-shortens.branch [
      | then-shortens+else-count-bound w ↦ rw w.count-is record {
        counted = rw c.neighbours-u-items.ensures (counted-take c.args.side (integer_matrix c.args.ctx.now.matrix)
            c.len-len.ensures.admissible c.args.ctx.now.members c.len-len.ensures.closed c.args.descent.now.member
            c.args.descent.now.lower c.args.descent.now.letter
            c.requires.descent.within c.requires.descent.lower_within c.requires.descent.descent c.requires.descent.lower_is
            c.args.row.now.neighbours.items c.args.row.now.mu.items c.requires.row.mus
            c.loop-u.u-index (c.loop-u.u-index + 1) c.loop-u.count refl l
            (rw c.neighbours-u-items.ensures at (c.shortens.ensures.0 w.if-shortens.true)) before);
        fewer = omega (arith, w.if-count-bound.false, c.loop-u.invariant.fewer);
      }
      | else-shortens w ↦ rw w.count-is record {
        counted = rw c.neighbours-u-items.ensures (counted-skip c.args.side (integer_matrix c.args.ctx.now.matrix)
            c.len-len.ensures.admissible c.args.ctx.now.members c.len-len.ensures.closed c.args.descent.now.member
            c.args.descent.now.lower c.args.descent.now.letter
            c.requires.descent.within c.requires.descent.lower_within c.requires.descent.descent c.requires.descent.lower_is
            c.args.row.now.neighbours.items c.args.row.now.mu.items c.requires.row.mus
            c.loop-u.u-index (c.loop-u.u-index + 1) c.loop-u.count refl
            (λ d. let yes = c.shortens.ensures.1 (rw c.neighbours-u-items.ensures d) in absurd (cc (w.if-shortens.false))) before);
        fewer = c.loop-u.invariant.fewer;
      }
    ]

-- the bound is reached

pub returns-then-count-bound-clause-none : goal.returns-then-count-bound-clause-none
returns-then-count-bound-clause-none c = λ list are.
    let l : c.loop-u.u-index < length c.args.row.now.neighbours.items = rw c.neighbours-u-items.ensures at c.loop-u-test.true
    in let taken = counted-take c.args.side (integer_matrix c.args.ctx.now.matrix)
    c.len-len.ensures.admissible c.args.ctx.now.members c.len-len.ensures.closed c.args.descent.now.member
    c.args.descent.now.lower c.args.descent.now.letter
    c.requires.descent.within c.requires.descent.lower_within c.requires.descent.descent c.requires.descent.lower_is
    c.args.row.now.neighbours.items c.args.row.now.mu.items c.requires.row.mus
    c.loop-u.u-index (c.loop-u.u-index + 1) c.loop-u.count refl l
    (rw c.neighbours-u-items.ensures at (c.shortens.ensures.0 c.if-shortens.true))
    (rw c.neighbours-u-items.ensures at c.loop-u.invariant.counted)
    in let few = counted-few c.args.side (integer_matrix c.args.ctx.now.matrix)
    c.len-len.ensures.admissible c.args.ctx.now.members c.len-len.ensures.closed c.args.descent.now.member
    c.args.descent.now.lower c.args.descent.now.letter
    c.requires.descent.within c.requires.descent.lower_within c.requires.descent.descent c.requires.descent.lower_is
    c.args.row.now.neighbours.items c.args.row.now.mu.items c.requires.row.mus
    (c.loop-u.u-index + 1) (c.loop-u.count + 1) (omega (arith, l)) taken list are
    in omega (arith, few, c.if-count-bound.true)

pub returns-clause-count : goal.returns-clause-count
returns-clause-count c = λ list are.
    let all : length c.args.row.now.neighbours.items ≤ c.loop-u.u-index = rw c.neighbours-u-items.ensures at c.loop-u-test.false
    in let within : c.loop-u.u-index ≤ length c.args.row.now.neighbours.items
    = rw c.neighbours-u-items.ensures at c.loop-u.auto.u-index-end
    in counted-end c.args.side (integer_matrix c.args.ctx.now.matrix)
    c.len-len.ensures.admissible c.args.ctx.now.members c.len-len.ensures.closed c.args.descent.now.member
    c.args.descent.now.lower c.args.descent.now.letter
    c.requires.descent.within c.requires.descent.lower_within c.requires.descent.descent c.requires.descent.lower_is
    c.args.row.now.neighbours.items c.args.row.now.mu.items c.requires.row.mus
    c.loop-u.u-index c.loop-u.count all within (rw c.neighbours-u-items.ensures at c.loop-u.invariant.counted) list are
