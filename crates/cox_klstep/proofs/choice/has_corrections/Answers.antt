-- A correction is a neighbour that the letter shortens.
use Rattle.std.proofs.Common.{◌≡◌, ◌<◌, ◌≤◌, length, refl, ⊎_elim, arith}
use Rattle.std.proofs.lemmas.Bool.{cases_lt}
use Rattle.cox_base.specs.IntegerMatrix.{integer_matrix}
use Rattle.cox_context.specs.Numbers.{word_at}
use Rattle.cox_row.specs.Rising.{number_at}
use Rattle.cox_row.specs.Mus.{value_at}
use Rattle.cox_row_symmetry.proofs.DescentsOnSides.{lowered-letter}
use Rattle.cox_klstep.proofs.Chosen.{correction-place, neighbour-corrects}
use Rattle.cox_klstep.proofs.choice.has_corrections.Goals as goal
use Rattle.cox_klstep.proofs.choice.has_corrections.Goals.{then-shortens+else-not-has, else-shortens}

pub shortens-requires-clause-letter : goal.shortens-requires-clause-letter
shortens-requires-clause-letter g c = lowered-letter c.args.side (integer_matrix c.args.ctx.now.matrix) c.len-len.ensures.admissible
    c.args.descent.now.letter (word_at c.args.ctx.now.members c.args.descent.now.member) c.requires.descent.descent

pub shortens-requires-clause-x : goal.shortens-requires-clause-x
shortens-requires-clause-x g c =
    let l : c.loop-u.u-index < length c.args.row.now.neighbours.items = rw c.neighbours-u-items.ensures at c.loop-u-test.true
    in rw c.neighbours-u-items.ensures (c.requires.row.mus.within c.loop-u.u-index l)

pub loop-u-init : goal.loop-u-init
loop-u-init g c = λ k l d. absurd (omega (arith, l))

pub loop-u-preserved : goal.loop-u-preserved
loop-u-preserved g c = λ k l d. ⊎_elim (λ (less : k < c.loop-u.u-index). c.loop-u.invariant k less d)
    (λ (more : c.loop-u.u-index ≤ k).
    let is : k ≡ c.loop-u.u-index = omega (arith, l, more)
    in elim c.if-shortens.branch [
      | then-shortens+else-not-has w ↦ rw is (w.has.ensures.0 w.if-not-has.false)
      | else-shortens w ↦ let yes = c.shortens.ensures.1 (rw is at d) in absurd (cc (w.if-shortens.false))
    ])
    (cases_lt k c.loop-u.u-index)

pub returns : goal.returns
returns g c = (
  λ _ u m l h.
      let all : length c.args.row.now.neighbours.items ≤ c.loop-u.u-index = rw c.neighbours-u-items.ensures at c.loop-u-test.false
      in let held = rw c.neighbours-u-items.ensures at c.loop-u.invariant
      in let p = correction-place c.args.side (integer_matrix c.args.ctx.now.matrix) c.len-len.ensures.admissible c.args.ctx.now.members
      (word_at c.args.ctx.now.members c.args.descent.now.member) c.args.descent.now.lower c.args.descent.now.letter
      c.requires.descent.lower_is c.args.row.now.neighbours.items c.args.row.now.mu.items c.requires.row.mus u m l h
      in rw (← p.2) (held p.0 (omega (arith, p.1, all)) (rw p.2 h.shortens)),
  λ _. refl,
)

-- one of them is not there
pub returns-then-not-has : goal.returns-then-not-has
returns-then-not-has g c =
    let l : c.loop-u.u-index < length c.args.row.now.neighbours.items = rw c.neighbours-u-items.ensures at c.loop-u-test.true
    in let within = c.requires.row.mus.within c.loop-u.u-index l
    in let corrects = neighbour-corrects c.args.side (integer_matrix c.args.ctx.now.matrix) c.len-len.ensures.admissible
    c.args.ctx.now.members (word_at c.args.ctx.now.members c.args.descent.now.member) c.args.descent.now.lower c.args.descent.now.letter
    c.requires.descent.lower_is c.args.row.now.neighbours.items c.args.row.now.mu.items c.requires.row.mus c.loop-u.u-index l
    (rw c.neighbours-u-items.ensures at (c.shortens.ensures.0 c.if-shortens.true))
    in (
      λ yes. absurd (cc (yes)),
      λ there.
          let has = c.has.ensures.1 (rw c.neighbours-u-items.ensures (there (number_at c.args.row.now.neighbours.items c.loop-u.u-index)
          (value_at c.args.row.now.mu.items c.loop-u.u-index) within corrects))
          in absurd (cc (has)),
    )
