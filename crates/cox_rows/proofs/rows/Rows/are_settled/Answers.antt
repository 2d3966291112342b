-- A neighbour more; and the corrections are neighbours that the letter shortens.
use Rattle.std.proofs.Common.{◌≡◌, ◌<◌, ◌≤◌, length, below_more, true, ap, ◌∙◌, arith}
use Rattle.cox_base.specs.declared.side.Side.TheVariants.{Left}
use Rattle.cox_base.specs.IntegerMatrix.{integer_matrix}
use Rattle.cox_base.specs.SideDescents.{IsDescent}
use Rattle.cox_reflect.proofs.Elements.{same-refl, same-sym}
use Rattle.cox_context.specs.Numbers.{word_at}
use Rattle.cox_row.specs.Rising.{number_at}
use Rattle.cox_row.proofs.MuOfElements.{mu-words}
use Rattle.cox_row_symmetry.proofs.DescentsOnSides.{lowered-letter}
use Rattle.cox_row_symmetry.proofs.LowerMembers.{lower-same}
use Rattle.cox_rows.proofs.rows.Rows.are_settled.Goals as goal
use Rattle.cox_rows.proofs.rows.Rows.are_settled.Goals.{else-shortens-via-then-shortens+else-not-is_settled}
use Rattle.cox_rows.proofs.rows.Rows.are_settled.Goals.{else-shortens-via-else-shortens}

pub shortens-requires-clause-letter : goal.shortens-requires-clause-letter
shortens-requires-clause-letter c = rw c.context-context.ensures.context
    (lowered-letter Left (integer_matrix c.args.self.now.elements.matrix) c.context-context.ensures.admissible c.args.descent.now.letter
    (word_at c.args.self.now.elements.members c.args.descent.now.member) c.requires.descent.least.descent)

pub shortens-requires-clause-x : goal.shortens-requires-clause-x
shortens-requires-clause-x c =
    let l : c.loop-u.u-index < length c.args.lower.now.neighbours.items = rw c.neighbours-u-items.ensures at c.loop-u-test.true
    in rw (c.context-context.ensures.context, c.neighbours-u-items.ensures) (c.requires.lower.mus.within c.loop-u.u-index l)

pub loop-u-preserved : goal.loop-u-preserved
loop-u-preserved c = below_more _ _ c.loop-u.invariant
    (λ (d : IsDescent Left (integer_matrix c.args.self.now.elements.matrix)
    (word_at c.args.self.now.elements.members (number_at c.neighbours-u-items.result.now c.loop-u.u-index)) c.args.descent.now.letter).
    elim c.else-shortens.branch [
      | else-shortens-via-then-shortens+else-not-is_settled w ↦ w.is_settled.ensures.small w.if-not-is_settled.false
      | else-shortens-via-else-shortens w ↦
          let yes : c.shortens.result ≡ true = c.shortens.ensures.1 (rw c.context-context.ensures.context d)
          in absurd (cc (yes, w.if-shortens.false))
    ])

pub returns : goal.returns
returns c t u m l is =
    let e = c.args.self.now.elements in
    let g = c.context-context.ensures.admissible in
    let q = c.requires.lower.mus.whole u m l (mu-words (integer_matrix e.matrix) g m
    (same-refl (integer_matrix e.matrix) g (word_at e.members u))
    (same-sym (integer_matrix e.matrix) g (lower-same e g c.context-context.ensures.closed c.args.descent.now c.requires.descent))
    is.is_mu) is.some
    in let place : number_at c.neighbours-u-items.result.now q.0 ≡ u
    = ap (λ numbers. number_at numbers q.0) c.neighbours-u-items.ensures ∙ q.2
    in let all : length c.args.lower.now.neighbours.items ≤ c.loop-u.u-index = rw c.neighbours-u-items.ensures at c.loop-u-test.false
    in rw place at (c.loop-u.invariant q.0 (omega (arith, q.1, all)) (rw place is.shortens))
