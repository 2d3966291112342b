-- The proof of `compare_letters`.
use Rattle.std.proofs.Common.{◌≡◌, ℕ, ◌∷◌, length, ap, sym, ◌∙◌, arith}
use Rattle.cox_base.specs.IntegerMatrix.{integer_matrix}
use Rattle.cox_base.specs.Admissible.{IsAdmissible}
use Rattle.cox_context.specs.Closed.{Elements, IsClosed}
use Rattle.cox_context.specs.Numbers.{word_at}
use Rattle.cox_row_symmetry.specs.declared.descents.Descent.{Descent}
use Rattle.cox_row_symmetry.specs.DescentOf.{IsDescentAt}
use Rattle.cox_replies.proofs.OrderOfWords.{first-descent, some-letters, same-letters, next-letters, first-letters}
use Rattle.cox_replies.proofs.order.compare_letters.Goals as goal

-- the first letter of a member, and the rest
begins : (e : Elements) → IsAdmissible (integer_matrix e.matrix) → IsClosed (integer_matrix e.matrix) e.members → (i : ℕ) (d : Descent)
    → d.member ≡ i → IsDescentAt e d → word_at e.members i ≡ d.letter ∷ word_at e.members d.lower
begins e g closed i d is descent =
    first-descent (integer_matrix e.matrix) g e.members closed i d.lower d.letter (rw is at descent.within) (rw is at descent.least)
    (rw is at descent.lower_is)

pub of-first-requires-clause-some : goal.of-first-requires-clause-some
of-first-requires-clause-some c =
    let e = c.args.context.now in
    some-letters (integer_matrix e.matrix) c.len.ensures.admissible e.members c.len.ensures.closed c.loop-left.left c.loop-left.right
    c.loop-left.invariant.left c.loop-left.invariant.right c.loop-left.invariant.size c.loop-left-test.true

pub of-second-requires-clause-some : goal.of-second-requires-clause-some
of-second-requires-clause-some c =
    let e = c.args.context.now in
    some-letters (integer_matrix e.matrix) c.len.ensures.admissible e.members c.len.ensures.closed c.loop-left.right c.loop-left.left
    c.loop-left.invariant.right c.loop-left.invariant.left (sym c.loop-left.invariant.size) (λ same. c.loop-left-test.true (sym same))

pub loop-left-smaller : goal.loop-left-smaller
loop-left-smaller c =
    let left = begins c.args.context.now c.len.ensures.admissible c.len.ensures.closed c.loop-left.left c.of-first.result
    c.of-first.ensures.number c.of-first.ensures.descent in
    omega (arith, ap length left)

pub loop-left-preserved : goal.loop-left-preserved
loop-left-preserved c =
    let e = c.args.context.now in
    let left = begins e c.len.ensures.admissible c.len.ensures.closed c.loop-left.left c.of-first.result c.of-first.ensures.number
    c.of-first.ensures.descent in
    let right = begins e c.len.ensures.admissible c.len.ensures.closed c.loop-left.right c.of-second.result c.of-second.ensures.number
    c.of-second.ensures.descent in
    record {
      left = c.of-first.ensures.descent.lower_within;
      right = c.of-second.ensures.descent.lower_within;
      size = omega (arith, ap length left, ap length right, c.loop-left.invariant.size);
      order = (rw (left, right) at c.loop-left.invariant.order)
          ∙ next-letters c.of-first.result.letter c.of-second.result.letter (word_at e.members c.of-first.result.lower)
          (word_at e.members c.of-second.result.lower) (sym c.cmp.ensures ∙ c.in-Equal.is);
    }

pub returns-in_default : goal.returns-in_default
returns-in_default c =
    let e = c.args.context.now in
    let left = begins e c.len.ensures.admissible c.len.ensures.closed c.loop-left.left c.of-first.result c.of-first.ensures.number
    c.of-first.ensures.descent in
    let right = begins e c.len.ensures.admissible c.len.ensures.closed c.loop-left.right c.of-second.result c.of-second.ensures.number
    c.of-second.ensures.descent in
    sym ((rw (left, right) at c.loop-left.invariant.order)
    ∙ first-letters c.of-first.result.letter c.of-second.result.letter (word_at e.members c.of-first.result.lower)
    (word_at e.members c.of-second.result.lower) c.cmp.result (sym c.cmp.ensures) c.in_default.not-Equal)

pub returns : goal.returns
returns c =
    let e = c.args.context.now in
    sym (c.loop-left.invariant.order
    ∙ same-letters (word_at e.members c.loop-left.left) (word_at e.members c.loop-left.right)
    (ap (word_at e.members) c.loop-left-test.false))
