-- The letters found so far are those up to the last whose heights are negative.
use Rattle.std.proofs.Common.{ℕ, ◌≡◌, suc, ◌+◌, ◌-◌, List, length, sym, ap, ◌∙◌, arith, lit<}
use Rattle.std.proofs.lemmas.Bool.{false≢true}
use Rattle.cox_base.specs.Matrix.{IsWord}
use Rattle.cox_reflect.proofs.LetterLists.{negative_letters-none, negative_letters-yes, negative_letters-no}
use Rattle.cox_reflect.proofs.LetterLists.{negative_letters-descents, IsWord-negative_letters, length-negative_letters}
use Rattle.cox_reflect.proofs.height_row.descents_of.Goals as goal
use Rattle.cox_reflect.proofs.height_row.descents_of.Goals.{then-is_negative, else-is_negative}

pub push-requires : goal.push-requires
push-requires g c = (
  lit< tt,
  omega (
    arith,
    ap (λ (xs : List ℕ). length xs) c.loop-letter.invariant,
    length-negative_letters (g.H.HeightRow.values c.args.heights.now)
        (c.loop-letter.letter - 1),
  ),
)

pub loop-letter-init : goal.loop-letter-init
loop-letter-init g c = c.new-found.ensures ∙ sym (negative_letters-none (g.H.HeightRow.values c.args.heights.now))

pub loop-letter-preserved : goal.loop-letter-preserved
loop-letter-preserved g c =
    let at : c.loop-letter.letter + 1 - 1 ≡ c.loop-letter.letter = omega arith
    in let here : c.loop-letter.letter ≡ suc (c.loop-letter.letter - 1) = omega arith
    in elim c.if-is_negative.branch [
      | then-is_negative w ↦ rw (w.found-is, w.push.ensures.items, at, c.loop-letter.invariant)
          (sym (negative_letters-yes (g.H.HeightRow.values c.args.heights.now) (c.loop-letter.letter - 1) c.loop-letter.letter here
          (c.is_negative.ensures.0 w.if-is_negative.true)))
      | else-is_negative w ↦ rw (w.found-is, at, c.loop-letter.invariant)
          (sym (negative_letters-no (g.H.HeightRow.values c.args.heights.now) (c.loop-letter.letter - 1) c.loop-letter.letter here
          (λ h. absurd (false≢true (sym w.if-is_negative.false ∙ c.is_negative.ensures.1 h)))))
    ]

pub returns-clause-descents : goal.returns-clause-descents
returns-clause-descents g c = λ A u p e a.
    let last : c.loop-letter.letter - 1 ≡ A.rank = omega (arith, e)
    in c.loop-letter.invariant ∙ rw last (negative_letters-descents A p u (g.H.HeightRow.values c.args.heights.now) a)

pub returns-clause-letters : goal.returns-clause-letters
returns-clause-letters g c =
    let last : c.loop-letter.letter - 1 ≡ c.args.rank = omega arith
    in let all : IsWord c.args.rank c.loop-letter.found.items = rw (c.loop-letter.invariant, last)
    (IsWord-negative_letters (g.H.HeightRow.values c.args.heights.now) c.args.rank)
    in all

pub returns-clause-short : goal.returns-clause-short
returns-clause-short g c = omega (
  arith,
  ap (λ (xs : List ℕ). length xs) c.loop-letter.invariant,
  length-negative_letters (g.H.HeightRow.values c.args.heights.now)
      (c.loop-letter.letter - 1),
)
