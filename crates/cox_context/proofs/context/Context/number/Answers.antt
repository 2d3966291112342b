-- Each letter is taken with the shift that leads to the member that begins with it.
use Rattle.std.proofs.Common.{◌≡◌, ℕ, ◌∷◌, ◌-◌, List, length, slice_index, ap, sym, ◌∙◌, arith}
use Rattle.std.proofs.lemmas.List.{drop_all}
use Rattle.cox_base.specs.Matrix.{CoxeterMatrix}
use Rattle.cox_base.specs.IntegerMatrix.{IntegerMatrix, integer_matrix}
use Rattle.cox_context.specs.Numbers.{word_at}
use Rattle.cox_context.proofs.Shifting.{first-member}
use Rattle.cox_context.proofs.NumbersOfWords.{next-contained, next-word, contained-letter, shift-contained, shift-word}
use Rattle.cox_context.proofs.NumbersOfWords.{shift-later, shift-is}
use Rattle.cox_context.proofs.context.Context.number.Goals as goal
use Rattle.cox_context.proofs.context.Context.number.Goals.{then-s-eq0-via-then-s-eq0, then-s-eq0-via-else-s-eq0+then-s-rank}

pub loop-done-init : goal.loop-done-init
loop-done-init c = record {
  inside = omega (arith, c.len.ensures.closed.some);
  word = first-member (integer_matrix c.args.self.now.matrix) c.len.ensures.admissible c.args.self.now.members c.len.ensures.closed
      ∙ sym (drop_all (length c.as_slice-letters.result.now - 0) c.as_slice-letters.result.now (omega arith));
}

pub returns-then-s-eq0 : goal.returns-then-s-eq0
returns-then-s-eq0 c = λ there.
    let next = next-contained (integer_matrix c.args.self.now.matrix) c.len.ensures.admissible c.args.self.now.members c.len.ensures.closed
    c.as_slice-letters.result.now c.args.word.now.items c.loop-done.done c.loop-done.at c.loop-done-test.true
    c.as_slice-letters.ensures.value c.loop-done.invariant.word there
    in let letter = contained-letter (integer_matrix c.args.self.now.matrix) c.len.ensures.admissible c.args.self.now.members
    c.len.ensures.closed _ (word_at c.args.self.now.members c.loop-done.at) next
    in elim c.then-s-eq0.branch [
      | then-s-eq0-via-then-s-eq0 w ↦ omega (arith, letter.from_one, w.if-s-eq0.true)
      | then-s-eq0-via-else-s-eq0+then-s-rank w ↦ omega (
        arith,
        letter.to_rank,
        w.if-s-rank.true,
        c.rank-rank.ensures.rank,
        ap (λ
            (m : CoxeterMatrix). m.rank) c.matrix.ensures,
      )
    ]

pub returns-in_err-longer : goal.returns-in_err-longer
returns-in_err-longer c = rw c.from_residual.ensures (λ there.
    let next = next-contained (integer_matrix c.args.self.now.matrix) c.len.ensures.admissible c.args.self.now.members c.len.ensures.closed
    c.as_slice-letters.result.now c.args.word.now.items c.loop-done.done c.loop-done.at c.loop-done-test.true
    c.as_slice-letters.ensures.value c.loop-done.invariant.word there
    in shift-contained (integer_matrix c.args.self.now.matrix) c.len.ensures.admissible c.args.self.now.members c.len.ensures.closed _
    (word_at c.args.self.now.members c.loop-done.at) next c.in_err-longer.ensures)

pub returns-then-longer-at : goal.returns-then-longer-at
returns-then-longer-at c = λ there.
    let next = next-contained (integer_matrix c.args.self.now.matrix) c.len.ensures.admissible c.args.self.now.members c.len.ensures.closed
    c.as_slice-letters.result.now c.args.word.now.items c.loop-done.done c.loop-done.at c.loop-done-test.true
    c.as_slice-letters.ensures.value c.loop-done.invariant.word there
    in let later = shift-later (integer_matrix c.args.self.now.matrix) c.len.ensures.admissible c.args.self.now.members
    c.len.ensures.closed _
    c.loop-done.at c.in_ok-longer.longer next c.loop-done.invariant.inside c.in_ok-longer.ensures.0 c.in_ok-longer.ensures.1
    in omega (arith, later, c.if-longer-at.true)

pub returns-then-link-s : goal.returns-then-link-s
returns-then-link-s c = λ there.
    let next = next-contained (integer_matrix c.args.self.now.matrix) c.len.ensures.admissible c.args.self.now.members c.len.ensures.closed
    c.as_slice-letters.result.now c.args.word.now.items c.loop-done.done c.loop-done.at c.loop-done-test.true
    c.as_slice-letters.ensures.value c.loop-done.invariant.word there
    in let word = shift-word (integer_matrix c.args.self.now.matrix) c.len.ensures.admissible c.args.self.now.members c.len.ensures.closed _
    c.loop-done.at c.in_ok-longer.longer next c.in_ok-longer.ensures.1
    in c.if-link-s.true (same_first (sym c.link.ensures.word ∙ word))
  where
    same_first : {s t : ℕ} {x y : List ℕ} → s ∷ x ≡ t ∷ y → s ≡ t
    same_first e = cc

pub loop-done-preserved : goal.loop-done-preserved
loop-done-preserved c =
    let A : IntegerMatrix = integer_matrix c.args.self.now.matrix
    in let s : ℕ = slice_index c.as_slice-letters.result.now (length c.as_slice-letters.result.now - 1 - c.loop-done.done)
    in let first : word_at c.args.self.now.members c.in_ok-longer.longer ≡ s ∷ word_at c.args.self.now.members c.link.result.rest =
    c.link.ensures.word ∙ ap (λ (q : ℕ). q ∷ word_at c.args.self.now.members c.link.result.rest) c.if-link-s.false
    in record {
      inside = c.in_ok-longer.ensures.0;
      word = next-word A c.len.ensures.admissible c.args.self.now.members c.len.ensures.closed c.as_slice-letters.result.now
          c.loop-done.done
          c.loop-done.at c.in_ok-longer.longer c.loop-done-test.true c.loop-done.invariant.word
          (shift-is A c.len.ensures.admissible c.args.self.now.members c.len.ensures.closed s c.loop-done.at c.in_ok-longer.longer
          c.link.result.rest c.loop-done.invariant.inside c.in_ok-longer.ensures.0 c.in_ok-longer.ensures.1 first);
    }
