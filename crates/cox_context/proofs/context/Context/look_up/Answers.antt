-- Each letter is taken with the right shift, which leads to the member of the letters so far.
use Rattle.std.proofs.Common.{◌≡◌, take, sym, ◌∙◌, arith}
use Rattle.std.proofs.lemmas.List.{take_all}
use Rattle.std.proofs.lemmas.List.Elements.{All-get_or}
use Rattle.cox_base.specs.Matrix.{IsLetter}
use Rattle.cox_base.specs.IntegerMatrix.{IntegerMatrix, integer_matrix}
use Rattle.cox_context.proofs.Ideals.{element-nil}
use Rattle.cox_context.proofs.Shifting.{first-member}
use Rattle.cox_context.proofs.NumbersOfWords.{word-longer}
use Rattle.cox_context.proofs.context.Context.look_up.Goals as goal

pub loop-s-init : goal.loop-s-init
loop-s-init c =
    let A : IntegerMatrix = integer_matrix c.args.self.now.matrix
    in record {
      inside = omega (arith, c.len.ensures.closed.some);
      word = first-member A c.len.ensures.admissible c.args.self.now.members c.len.ensures.closed
          ∙ sym (element-nil A c.len.ensures.admissible).normal;
    }

pub right-requires-clause-letter : goal.right-requires-clause-letter
right-requires-clause-letter c =
    All-get_or (IsLetter c.args.self.now.matrix.rank) c.as_slice-letters.result.now c.loop-s.s-index 0 c.loop-s-test.true
    (rw (c.as_slice-letters.ensures.value, ← c.requires.matrix) c.requires.letters)

pub loop-s-preserved : goal.loop-s-preserved
loop-s-preserved c =
    let next = c.in-Some.ensures {u = tt}
    in record {
      inside = next.0;
      word = word-longer (integer_matrix c.args.self.now.matrix) c.len.ensures.admissible c.args.self.now.members c.len.ensures.closed
          c.as_slice-letters.result.now c.loop-s.s-index c.loop-s.at c.in-Some.longer c.loop-s-test.true c.loop-s.invariant.word next.1;
    }

pub returns : goal.returns
returns c =
    let all : take c.loop-s.s-index c.as_slice-letters.result.now ≡ c.args.word.now.items =
    take_all c.loop-s.s-index c.as_slice-letters.result.now c.loop-s-test.false ∙ c.as_slice-letters.ensures.value
    in (c.loop-s.invariant.inside, rw (c.requires.matrix, ← all) c.loop-s.invariant.word)
