-- Each letter is a step of lifting, by the left shift that is kept.
use Rattle.std.proofs.Common.{◌≡◌, [], arith}
use Rattle.std.proofs.lemmas.Bool.{eqb-true, eq-eqb}
use Rattle.cox_base.specs.IntegerMatrix.{IntegerMatrix, integer_matrix}
use Rattle.cox_context.specs.Numbers.{word_at}
use Rattle.cox_context.proofs.Shifting.{first-member}
use Rattle.cox_context.proofs.RightShifts.{first-letter}
use Rattle.cox_context.proofs.OrderOfMembers.{settled-start, settled-step, settled-end}
use Rattle.cox_context.proofs.context.Context.below.Goals as goal

pub left-requires-clause-letter : goal.left-requires-clause-letter
left-requires-clause-letter c =
    first-letter (integer_matrix c.args.self.now.matrix) c.len.ensures.admissible c.args.self.now.members c.len.ensures.closed
    c.link-link.result.first (word_at c.args.self.now.members c.link-link.result.rest) c.loop-upper.upper c.loop-upper.invariant.inside
    c.link-link.ensures.word

pub loop-upper-init : goal.loop-upper-init
loop-upper-init c = record {
  inside = c.requires.j;
  settled = settled-start (integer_matrix c.args.self.now.matrix) c.len.ensures.admissible c.args.self.now.members c.len.ensures.closed
      c.args.i c.args.j c.requires.i;
}

pub loop-upper-preserved-in-Some : goal.loop-upper-preserved-in-Some
loop-upper-preserved-in-Some c =
    let next = settled-step (integer_matrix c.args.self.now.matrix) c.len.ensures.admissible c.args.self.now.members c.len.ensures.closed
    (word_at c.args.self.now.members c.args.i) (word_at c.args.self.now.members c.args.j) c.loop-upper.upper c.link-link.result.rest
    c.link-link.result.first c.loop-upper.rest c.left.result c.loop-upper.invariant.inside c.link-link.ensures.word
    c.loop-upper.invariant.settled c.left.ensures
    in record {
      inside = omega (arith, c.link-link.ensures.inward, c.loop-upper.invariant.inside);
      settled = rw c.min-rest.ensures (rw c.in-Some.is at next);
    }

pub loop-upper-preserved : goal.loop-upper-preserved
loop-upper-preserved c =
    let next = settled-step (integer_matrix c.args.self.now.matrix) c.len.ensures.admissible c.args.self.now.members c.len.ensures.closed
    (word_at c.args.self.now.members c.args.i) (word_at c.args.self.now.members c.args.j) c.loop-upper.upper c.link-link.result.rest
    c.link-link.result.first c.loop-upper.rest c.left.result c.loop-upper.invariant.inside c.link-link.ensures.word
    c.loop-upper.invariant.settled c.left.ensures
    in record {
      inside = omega (arith, c.link-link.ensures.inward, c.loop-upper.invariant.inside);
      settled = rw c.in_default.is at next;
    }

pub returns : goal.returns
returns c =
    let A : IntegerMatrix = integer_matrix c.args.self.now.matrix
    in let zero : c.loop-upper.upper ≡ 0 = omega arith
    in let none : word_at c.args.self.now.members c.loop-upper.upper ≡ [] =
    rw zero (first-member A c.len.ensures.admissible c.args.self.now.members c.len.ensures.closed)
    in settled-end A c.len.ensures.admissible c.args.self.now.members c.len.ensures.closed (word_at c.args.self.now.members c.args.i)
    (word_at c.args.self.now.members c.args.j) (word_at c.args.self.now.members c.loop-upper.upper) c.loop-upper.rest _ none
    c.loop-upper.invariant.settled (eqb-true c.loop-upper.rest 0, eq-eqb c.loop-upper.rest 0)
