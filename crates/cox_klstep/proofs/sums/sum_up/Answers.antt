-- The recursion for an extremal x, which s shortens.
use Rattle.std.proofs.Common.{ℕ, ◌<◌, length, arith}
use Rattle.cox_base.specs.IntegerMatrix.{IntegerMatrix, integer_matrix}
use Rattle.cox_poly.specs.Coefficients.{Coefficients}
use Rattle.cox_poly.specs.Polynomial.{coefficient}
use Rattle.cox_hecke.proofs.PolynomialValues.{kl_polynomial, kl_polynomial-is}
use Rattle.cox_context.specs.Numbers.{word_at}
use Rattle.cox_klstep.specs.CorrectionSums.{numbered_sum}
use Rattle.cox_row_symmetry.proofs.DescentsOnSides.{extremal-descent}
use Rattle.cox_klstep.proofs.AddedSums.{three-sums}
use Rattle.cox_klstep.proofs.NumberedRecursion.{below-lowered, sums-are}
use Rattle.cox_klstep.proofs.StepCounts.{added-most}
use Rattle.cox_klstep.proofs.sums.sum_up.Goals as goal

pub add-requires-2-clause-room : goal.add-requires-2-clause-room
add-requires-2-clause-room c = λ k.
    let small = c.add.ensures.size 0 (λ j. rw (c.requires.clear j) (omega arith)) k in omega (arith, small)

pub correct-requires-clause-room : goal.correct-requires-clause-room
correct-requires-clause-room c = λ k.
    let small = c.add-2.ensures.size 1
    (λ j. let first = c.add.ensures.size 0 (λ d. rw (c.requires.clear d) (omega arith)) j in omega (arith, first)) k
    in omega (arith, small)

pub returns-clause-value : goal.returns-clause-value
returns-clause-value c =
    let A : IntegerMatrix = integer_matrix c.args.ctx.now.matrix
    in let P : ℕ → Coefficients = λ u. kl_polynomial A c.len-len.ensures.admissible (word_at c.args.ctx.now.members c.args.x)
    (word_at c.args.ctx.now.members u)
    in let a : Coefficients = kl_polynomial A c.len-len.ensures.admissible (word_at c.args.ctx.now.members c.args.shorter)
    (word_at c.args.ctx.now.members c.args.source.now.step.now.lower)
    in let b : Coefficients = P c.args.source.now.step.now.lower
    in let gives = λ (u : ℕ) (l : u < length c.args.ctx.now.members). kl_polynomial-is A c.len-len.ensures.admissible
    (word_at c.args.ctx.now.members c.args.x) (word_at c.args.ctx.now.members u)
    in let is_a = kl_polynomial-is A c.len-len.ensures.admissible (word_at c.args.ctx.now.members c.args.shorter)
    (word_at c.args.ctx.now.members c.args.source.now.step.now.lower)
    in let is_b = gives c.args.source.now.step.now.lower c.requires.source.step.lower_within
    in sums-are c.args.source.now.step.now.side (integer_matrix c.args.ctx.now.matrix) c.len-len.ensures.admissible
    c.args.ctx.now.members c.len-len.ensures.closed
    c.args.source.now.step.now.member c.requires.source.step.within c.args.source.now.step.now.letter c.requires.source.step.descent
    c.args.source.now.step.now.corrections.items c.requires.source.step.numbered c.args.x c.args.shorter c.args.source.now.step.now.lower
    (extremal-descent c.args.source.now.step.now.side (integer_matrix c.args.ctx.now.matrix) c.args.source.now.step.now.letter
    (word_at c.args.ctx.now.members c.args.source.now.step.now.member) (word_at c.args.ctx.now.members c.args.x) c.requires.extremal
    c.requires.source.step.descent) c.requires.shorter.1 c.requires.source.step.lower_is
    P a b (coefficient c.correct.new.sums) gives is_a is_b
    (three-sums a b (numbered_sum P c.args.source.now.step.now.corrections.items) (coefficient c.args.sums.now) (coefficient c.add.new.sums)
    (coefficient c.add-2.new.sums) (coefficient c.correct.new.sums) c.requires.clear (c.add.ensures.sum a is_a) (c.add-2.ensures.sum b is_b)
    (c.correct.ensures.sum P gives))

-- ---- what is counted

-- the first one is added up, since sx is below sw
pub returns-clause-steps : goal.returns-clause-steps
returns-clause-steps c =
    let first = added-most c.add.result c.args.steps.now c.add.new.steps c.add.ensures.one c.add.ensures.none
    in let most = added-most c.add-2.result c.add.new.steps c.add-2.new.steps c.add-2.ensures.one c.add-2.ensures.none
    in omega (arith, first, most, c.correct.ensures.steps)

pub returns-clause-some : goal.returns-clause-some
returns-clause-some c =
    let lowered = below-lowered c.args.source.now.step.now.side (integer_matrix c.args.ctx.now.matrix) c.len-len.ensures.admissible
    c.args.ctx.now.members c.len-len.ensures.closed
    c.args.source.now.step.now.member c.requires.source.step.within c.args.source.now.step.now.letter c.requires.source.step.descent
    c.args.source.now.step.now.corrections.items c.requires.source.step.numbered c.args.x c.args.shorter c.args.source.now.step.now.lower
    (extremal-descent c.args.source.now.step.now.side (integer_matrix c.args.ctx.now.matrix) c.args.source.now.step.now.letter
    (word_at c.args.ctx.now.members c.args.source.now.step.now.member) (word_at c.args.ctx.now.members c.args.x) c.requires.extremal
    c.requires.source.step.descent) c.requires.shorter.1 c.requires.source.step.lower_is
    in let one = c.add.ensures.one (c.add.ensures.below.1 (lowered.1 c.requires.below))
    in omega (arith, one, c.add-2.ensures.kept, c.correct.ensures.kept)

pub returns-clause-kept : goal.returns-clause-kept
returns-clause-kept c = omega (arith, c.add.ensures.kept, c.add-2.ensures.kept, c.correct.ensures.kept)
