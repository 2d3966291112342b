-- Where there is a polynomial, x is below z, and its terms are small.
use Rattle.std.proofs.Common.{refl, arith}
use Rattle.cox_base.specs.IntegerMatrix.{integer_matrix}
use Rattle.cox_context.specs.Numbers.{word_at}
use Rattle.cox_inverse.specs.declared.fault.TheConstants.{MAX_COEFFICIENT}
use Rattle.cox_inverse.proofs.RecursionSums.{polynomial-degree_below, polynomial-within}
use Rattle.cox_inverse.proofs.SummedMembers.{member-short, lengths-below}
use Rattle.cox_inverse.proofs.sums.take_off_member.Goals as goal

pub overflow_sub-difference : goal.overflow_sub-difference
overflow_sub-difference c =
    let less = lengths-below c.args.ctx.now c.len-len.ensures.admissible c.len-len.ensures.closed c.args.x c.args.z c.requires.x
    c.requires.z (c.in-Some.ensures.exactly.0 refl)
    in omega (arith, less, c.length.ensures.length, c.length-in-Some.ensures.length)

pub take_off-requires-clause-p_degree : goal.take_off-requires-clause-p_degree
take_off-requires-clause-p_degree c =
    polynomial-degree_below (integer_matrix c.args.ctx.now.matrix) c.len-len.ensures.admissible
    (word_at c.args.ctx.now.members c.args.x) (word_at c.args.ctx.now.members c.args.z) c.in-Some.p
    (member-short c.args.ctx.now c.len-len.ensures.admissible c.len-len.ensures.closed c.args.z c.requires.z) c.in-Some.ensures.value

pub take_off-requires-clause-p_small : goal.take_off-requires-clause-p_small
take_off-requires-clause-p_small c =
    polynomial-within (integer_matrix c.args.ctx.now.matrix) c.len-len.ensures.admissible
    (word_at c.args.ctx.now.members c.args.x) (word_at c.args.ctx.now.members c.args.z) MAX_COEFFICIENT c.in-Some.p
    (c.requires.small (c.in-Some.ensures.exactly.0 refl)) c.in-Some.ensures.value
