-- The proof of `polynomial_at`.
use Rattle.cox_base.specs.IntegerMatrix.{integer_matrix}
use Rattle.cox_replies.proofs.RowTexts.{outside-below, polynomials-member, below-member}
use Rattle.cox_replies.proofs.rows.polynomial_at.Goals as goal

pub returns-in-Some-clause-value : goal.returns-in-Some-clause-value
returns-in-Some-clause-value c =
    let A = integer_matrix c.args.rows.now.elements.matrix in
    let members = c.args.rows.now.elements.members in
    let found = rw (c.context.ensures.context, c.requires.table) at (c.in-Some.ensures {u = tt}) in
    rw c.requires.table (polynomials-member A c.context.ensures.admissible members c.context.ensures.closed c.args.y.now.items c.in-Some.x
    c.args.i c.polynomial.result found.1 c.polynomial.ensures.value)

pub returns-in-Some-clause-none : goal.returns-in-Some-clause-none
returns-in-Some-clause-none c =
    let A = integer_matrix c.args.rows.now.elements.matrix in
    let members = c.args.rows.now.elements.members in
    let found = rw (c.context.ensures.context, c.requires.table) at (c.in-Some.ensures {u = tt}) in
    rw c.requires.table (below-member A c.context.ensures.admissible members c.context.ensures.closed c.args.y.now.items c.in-Some.x
    c.args.i c.polynomial.result found.1 c.polynomial.ensures.exactly)

pub returns-in-None-clause-none : goal.returns-in-None-clause-none
returns-in-None-clause-none c =
    let A = integer_matrix c.args.rows.now.elements.matrix in
    let members = c.args.rows.now.elements.members in
    let outside = rw (c.context.ensures.context, c.requires.table) at (c.in-None.ensures {u = tt}) in
    rw c.requires.table (outside-below A c.context.ensures.admissible members c.context.ensures.closed c.args.y.now.items c.args.i
    c.requires.member outside)
