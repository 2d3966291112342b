-- An element that has a polynomial at the place stands for x, and where there is none x is not below v.
use Rattle.cox_base.specs.IntegerMatrix.{integer_matrix}
use Rattle.cox_context.specs.Numbers.{word_at}
use Rattle.cox_row.proofs.LookUps.{value-found, below-found}
use Rattle.cox_row.proofs.reader.RowReader.kept_place.Goals as goal

pub returns-clause-value : goal.returns-clause-value
returns-clause-value c =
    let values = c.args.self.now.values.now
    in value-found (integer_matrix c.args.ctx.now.matrix) c.args.ctx.now.members
    (word_at c.args.ctx.now.members c.args.self.now.member) (word_at c.args.ctx.now.members c.args.x) c.in_ok-top.top
    values.extremal.items values.places values.pool c.requires.reader.values.polynomials c.in_ok-top.ensures.2 c.place_in.result
    (rw c.deref.ensures.value at c.place_in.ensures.within) (rw c.deref.ensures.value at c.place_in.ensures.place)

pub returns-clause-exactly : goal.returns-clause-exactly
returns-clause-exactly c =
    let values = c.args.self.now.values.now
    in let top = c.in_ok-top.ensures
    in below-found (integer_matrix c.args.ctx.now.matrix) c.args.ctx.now.members
    (word_at c.args.ctx.now.members c.args.self.now.member) (word_at c.args.ctx.now.members c.args.x) c.in_ok-top.top
    values.extremal.items c.requires.reader.values.extremal top.0 top.1 top.2 c.place_in.result
    (rw c.deref.ensures.value at c.place_in.ensures.within) (rw c.deref.ensures.value at c.place_in.ensures.place)
    (rw c.deref.ensures.value at c.place_in.ensures.none)

pub returns-in_err-top-clause-exactly : goal.returns-in_err-top-clause-exactly
returns-in_err-top-clause-exactly c = rw c.from_residual.ensures (λ s. absurd (cc), λ b. absurd (c.in_err-top.ensures {u = tt} b))
