-- What is read off at the image of x is right for x; and where x has no image, it is not below w.
use Rattle.std.proofs.lemmas.Option.{IfSome_then}
use Rattle.cox_base.specs.IntegerMatrix.{integer_matrix}
use Rattle.cox_poly.specs.Polynomial.{coefficient}
use Rattle.cox_row.specs.Polynomials.{polynomial_at}
use Rattle.cox_row.specs.Rising.{number_at}
use Rattle.cox_row.proofs.ViewedPolynomials.{viewed-right, viewed-there, viewed-below, viewed-polynomial}
use Rattle.cox_row.proofs.reader.RowReader.place.Goals as goal

pub kept_place-requires-in-Some-clause-x : goal.kept_place-requires-in-Some-clause-x
kept_place-requires-in-Some-clause-x c =
    let serves = rw c.in-Some.is at c.requires.reader.serves
    in (viewed-right (integer_matrix c.args.ctx.now.matrix) c.len-len.ensures.admissible c.args.ctx.now.members c.len-len.ensures.closed
    c.args.self.now.number c.requires.reader.number c.in-Some.view.now serves.0
    c.args.x c.in_ok-image-in-Some.image c.requires.x c.in_ok-image-in-Some.ensures).0

pub returns-in_err-image-in-Some-clause-exactly : goal.returns-in_err-image-in-Some-clause-exactly
returns-in_err-image-in-Some-clause-exactly c =
    let serves = rw c.in-Some.is at c.requires.reader.serves
    in rw c.from_residual.ensures (
      λ s. absurd (cc),
      λ b.
          let there = viewed-there (integer_matrix c.args.ctx.now.matrix) c.len-len.ensures.admissible c.args.ctx.now.members
          c.len-len.ensures.closed c.args.self.now.number c.requires.reader.number c.in-Some.view.now serves.0 c.args.x _ c.requires.x b
          c.in_err-image-in-Some.ensures
          in let some = there.1 in absurd (cc),
    )

pub returns-in_ok-image-in-Some-clause-value : goal.returns-in_ok-image-in-Some-clause-value
returns-in_ok-image-in-Some-clause-value c =
    let serves = rw c.in-Some.is at c.requires.reader.serves
    in let values = c.args.self.now.values.now
    in IfSome_then c.kept_place-in-Some.result (rw serves.1 at c.kept_place-in-Some.ensures.value)
    (λ p k. viewed-polynomial (integer_matrix c.args.ctx.now.matrix) c.len-len.ensures.admissible c.args.ctx.now.members
    c.len-len.ensures.closed c.args.self.now.number c.requires.reader.number c.in-Some.view.now serves.0 c.args.x c.requires.x
    c.in_ok-image-in-Some.image (coefficient (polynomial_at values.pool (number_at values.places p))) c.in_ok-image-in-Some.ensures k)

pub returns-in_ok-image-in-Some-clause-exactly : goal.returns-in_ok-image-in-Some-clause-exactly
returns-in_ok-image-in-Some-clause-exactly c =
    let serves = rw c.in-Some.is at c.requires.reader.serves
    in let same = viewed-below (integer_matrix c.args.ctx.now.matrix) c.len-len.ensures.admissible c.args.ctx.now.members
    c.len-len.ensures.closed c.args.self.now.number c.requires.reader.number c.in-Some.view.now serves.0 c.args.x c.requires.x
    c.in_ok-image-in-Some.image c.in_ok-image-in-Some.ensures
    in let exactly = rw serves.1 at c.kept_place-in-Some.ensures.exactly
    in (λ s. same.0 (exactly.0 s), λ b. exactly.1 (same.1 b))
