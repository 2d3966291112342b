-- The member is put behind the others, with its place.
use Rattle.std.proofs.Common.{FitsSigned, w64, rules}
use Rattle.std.proofs.lemmas.Int.{to_z-of_z}
use Rattle.cox_row_builder.proofs.FoundPolynomials.{begun-keep}
use Rattle.cox_row_builder.proofs.polynomials.RowPolynomials.keep.Goals as goal

pub returns-in-Err-clause-too_big : goal.returns-in-Err-clause-too_big
returns-in-Err-clause-too_big c = λ d v is.
    let fits : FitsSigned w64 c.args.limit = search rules
    in simp (to_z-of_z w64 c.args.limit fits) at (c.in-Err.ensures.too_big d v is)

pub returns-in-Ok-append-clause-kept : goal.returns-in-Ok-append-clause-kept
returns-in-Ok-append-clause-kept c = λ A members w h extremal below is.
    let fits : FitsSigned w64 c.args.limit = search rules
    in let pooled = simp (to_z-of_z w64 c.args.limit fits) at c.in-Ok.ensures.place
    in rw (c.in-Ok-append.ensures.extremal, c.in-Ok-append.ensures.places, c.in-Ok-append.ensures.pool)
    (begun-keep A members w c.args.limit c.args.x c.args.self.now.extremal.items c.args.self.now.places c.args.self.now.pool
    c.pooled_place.new.pool c.in-Ok.place c.args.sums.now pooled h extremal below is)
