-- A number of 64 bits has the same text by both definitions.
use Rattle.std.proofs.Common.{FitsSigned, w64, rules}
use Rattle.cox_poly.proofs.Numerals.{integer_text-signed}
use Rattle.cox_poly.proofs.polynomial_text.put_coefficient.Goals as goal

pub returns-clause-text : goal.returns-clause-text
returns-clause-text c =
    let fits : FitsSigned w64 c.args.c = c.ranges.c in
    rw (integer_text-signed c.args.c fits) (search rules)

pub returns-clause-full : goal.returns-clause-full
returns-clause-full c =
    let fits : FitsSigned w64 c.args.c = c.ranges.c in
    rw (integer_text-signed c.args.c fits) (search rules)
