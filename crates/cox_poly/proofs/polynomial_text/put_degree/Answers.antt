-- A number of 64 bits has the same text by both definitions.
use Rattle.std.proofs.Common.{arith, rules}
use Rattle.cox_poly.proofs.Numerals.{number_text-decimal}
use Rattle.cox_poly.proofs.polynomial_text.put_degree.Goals as goal

pub returns-clause-text : goal.returns-clause-text
returns-clause-text c = rw (number_text-decimal c.args.k (omega arith)) (search rules)

pub returns-clause-full : goal.returns-clause-full
returns-clause-full c = rw (number_text-decimal c.args.k (omega arith)) (search rules)
