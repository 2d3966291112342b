-- The proof of `one_digit`.
use Rattle.cox_base.proofs.Numerals.{one_numeral}
use Rattle.cox_base.proofs.reading.one_digit.Goals as goal

pub returns : goal.returns
returns c = one_numeral c.args.ones c.digit.result c.digit.ensures
