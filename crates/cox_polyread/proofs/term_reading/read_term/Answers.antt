-- The sign, and what stands behind it.
use Rattle.cox_polyread.proofs.ReadTexts.{IsTerm-signed, IsNoTerm-sign, IsNoTerm-unsigned}
use Rattle.cox_polyread.proofs.term_reading.read_term.Goals as goal

pub returns-in_err-negative : goal.returns-in_err-negative
returns-in_err-negative c = rw c.from_residual.ensures (IsNoTerm-sign c.args.first c.args.text.now c.in_err-negative.ensures)

pub returns-in_err-size : goal.returns-in_err-size
returns-in_err-size c =
    rw c.from_residual-in_err-size.ensures (IsNoTerm-unsigned c.args.first c.in_ok-negative.negative c.args.text.now
    c.in_ok-negative.unsigned.now c.in_ok-negative.ensures c.in_err-size.ensures)

pub returns : goal.returns
returns c =
    IsTerm-signed c.args.first c.in_ok-negative.negative c.args.text.now c.in_ok-negative.unsigned.now c.in_ok-size.size.now
    c.in_ok-size.degree.now c.in_ok-negative.ensures c.in_ok-size.ensures
