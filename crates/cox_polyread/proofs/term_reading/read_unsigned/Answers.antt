-- The size stands before the power.
use Rattle.std.proofs.Common.{not, ap}
use Rattle.cox_polyread.proofs.ReadTexts.{IsNoUnsigned-power, IsNoUnsigned-size}
use Rattle.cox_polyread.proofs.term_reading.read_unsigned.Goals as goal

pub returns-in_err-degree : goal.returns-in_err-degree
returns-in_err-degree c =
    rw c.from_residual.ensures (IsNoUnsigned-power c.args.text.now c.before_power.result c.split_at.result.1.now
    c.before_power.ensures.count c.split_at.ensures.back c.in_err-degree.ensures)

pub returns-in_err-size : goal.returns-in_err-size
returns-in_err-size c =
    rw c.from_residual-in_err-size.ensures (IsNoUnsigned-size c.args.text.now c.before_power.result c.split_at.result.0.now
    c.split_at.result.1.now (not c.is_empty.result) c.before_power.ensures.count c.split_at.ensures.front c.split_at.ensures.back
    (ap not c.is_empty.ensures) c.in_err-size.ensures)
