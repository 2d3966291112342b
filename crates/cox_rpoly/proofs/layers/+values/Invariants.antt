-- Each call has one letter less.
use Rattle.std.proofs.Common.{length}
use Rattle.cox_rpoly.proofs.layers.+values.Given as goal

abbrev pub decreases-values : goal.decreases-values
decreases-values g l = length l.form.now
