-- The proof of `ended`: the status of the check, whose number is given out.
use Rattle.coxcheck.proofs.ended.Goals as goal

pub returns : goal.returns
returns g c = (c.start.result, c.exit_code.ensures, c.start.ensures)
