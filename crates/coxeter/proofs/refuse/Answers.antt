-- The proof of `refuse`: the arguments of the run give no options.
use Rattle.coxeter.proofs.refuse.Goals as goal

pub returns : goal.returns
returns g c = (
  _,
  c.wrong_arguments.ensures,
  record {
    run = c.run.ensures.run;
    reading = c.run.ensures.reading;
    unread = c.run.ensures.unread;
  },
)
