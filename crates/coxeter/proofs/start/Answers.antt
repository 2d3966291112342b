-- The proof of `start`: where an argument is no text, the run is that of `refuse`.
use Rattle.coxeter.proofs.start.Goals as goal

pub returns-in-Ok-None : goal.returns-in-Ok-None
returns-in-Ok-None g c = rw (c.in-Ok-None.is, c.in-Ok-None.field-0-is) c.refuse.ensures
