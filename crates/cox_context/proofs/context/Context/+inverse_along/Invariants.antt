-- The rest of a word has a number before that of the word.
use Rattle.cox_context.proofs.context.Context.+inverse_along.Given as goal

abbrev pub decreases-inverse_along : goal.decreases-inverse_along
decreases-inverse_along l = l.i
