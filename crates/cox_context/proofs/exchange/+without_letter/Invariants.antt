-- The rest of the word has the letter one place before.
use Rattle.cox_context.proofs.exchange.+without_letter.Given as goal

abbrev pub decreases-without_letter : goal.decreases-without_letter
decreases-without_letter l = l.at
