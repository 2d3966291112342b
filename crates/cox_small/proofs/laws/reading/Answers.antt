-- What a letter does behind a reduced word.
use Rattle.cox_reflect.proofs.Removal.{right_letter_goes}
use Rattle.cox_small.proofs.Reading.{read-out, read-front}
use Rattle.cox_small.proofs.laws.reading.Goals as goal

pub returns-clause-exchanged : goal.returns-clause-exchanged
returns-clause-exchanged c = right_letter_goes

pub returns-clause-out : goal.returns-clause-out
returns-clause-out c = λ A g before behind q s d l h small n far. read-out A g before behind q s l h small n far

pub returns-clause-at_the_end : goal.returns-clause-at_the_end
returns-clause-at_the_end c = λ A g w s d l h small. read-front A g w s l h small
