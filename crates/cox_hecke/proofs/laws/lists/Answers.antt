-- The elements between two, listed in ShortLex order.
use Rattle.cox_hecke.proofs.ElementLists.{sorted_between, sorted-lists}
use Rattle.cox_hecke.proofs.laws.lists.Goals as goal

pub returns-clause-exists : goal.returns-clause-exists
returns-clause-exists c = sorted_between

pub returns-clause-names : goal.returns-clause-names
returns-clause-names c = sorted-lists
