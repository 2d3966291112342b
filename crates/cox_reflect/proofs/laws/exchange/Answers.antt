-- Each clause is a lemma on words with letters left out.
use Rattle.cox_reflect.proofs.Exchange.{strong_exchange, reflection-moves}
use Rattle.cox_reflect.proofs.Deletion.{exchange_right, exchange_left, deletion}
use Rattle.cox_reflect.proofs.RootSigns.{equal_reflection_words}
use Rattle.cox_reflect.proofs.laws.exchange.Goals as goal

pub returns-clause-right : goal.returns-clause-right
returns-clause-right c = exchange_right

pub returns-clause-left : goal.returns-clause-left
returns-clause-left c = exchange_left

pub returns-clause-strong : goal.returns-clause-strong
returns-clause-strong c = strong_exchange

pub returns-clause-reflection_changes_length : goal.returns-clause-reflection_changes_length
returns-clause-reflection_changes_length c = reflection-moves

pub returns-clause-deletion : goal.returns-clause-deletion
returns-clause-deletion c = deletion

pub returns-clause-equal_roots : goal.returns-clause-equal_roots
returns-clause-equal_roots c = equal_reflection_words
