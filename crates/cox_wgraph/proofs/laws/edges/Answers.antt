-- Each clause is a lemma on the values of edges.
use Rattle.cox_wgraph.proofs.EdgeValues.{one_way, edge-exists, edge-unique, edge-symmetric, edge-words}
use Rattle.cox_wgraph.proofs.laws.edges.Goals as goal

pub returns-clause-one_way : goal.returns-clause-one_way
returns-clause-one_way c = one_way

pub returns-clause-exists : goal.returns-clause-exists
returns-clause-exists c = edge-exists

pub returns-clause-unique : goal.returns-clause-unique
returns-clause-unique c = edge-unique

pub returns-clause-symmetric : goal.returns-clause-symmetric
returns-clause-symmetric c = edge-symmetric

pub returns-clause-elements : goal.returns-clause-elements
returns-clause-elements c = edge-words
