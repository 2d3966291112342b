-- Each clause is a lemma on listings.
use Rattle.cox_wgraph.proofs.Listings.{some_listing, one_listing, one_list}
use Rattle.cox_wgraph.proofs.laws.listings.Goals as goal

pub returns-clause-exists : goal.returns-clause-exists
returns-clause-exists c = some_listing

pub returns-clause-unique : goal.returns-clause-unique
returns-clause-unique c = one_listing

pub returns-clause-one_list : goal.returns-clause-one_list
returns-clause-one_list c = one_list
