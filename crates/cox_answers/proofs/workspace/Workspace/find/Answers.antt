-- The proof of `find`.
use Rattle.cox_answers.proofs.workspace.Workspace.find.Goals as goal

pub returns-in_ok-settled_number-in-Row-clause-found : goal.returns-in_ok-settled_number-in-Row-clause-found
returns-in_ok-settled_number-in-Row-clause-found c =
    let told = c.in_ok-settled_number-in-Row.ensures in rw c.in-Row.is (told.row, told.free)

pub returns-in_ok-settled_number-in-Certified-clause-found : goal.returns-in_ok-settled_number-in-Certified-clause-found
returns-in_ok-settled_number-in-Certified-clause-found c =
    let told = c.in_ok-settled_number-in-Certified.ensures in rw c.in-Certified.is (told.row, told.free)

pub returns-in-Between-clause-found : goal.returns-in-Between-clause-found
returns-in-Between-clause-found c = rw c.in-Between.is c.find_between.ensures
