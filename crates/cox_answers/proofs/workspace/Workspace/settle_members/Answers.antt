-- The proof of `settle_members`.
use Rattle.std.proofs.Common.{◌≡◌, Some, sym, ap, ◌∙◌}
use Rattle.cox_answers.specs.Kept.{WorkspaceState}
use Rattle.cox_answers.proofs.KnownRows.{still-known, known-taken, more-trans, are-more}
use Rattle.cox_answers.proofs.workspace.Workspace.settle_members.Goals as goal

pub with_rows-rows-requires-clause-members : goal.with_rows-rows-requires-clause-members
with_rows-rows-requires-clause-members g c =
    let is : c.args.self.now.rows ≡ Some c.in-Some.rows =
    sym (ap (λ (work : WorkspaceState). work.rows) c.self.view_is) ∙ sym c.take.ensures.taken ∙ c.in-Some.is in
    rw is at c.requires.members

pub put_back-requires : goal.put_back-requires
put_back-requires g c =
    let is = sym c.take.ensures.taken ∙ c.in-Some.is in
    rw c.take.ensures.known (still-known c.in-Some.rows c.settle_each-settled.new.rows
    (more-trans c.in-Some.rows c.with_rows-rows.result c.settle_each-settled.new.rows c.with_rows-rows.ensures
    c.settle_each-settled.ensures.more) _ (known-taken _ c.in-Some.rows _ is c.take.ensures.read_off))

pub returns-clause-more : goal.returns-clause-more
returns-clause-more g c =
    let is : c.args.self.now.rows ≡ Some c.in-Some.rows =
    sym (ap (λ (work : WorkspaceState). work.rows) c.self.view_is) ∙ sym c.take.ensures.taken ∙ c.in-Some.is in
    rw c.put_back.ensures.rows (are-more c.args.self.now.rows c.in-Some.rows c.settle_each-settled.new.rows is
    (more-trans c.in-Some.rows c.with_rows-rows.result c.settle_each-settled.new.rows c.with_rows-rows.ensures
    c.settle_each-settled.ensures.more))

pub returns-clause-settled : goal.returns-clause-settled
returns-clause-settled g c = rw c.put_back.ensures.rows c.settle_each-settled.ensures.settled
