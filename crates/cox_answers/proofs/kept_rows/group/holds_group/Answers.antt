-- The proof of `holds_group`.
use Rattle.cox_answers.proofs.kept_rows.group.holds_group.Goals as goal

pub returns-clause-all : goal.returns-clause-all
returns-clause-all c = (
  λ done. record {
    whole = rw c.context.ensures.context at (c.is_list_of_group.ensures.0 c.if-not-is_list_of_group.false);
    held = (c.has_all.ensures.all done).there;
  },
  λ all. c.has_all.ensures.found all.held,
)

pub returns-clause-small : goal.returns-clause-small
returns-clause-small c = λ done. (c.has_all.ensures.all done).small
