-- There are none before the first member.
use Rattle.cox_row_builder.proofs.LargeFound.{large-start}
use Rattle.cox_row_builder.proofs.large.LargeMembers.new.Goals as goal

pub returns : goal.returns
returns c = λ A members w limit. rw (c.new.ensures.items, c.new-2.ensures.items) (large-start A members w limit)
