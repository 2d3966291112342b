-- The member is put behind the others.
use Rattle.cox_row_builder.proofs.LargeFound.{large-push}
use Rattle.cox_row_builder.proofs.large.LargeMembers.note.Goals as goal

pub returns : goal.returns
returns c = λ A members w limit h is. rw (c.in_ok-push.ensures.items, c.in_ok-push-2.ensures.items) (large-push A members w limit
    c.args.self.now.numbers.items c.args.self.now.coefficients.items c.args.x c.args.coefficient is h)
