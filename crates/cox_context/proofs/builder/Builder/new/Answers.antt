-- The identity alone has no letter.
use Rattle.cox_base.specs.IntegerMatrix.{integer_matrix}
use Rattle.cox_context.specs.WantedMembers.{IsMember}
use Rattle.cox_context.proofs.GrowingMembers.{grown-start}
use Rattle.cox_context.proofs.Ideals.{member-tailed}
use Rattle.cox_context.proofs.BuilderTables.{builder-start}
use Rattle.cox_context.proofs.builder.Builder.new.Goals as goal

pub returns-in-Ok-clause-grown : goal.returns-in-Ok-clause-grown
returns-in-Ok-clause-grown c =
    let A = integer_matrix c.args.scope.now.group
    in rw c.in-Ok.ensures.members (grown-start c.args.scope.now.group.rank (IsMember A c.args.scope.now.top)
    (member-tailed c.args.scope.now.group c.rank-rank.ensures.matrix c.args.scope.now.top))

pub invariant_of-result : goal.invariant_of-result
invariant_of-result c =
    rw c.in-Ok.ensures.members (builder-start (record {
      matrix = c.args.scope.now.group;
      top = c.args.scope.now.top;
      limit = c.args.limit;
    }) c.in-Ok.listing.left.items c.rank-rank.ensures.matrix c.requires.top c.requires.some c.requires.limit
    (rw c.in-Ok.ensures.members at c.in-Ok.ensures.left))
