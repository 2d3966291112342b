-- The builder finds the interval up to the normal form of w, which is that up to w.
use Rattle.std.proofs.Common.{rules, ◌≡◌, ◌≤◌, ◌∙◌, length, IfErr, refl}
use Rattle.cox_base.specs.IntegerMatrix.{integer_matrix}
use Rattle.cox_base.specs.Members.{IsInInterval}
use Rattle.cox_context.specs.Building.{IsWanted}
use Rattle.cox_context.specs.FaultMeaning.{IsRefusal}
use Rattle.cox_base.specs.SortedList.{IsListOf}
use Rattle.cox_context.proofs.MadeContexts.{made_members, made_matrix, made_refused}
use Rattle.cox_context.proofs.ClosedContexts.{form-same, interval-refused, interval-found}
use Rattle.cox_context.proofs.context.Context.up_to.Goals as goal

pub new-requires-clause-top : goal.new-requires-clause-top
new-requires-clause-top c = rw c.copy.ensures (
  c.requires.letters,
  (form-same c.args.group.now c.args.group.now refl c.rank-rank.ensures.matrix c.args.w.now.items c.args.top.items
      c.requires.form).0,
)

pub returns-in_err-builder-2-clause-refused : goal.returns-in_err-builder-2-clause-refused
returns-in_err-builder-2-clause-refused c =
    let refused : IfErr c.from_residual-in_err-builder-2.result
    (IsRefusal (IsWanted c.in_ok-builder.builder.search) c.in_ok-builder.builder.search.limit)
    = search rules
    in interval-refused c.copy.result c.args.group.now c.copy.ensures c.in_ok-builder.ensures.matrix
    c.args.w.now.items c.args.top.items c.requires.form
    c.args.limit c.from_residual-in_err-builder-2.result
    (rw c.in_ok-builder.ensures.search at refused)

pub returns-clause-members : goal.returns-clause-members
returns-clause-members c =
    let letters : c.len-letters.result ≡ length c.args.top.items = search rules
    in let grown = rw (c.in_ok-builder-2.ensures.search ∙ c.in_ok-builder.ensures.search) at c.in_ok-builder-2.ensures.grown
    in let members = interval-found c.copy.result c.args.group.now c.copy.ensures c.in_ok-builder.ensures.matrix
    c.args.w.now.items c.args.top.items c.requires.form
    c.in_ok-builder-2.builder.members c.len-letters.result c.in_ok-builder-2.field-0-1
    letters grown
    in rw (← c.copy.ensures) (made_members c.of_members.result c.copy.result c.finish-listing.result.members
    (IsListOf (IsInInterval (integer_matrix c.copy.result) c.args.w.now.items)) c.of_members.ensures.made
    (rw c.finish-listing.ensures.members members))

pub of_members-requires-clause-closed : goal.of_members-requires-clause-closed
of_members-requires-clause-closed c = rw c.finish-listing.ensures.members
    (rw (c.in_ok-builder-2.ensures.search ∙ c.in_ok-builder.ensures.search) at c.finish-listing.ensures.closed)

pub of_members-requires-clause-left : goal.of_members-requires-clause-left
of_members-requires-clause-left c = rw c.finish-listing.ensures.members
    (rw (c.in_ok-builder-2.ensures.search ∙ c.in_ok-builder.ensures.search) at c.finish-listing.ensures.left)

pub returns-clause-matrix : goal.returns-clause-matrix
returns-clause-matrix c = made_matrix c.of_members.result c.copy.result c.args.group.now c.finish-listing.result.members
    c.of_members.ensures.made c.copy.ensures

pub returns-clause-few : goal.returns-clause-few
returns-clause-few c =
    let few : length c.in_ok-builder-2.builder.members ≤ c.args.limit
    = rw (c.in_ok-builder-2.ensures.search ∙ c.in_ok-builder.ensures.search) at c.finish-listing.ensures.few
    in made_members c.of_members.result c.copy.result c.finish-listing.result.members (λ words. length words ≤ c.args.limit)
    c.of_members.ensures.made (rw c.finish-listing.ensures.members few)

pub returns-clause-refused : goal.returns-clause-refused
returns-clause-refused c = made_refused c.of_members.result (IsInInterval (integer_matrix c.args.group.now) c.args.w.now.items) c.args.limit
    c.of_members.ensures.fault
