-- The members of at most MAX_LETTERS letters are the group where no letter makes one of MAX_LETTERS longer.
use Rattle.std.proofs.Common.{rules, IfErr, ◌≤◌, ℕ, List, length, arith, sym, ◌∙◌}
use Rattle.std.proofs.lemmas.Bool.{false≢true}
use Rattle.cox_base.specs.IntegerMatrix.{IntegerMatrix, integer_matrix}
use Rattle.cox_base.specs.Admissible.{IsAdmissible}
use Rattle.cox_base.specs.declared.limits.TheConstants.{MAX_LETTERS}
use Rattle.cox_reflect.proofs.Admissible.{IsAdmissible-integer_matrix}
use Rattle.cox_base.specs.Members.{IsElement}
use Rattle.cox_base.specs.SortedList.{IsListOf}
use Rattle.cox_context.specs.FaultMeaning.{IsRefusal}
use Rattle.cox_context.specs.Building.{IsWanted}
use Rattle.cox_context.proofs.MadeContexts.{made_members, made_matrix, made_refused}
use Rattle.cox_context.proofs.Ideals.{group-ideal, ideal-tailed}
use Rattle.cox_context.proofs.GrowingMembers.{grown-list, grown-length}
use Rattle.cox_context.proofs.ClosedContexts.{group-length, group-long}
use Rattle.cox_context.proofs.BuilderTables.{builder-seen}
use Rattle.cox_context.proofs.context.Context.of_group.Goals as goal

pub returns-in_err-builder-2-clause-refused : goal.returns-in_err-builder-2-clause-refused
returns-in_err-builder-2-clause-refused c =
    let refused : IfErr c.from_residual-in_err-builder-2.result
    (IsRefusal (IsWanted c.in_ok-builder.builder.search) c.in_ok-builder.builder.search.limit)
    = search rules
    in rw (← (c.copy.ensures ∙ c.group.ensures)) (rw c.in_ok-builder.ensures.search at refused)

pub goes_on-requires : goal.goes_on-requires
goes_on-requires c =
    let A : IntegerMatrix = integer_matrix c.copy.result
    in let g : IsAdmissible A = IsAdmissible-integer_matrix c.copy.result c.in_ok-builder.ensures.matrix
    in let grown = rw (c.in_ok-builder-2.ensures.search ∙ c.in_ok-builder.ensures.search) at c.in_ok-builder-2.ensures.grown
    in record {
      longest = λ i k from l m. omega (
        arith,
        grown-length A.rank (IsElement A) (ideal-tailed A g (IsElement A) (group-ideal A g)) MAX_LETTERS c.in_ok-builder-2.low
            c.in_ok-builder-2.builder.members grown k m,
        grown.level i from l,
      );
    }

pub returns-then-goes_on-clause-refused : goal.returns-then-goes_on-clause-refused
returns-then-goes_on-clause-refused c =
    let A : IntegerMatrix = integer_matrix c.copy.result
    in let g : IsAdmissible A = IsAdmissible-integer_matrix c.copy.result c.in_ok-builder.ensures.matrix
    in let grown = rw (c.in_ok-builder-2.ensures.search ∙ c.in_ok-builder.ensures.search) at c.in_ok-builder-2.ensures.grown
    in let room = (builder-seen c.builder.view_is c.builder.invariant).room
    in let few = rw (c.in_ok-builder-2.ensures.search ∙ c.in_ok-builder.ensures.search) at room
    in let more = rw (c.in_ok-builder-2.ensures.search ∙ c.in_ok-builder.ensures.search) at
    (c.goes_on.ensures.yes c.if-goes_on.true)
    in rw (← (c.copy.ensures ∙ c.group.ensures)) (group-long A g c.in_ok-builder-2.low c.args.limit c.in_ok-builder-2.builder.members
    grown few more)

pub returns-clause-members : goal.returns-clause-members
returns-clause-members c =
    let A : IntegerMatrix = integer_matrix c.copy.result
    in let g : IsAdmissible A = IsAdmissible-integer_matrix c.copy.result c.in_ok-builder.ensures.matrix
    in let grown = rw (c.in_ok-builder-2.ensures.search ∙ c.in_ok-builder.ensures.search) at c.in_ok-builder-2.ensures.grown
    in let descents = rw (c.in_ok-builder-2.ensures.search ∙ c.in_ok-builder.ensures.search) at
    (c.goes_on.ensures.no (λ yes. absurd (false≢true (sym c.if-goes_on.false ∙ yes))))
    in let short : (word : List ℕ) → IsElement A word → length word ≤ MAX_LETTERS
    = group-length A g c.in_ok-builder-2.low c.in_ok-builder-2.builder.members grown descents
    in let list : IsListOf (IsElement A) c.in_ok-builder-2.builder.members
    = grown-list A.rank (IsElement A) (ideal-tailed A g (IsElement A) (group-ideal A g)) MAX_LETTERS c.in_ok-builder-2.low
    c.in_ok-builder-2.builder.members grown short
    in rw (← (c.copy.ensures ∙ c.group.ensures)) (made_members c.of_members.result c.copy.result c.finish-listing.result.members
    (IsListOf (IsElement A)) c.of_members.ensures.made (rw c.finish-listing.ensures.members list))

pub of_members-requires-clause-closed : goal.of_members-requires-clause-closed
of_members-requires-clause-closed c = rw c.finish-listing.ensures.members
    (rw (c.in_ok-builder-2.ensures.search ∙ c.in_ok-builder.ensures.search) at c.finish-listing.ensures.closed)

pub of_members-requires-clause-left : goal.of_members-requires-clause-left
of_members-requires-clause-left c = rw c.finish-listing.ensures.members
    (rw (c.in_ok-builder-2.ensures.search ∙ c.in_ok-builder.ensures.search) at c.finish-listing.ensures.left)

pub returns-clause-matrix : goal.returns-clause-matrix
returns-clause-matrix c = made_matrix c.of_members.result c.copy.result c.args.group.now c.finish-listing.result.members
    c.of_members.ensures.made (c.copy.ensures ∙ c.group.ensures)

pub returns-clause-few : goal.returns-clause-few
returns-clause-few c =
    let few : length c.in_ok-builder-2.builder.members ≤ c.args.limit
    = rw (c.in_ok-builder-2.ensures.search ∙ c.in_ok-builder.ensures.search) at c.finish-listing.ensures.few
    in made_members c.of_members.result c.copy.result c.finish-listing.result.members (λ words. length words ≤ c.args.limit)
    c.of_members.ensures.made (rw c.finish-listing.ensures.members few)

pub returns-clause-refused : goal.returns-clause-refused
returns-clause-refused c = made_refused c.of_members.result (IsElement (integer_matrix c.args.group.now)) c.args.limit
    c.of_members.ensures.fault
