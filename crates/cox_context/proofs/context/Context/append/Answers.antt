-- One member more, with what is kept of it in each table.
use Rattle.std.proofs.Common.{◌<◌, ℕ, List, length, arith}
use Rattle.cox_lemmas.proofs.PushedItems.{push-length}
use Rattle.cox_context.specs.declared.members.TheConstants.{MAX_MEMBERS}
use Rattle.cox_context.specs.Appending.{IsNextMember}
use Rattle.cox_context.proofs.context.Context.append.Goals as goal

pub push-requires-clause-some : goal.push-requires-clause-some
push-requires-clause-some c =
    rw c.in_ok-append.ensures.members (omega (arith, push-length {X = List ℕ}, c.self.invariant.closed.some))

pub invariant_of-self-2 : goal.invariant_of-self-2
invariant_of-self-2 c =
    let v = c.self.inside
    in let next : IsNextMember v.group v.listing.members c.args.s c.args.j = rw (← c.self.view_is) at c.requires.next
    in let room : length v.listing.members < MAX_MEMBERS = rw (← c.self.view_is) at c.requires.room
    in rw (c.clear.ensures.items, c.clear-2.ensures.items) (record {
      closed = rw c.in_ok-append.ensures.members (next.closed room);
      left_shifts = c.in_ok-append.ensures.left;
      tables = c.push.ensures;
      left_narrow = λ k l. absurd (omega (arith, l));
      right_narrow = λ k l. absurd (omega (arith, l));
    })
