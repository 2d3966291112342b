-- A word more than the limit admits shows that there are too many members; else each table has one row more.
use Rattle.std.proofs.Common.{rules, ◌≡◌, ◌+◌, ◌<◌, ◌∷◌, ◌++◌, [], length, ap, arith}
use Rattle.cox_context.specs.Numbers.{word_at}
use Rattle.cox_context.specs.Rows.{IsRowPushed}
use Rattle.cox_context.specs.Building.{Building, IsWanted}
use Rattle.cox_context.proofs.RefusalCauses.{over-prefix}
use Rattle.cox_context.proofs.BuilderTables.{builder-seen, builder-push, short-push}
use Rattle.cox_context.proofs.builder.Builder.add.Goals as goal

pub returns-then-number-self-clause-fault : goal.returns-then-number-self-clause-fault
returns-then-number-self-clause-fault c =
    let b = builder-seen c.self.view_is c.self.invariant
    in let limit : c.self.inside.limit ≡ c.args.self.now.search.limit = ap (λ (v : Building). v.search.limit) c.self.view_is
    in let members = ap (λ (v : Building). length v.members) c.self.view_is
    in let y = c.args.s ∷ word_at c.args.self.now.members c.args.parent
    in (
      limit,
      ap (λ n. n + 1) limit,
      over-prefix (IsWanted c.args.self.now.search) c.args.self.now.search.limit c.args.self.now.members y
          (omega (arith, c.len-number.ensures.len, c.if-number-self.true, limit, members)) c.requires.prefix
          (short-push c.args.self.now.search c.args.self.now.members _ b y c.args.lower.now c.requires.next
          (omega (arith, c.requires.short))),
    )

pub invariant_of-self-2 : goal.invariant_of-self-2
invariant_of-self-2 c =
    let members = c.self.inside.listing.members
    in let y = c.args.s ∷ word_at members c.args.parent
    in let rank : c.rank-rank.result ≡ c.self.inside.scope.now.group.rank = rw (← c.self.view_is) at c.rank-rank.ensures.rank
    in let next = rw (← c.self.view_is) at c.requires.next
    in let closed = rw (← c.self.view_is) at c.requires.closed
    in let room : length members < c.self.inside.limit
    = omega (arith, c.self.invariant.room, c.len-number.ensures.len, c.if-number-self.false)
    in let pushed : IsRowPushed c.rank-rank.result c.len-number.result c.args.lower.now (c.rank-rank.result + 1)
    c.self.inside.listing.left.items c.push_row.new.table.items
    = search rules
    in let added : c.push.new.self ≡ members ++ y ∷ [] = search rules
    in rw added (builder-push (record {
      matrix = c.self.inside.scope.now.group;
      top = c.self.inside.scope.now.top;
      limit = c.self.inside.limit;
    }) members _ c.self.invariant y c.args.lower.now next room (closed (omega (arith, room, c.self.invariant.limit))) _
    (rw (rank, c.len-number.ensures.len) at pushed))

pub invariant_of-self-then-is_err-2 : goal.invariant_of-self-then-is_err-2
invariant_of-self-then-is_err-2 c =
    let kept : c.push.new.self ≡ c.self.inside.listing.members = search rules
    in rw (kept, c.reserve.ensures.items) c.self.invariant

pub push-requires-clause-room : goal.push-requires-clause-room
push-requires-clause-room c =
    omega (arith, c.self.invariant.room, c.self.invariant.limit, c.len-number.ensures.len, c.if-number-self.false)
