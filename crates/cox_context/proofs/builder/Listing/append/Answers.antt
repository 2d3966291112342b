-- One more link, and one more row.
use Rattle.std.proofs.Common.{ℕ, List, ◌∷◌, ◌++◌, [], sym, ◌∙◌, ap}
use Rattle.cox_context.proofs.Appended.{outside-none, none-missing, first-word, rest-short, shifts-next}
use Rattle.cox_context.proofs.builder.Listing.append.Goals as goal

pub unreachable-requires : goal.unreachable-requires
unreachable-requires c = outside-none c.args.group.now c.rank-rank.ensures.matrix c.args.self.now.members c.requires.closed c.args.s
    c.args.j c.requires.letter c.requires.member c.requires.next (rw c.shifts.ensures at c.in_default.ensures.outside)

pub unreachable-requires-in_default-first_lower : goal.unreachable-requires-in_default-first_lower
unreachable-requires-in_default-first_lower c = none-missing c.args.group.now c.rank-rank.ensures.matrix c.args.self.now.members
    c.requires.closed c.args.s c.args.j c.requires.letter c.requires.member c.requires.next c.in-Ok.lower
    (rw c.shifts.ensures at c.in-Ok.ensures.lower) (rw c.rank-rank.ensures.rank at c.in_default-first_lower.ensures.none)

pub push-requires-clause-short : goal.push-requires-clause-short
push-requires-clause-short c = rest-short c.args.group.now c.rank-rank.ensures.matrix c.args.self.now.members c.requires.closed c.args.s
    c.args.j c.requires.letter c.requires.member c.requires.next c.in-Ok.lower (rw c.shifts.ensures at c.in-Ok.ensures.lower)
    c.in-Some.first.letter c.in-Some.first.rest (rw c.rank-rank.ensures.rank at c.in-Some.ensures.letter)
    (rw c.rank-rank.ensures.rank at c.in-Some.ensures.found) (rw c.rank-rank.ensures.rank at c.in-Some.ensures.least) c.requires.room

pub returns-clause-members : goal.returns-clause-members
returns-clause-members c =
    let word = first-word c.args.group.now c.rank-rank.ensures.matrix c.args.self.now.members c.requires.closed c.args.s c.args.j
    c.requires.letter c.requires.member c.requires.next c.in-Ok.lower (rw c.shifts.ensures at c.in-Ok.ensures.lower) c.in-Some.first.letter
    c.in-Some.first.rest (rw c.rank-rank.ensures.rank at c.in-Some.ensures.letter)
    (rw c.rank-rank.ensures.rank at c.in-Some.ensures.found) (rw c.rank-rank.ensures.rank at c.in-Some.ensures.least)
    in c.in_ok-push.ensures.pushed ∙ ap (λ (u : List ℕ). c.args.self.now.members ++ u ∷ []) (sym word)

pub returns-clause-left : goal.returns-clause-left
returns-clause-left c =
    let word = first-word c.args.group.now c.rank-rank.ensures.matrix c.args.self.now.members c.requires.closed c.args.s c.args.j
    c.requires.letter c.requires.member c.requires.next c.in-Ok.lower (rw c.shifts.ensures at c.in-Ok.ensures.lower) c.in-Some.first.letter
    c.in-Some.first.rest (rw c.rank-rank.ensures.rank at c.in-Some.ensures.letter)
    (rw c.rank-rank.ensures.rank at c.in-Some.ensures.found) (rw c.rank-rank.ensures.rank at c.in-Some.ensures.least)
    in let added = c.in_ok-push.ensures.pushed ∙ ap (λ (u : List ℕ). c.args.self.now.members ++ u ∷ []) (sym word)
    in let pushed = rw (c.rank-rank.ensures.rank, c.len-number.ensures.len, c.reserve.ensures.items) at c.push_row.ensures
    in rw added (shifts-next c.args.group.now c.rank-rank.ensures.matrix c.args.self.now.members c.requires.closed c.args.s c.args.j
    c.requires.letter c.requires.member c.requires.next c.in-Ok.lower (rw c.shifts.ensures at c.in-Ok.ensures.lower)
    c.args.self.now.left.items c.push_row.new.table.items c.requires.room c.requires.left pushed)
