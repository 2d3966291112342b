-- The list of the member, between its offset and the next one.
use Rattle.std.proofs.Common.{◌≡◌, ◌+◌, arith}
use Rattle.std.proofs.lemmas.List.{get_or_read}
use Rattle.cox_row.specs.Rising.{number_at}
use Rattle.cox_cells.proofs.neighbours.Neighbours.before.Goals as goal
use Rattle.cox_cells.proofs.neighbours.Neighbours.before.Goals.{After-index-start, After-index-end}

-- where the list begins, and where it ends
start_is : (c : After-index-start) → c.index-start.result.now ≡ number_at c.args.self.now.offsets.items c.args.j
start_is c = get_or_read c.args.self.now.offsets.items c.args.j c.index-start.result.now
    (omega (arith, c.requires.neighbours.count, c.requires.member)) c.index-start.ensures 0

end_is : (c : After-index-end) → c.index-end.result.now ≡ number_at c.args.self.now.offsets.items (c.args.j + 1)
end_is c = get_or_read c.args.self.now.offsets.items (c.args.j + 1) c.index-end.result.now
    (omega (arith, c.requires.neighbours.count, c.requires.member)) c.index-end.ensures 0

pub index-start-requires : goal.index-start-requires
index-start-requires c = omega (arith, c.requires.neighbours.count, c.requires.member, c.args.self.now.offsets.ok)

pub index-end-requires : goal.index-end-requires
index-end-requires c = omega (arith, c.requires.neighbours.count, c.requires.member, c.args.self.now.offsets.ok)

pub returns : goal.returns
returns c =
    rw (start_is (goal.at.returns c).After-index-start, end_is (goal.at.returns c).After-index-end, c.deref.ensures.value)
    (c.requires.neighbours.each c.args.j c.requires.member)
