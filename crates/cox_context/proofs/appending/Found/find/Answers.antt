-- The number at the place is that of x.
use Rattle.std.proofs.Common.{◌≡◌, slice_index, sym, ◌∙◌}
use Rattle.std.proofs.lemmas.List.{get_or_default}
use Rattle.cox_context.proofs.appending.Found.find.Goals as goal

pub left-requires-clause-member : goal.left-requires-clause-member
left-requires-clause-member c =
    let x_is : slice_index c.args.self.now.numbers.items c.args.place ≡ c.index-x.result.now
    = get_or_default c.args.self.now.numbers.items c.args.place 0 c.index-x.result.now c.requires.place ∙ sym c.index-x.ensures
    in rw x_is at (c.requires.marked.within c.args.place c.requires.place)

pub append-requires-clause-member : goal.append-requires-clause-member
append-requires-clause-member c =
    let x_is : slice_index c.args.self.now.numbers.items c.args.place ≡ c.index-x.result.now
    = get_or_default c.args.self.now.numbers.items c.args.place 0 c.index-x.result.now c.requires.place ∙ sym c.index-x.ensures
    in rw x_is at (c.requires.marked.within c.args.place c.requires.place)

pub append-requires-clause-next : goal.append-requires-clause-next
append-requires-clause-next c =
    let x_is : slice_index c.args.self.now.numbers.items c.args.place ≡ c.index-x.result.now
    = get_or_default c.args.self.now.numbers.items c.args.place 0 c.index-x.result.now c.requires.place ∙ sym c.index-x.ensures
    in rw x_is at (c.requires.next (rw (← x_is) at c.in-None.ensures))

pub returns-in-Some-clause-found : goal.returns-in-Some-clause-found
returns-in-Some-clause-found c =
    let x_is : slice_index c.args.self.now.numbers.items c.args.place ≡ c.index-x.result.now
    = get_or_default c.args.self.now.numbers.items c.args.place 0 c.index-x.result.now c.requires.place ∙ sym c.index-x.ensures
    in rw (x_is, ← c.in-Some.ensures.1) c.list.ensures.found

pub returns-in-None-clause-members : goal.returns-in-None-clause-members
returns-in-None-clause-members c =
    let x_is : slice_index c.args.self.now.numbers.items c.args.place ≡ c.index-x.result.now
    = get_or_default c.args.self.now.numbers.items c.args.place 0 c.index-x.result.now c.requires.place ∙ sym c.index-x.ensures
    in rw x_is c.append.ensures.members

pub returns-in-None-clause-found : goal.returns-in-None-clause-found
returns-in-None-clause-found c =
    let x_is : slice_index c.args.self.now.numbers.items c.args.place ≡ c.index-x.result.now
    = get_or_default c.args.self.now.numbers.items c.args.place 0 c.index-x.result.now c.requires.place ∙ sym c.index-x.ensures
    in rw x_is c.append.ensures.found

pub returns-in-None-clause-refused : goal.returns-in-None-clause-refused
returns-in-None-clause-refused c =
    let x_is : slice_index c.args.self.now.numbers.items c.args.place ≡ c.index-x.result.now
    = get_or_default c.args.self.now.numbers.items c.args.place 0 c.index-x.result.now c.requires.place ∙ sym c.index-x.ensures
    in rw x_is c.append.ensures.refused
