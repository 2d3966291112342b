-- Each link has the number of letters of its word.
use Rattle.std.proofs.Common.{◌≡◌, ◌<◌, ℕ, List, length, ap, arith}
use Rattle.cox_context.specs.Links.{link_at}
use Rattle.cox_context.proofs.LinkedWords.{words-size, link-read}
use Rattle.cox_context.proofs.members.Members.length.Goals as goal

pub index-requires : goal.index-requires
index-requires c = omega
    (arith, c.requires, words-size c.self.inside.links.items, ap (λ (words : List (List ℕ)). length words) c.self.view_is)

pub returns-clause-length : goal.returns-clause-length
returns-clause-length c =
    let inside : c.args.i < length c.self.inside.links.items = omega
    (arith, c.requires, words-size c.self.inside.links.items, ap (λ (words : List (List ℕ)). length words) c.self.view_is)
    in let read : link_at c.self.inside.links.items c.args.i ≡ c.index.result.now
    = link-read c.self.inside.links.items c.args.i c.index.result.now inside c.index.ensures
    in rw (← c.self.view_is, ← read) (c.self.invariant.linked.letters c.args.i inside)
