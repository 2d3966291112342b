-- The word of a link is its first letter and the rest.
use Rattle.std.proofs.Common.{◌≡◌, ◌<◌, ℕ, List, length, ap, arith}
use Rattle.cox_context.specs.Links.{link_at}
use Rattle.cox_context.proofs.LinkedWords.{words-size, words-link, link-read}
use Rattle.cox_context.proofs.members.Members.link.Goals as goal

pub index-requires : goal.index-requires
index-requires c = omega
    (arith, c.requires.member, words-size c.self.inside.links.items, ap (λ (words : List (List ℕ)). length words) c.self.view_is)

pub returns-clause-word : goal.returns-clause-word
returns-clause-word c =
    let inside : c.args.i < length c.self.inside.links.items = omega
    (arith, c.requires.member, words-size c.self.inside.links.items, ap (λ (words : List (List ℕ)). length words) c.self.view_is)
    in let read : link_at c.self.inside.links.items c.args.i ≡ c.index.result.now
    = link-read c.self.inside.links.items c.args.i c.index.result.now inside c.index.ensures
    in rw (← c.self.view_is, ← read) (words-link c.self.inside.links.items c.args.i c.requires.some inside
    (c.self.invariant.linked.inward c.args.i c.requires.some inside))

pub returns-clause-inward : goal.returns-clause-inward
returns-clause-inward c =
    let inside : c.args.i < length c.self.inside.links.items = omega
    (arith, c.requires.member, words-size c.self.inside.links.items, ap (λ (words : List (List ℕ)). length words) c.self.view_is)
    in let read : link_at c.self.inside.links.items c.args.i ≡ c.index.result.now
    = link-read c.self.inside.links.items c.args.i c.index.result.now inside c.index.ensures
    in rw (← read) (c.self.invariant.linked.inward c.args.i c.requires.some inside)
