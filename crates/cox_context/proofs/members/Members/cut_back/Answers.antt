-- The first links are the first words.
use Rattle.std.proofs.Common.{◌≤◌, ℕ, List, length, ap, arith}
use Rattle.cox_context.specs.Links.{linked_words}
use Rattle.cox_context.proofs.LinkedWords.{words-size, words-take, links-take}
use Rattle.cox_context.proofs.RisingMembers.{rising-take}
use Rattle.cox_context.proofs.members.Members.cut_back.Goals as goal

pub invariant_of-self : goal.invariant_of-self
invariant_of-self c =
    let links = c.self.inside.links.items
    in let within : c.args.count ≤ length links = omega
    (arith, c.requires.within, words-size links, ap (λ (words : List (List ℕ)). length words) c.self.view_is)
    in rw c.truncate.ensures.items (record {
      linked = links-take links c.args.count c.self.invariant.linked c.requires.some within;
      order = rw (words-take links c.args.count c.requires.some) (rising-take (linked_words links) c.self.inside.rising
          c.self.invariant.order c.args.count c.min-self-inside.result c.requires.some (omega (arith, within, words-size links))
          c.min-self-inside.ensures);
    })

pub returns : goal.returns
returns c = rw (c.truncate.ensures.items, ← c.self.view_is) (words-take c.self.inside.links.items c.args.count c.requires.some)
