-- One more link is one more word.
use Rattle.std.proofs.Common.{◌≡◌, ◌<◌, ℕ, List, length, ap, arith}
use Rattle.cox_context.specs.Links.{linked_words, link_at}
use Rattle.cox_context.specs.Numbers.{word_at}
use Rattle.cox_context.proofs.LinkedWords.{words-size, words-push, links-push, link-read}
use Rattle.cox_context.proofs.members.Members.push.Goals as goal

pub index-requires : goal.index-requires
index-requires c = omega
    (arith, c.requires.member, words-size c.self.inside.links.items, ap (λ (words : List (List ℕ)). length words) c.self.view_is)

pub overflow_add-letters : goal.overflow_add-letters
overflow_add-letters c =
    let inside : c.args.rest < length c.self.inside.links.items = omega
    (arith, c.requires.member, words-size c.self.inside.links.items, ap (λ (words : List (List ℕ)). length words) c.self.view_is)
    in let read : link_at c.self.inside.links.items c.args.rest ≡ c.index.result.now
    = link-read c.self.inside.links.items c.args.rest c.index.result.now inside c.index.ensures
    in let letters : c.index.result.now.letters ≡ length (word_at c.args.self.now c.args.rest) =
    rw (← c.self.view_is, ← read) (c.self.invariant.linked.letters c.args.rest inside)
    in omega (arith, letters, c.requires.short)

pub rising_with-rising-requires-clause-letters : goal.rising_with-rising-requires-clause-letters
rising_with-rising-requires-clause-letters c =
    let inside : c.args.rest < length c.self.inside.links.items = omega
    (arith, c.requires.member, words-size c.self.inside.links.items, ap (λ (words : List (List ℕ)). length words) c.self.view_is)
    in let read : link_at c.self.inside.links.items c.args.rest ≡ c.index.result.now
    = link-read c.self.inside.links.items c.args.rest c.index.result.now inside c.index.ensures
    in let letters : c.index.result.now.letters ≡ length (word_at c.args.self.now c.args.rest) =
    rw (← c.self.view_is, ← read) (c.self.invariant.linked.letters c.args.rest inside)
    in omega (arith, letters)

pub invariant_of-self-2 : goal.invariant_of-self-2
invariant_of-self-2 c =
    let inside : c.args.rest < length c.self.inside.links.items = omega
    (arith, c.requires.member, words-size c.self.inside.links.items, ap (λ (words : List (List ℕ)). length words) c.self.view_is)
    in let read : link_at c.self.inside.links.items c.args.rest ≡ c.index.result.now
    = link-read c.self.inside.links.items c.args.rest c.index.result.now inside c.index.ensures
    in let letters : c.index.result.now.letters ≡ length (word_at (linked_words c.self.inside.links.items) c.args.rest) =
    rw (← read) (c.self.invariant.linked.letters c.args.rest inside)
    in rw c.in_ok-push.ensures.items (record {
      linked = links-push c.self.inside.links.items _ c.self.invariant.linked
          (omega (
            arith,
            c.requires.room,
            words-size c.self.inside.links.items,
            ap (λ (words : List (List ℕ)). length words) c.self.view_is,
          ))
          inside (omega (arith, letters));
      order = rw (words-push c.self.inside.links.items _ c.self.invariant.linked.some, c.self.view_is) c.rising_with-rising.ensures;
    })

pub returns-clause-pushed : goal.returns-clause-pushed
returns-clause-pushed c =
    rw (c.in_ok-push.ensures.items, ← c.self.view_is) (words-push c.self.inside.links.items _ c.self.invariant.linked.some)
