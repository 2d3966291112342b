-- By the lengths of the two words, by their first letters, and by the numbers of the rests.
use Rattle.std.proofs.Common.{◌≡◌, ◌-◌, ◌<◌, ◌∷◌, ℕ, List, length, ap, arith}
use Rattle.std.proofs.lemmas.Bool.Decides.{Decides-like, Decides-ltb}
use Rattle.cox_context.specs.Numbers.{word_at}
use Rattle.cox_context.proofs.LinkedWords.{words-size, last-letters, last-word, last-inward}
use Rattle.cox_context.proofs.RisingMembers.{before_by_length, before_by_first, before_by_rest}
use Rattle.cox_context.proofs.members.Members.last_is_before.Goals as goal

pub returns-then-last-link : goal.returns-then-last-link
returns-then-last-link c =
    let words = c.args.self.now
    in let n = c.len.result
    in let last = c.index-last.result.now
    in let link = c.args.link
    in let links = c.self.inside.links.items
    in let size : length words ≡ n = omega
    (arith, c.len.ensures, words-size links, ap (λ (words : List (List ℕ)). length words) c.self.view_is)
    in let letters : last.letters ≡ length (word_at words (n - 1))
    = rw c.self.view_is at (last-letters links c.self.invariant.linked n (omega (arith, c.len.ensures)) last c.index-last.ensures)
    in let differ : length (word_at words (n - 1)) ≡ length (link.first ∷ word_at words link.rest) → ⊥
    = λ e. c.if-last-link.true (omega (arith, e, letters, c.requires.letters))
    in let by = before_by_length (word_at words (n - 1)) (link.first ∷ word_at words link.rest) differ
    in rw size (Decides-like _ (λ l. by.0 (omega (arith, l, letters, c.requires.letters)))
    (λ e. omega (arith, by.1 e, letters, c.requires.letters)) (Decides-ltb last.letters link.letters))

pub returns-then-last-link-2 : goal.returns-then-last-link-2
returns-then-last-link-2 c =
    let words = c.args.self.now
    in let n = c.len.result
    in let last = c.index-last.result.now
    in let link = c.args.link
    in let links = c.self.inside.links.items
    in let size : length words ≡ n = omega
    (arith, c.len.ensures, words-size links, ap (λ (words : List (List ℕ)). length words) c.self.view_is)
    in let letters : last.letters ≡ length (word_at words (n - 1))
    = rw c.self.view_is at (last-letters links c.self.invariant.linked n (omega (arith, c.len.ensures)) last c.index-last.ensures)
    in let word : word_at words (n - 1) ≡ last.first ∷ word_at words last.rest
    = rw c.self.view_is at (last-word links c.self.invariant.linked n (omega (arith, c.len.ensures)) last c.index-last.ensures
    (omega (arith, c.if-last-link.false, c.requires.letters)))
    in let long : length (word_at words last.rest) ≡ length (word_at words link.rest) = omega
    (arith, ap length word, letters, c.if-last-link.false, c.requires.letters)
    in rw (size, word) (Decides-like _ (before_by_first last.first link.first (word_at words last.rest) (word_at words link.rest) long
    c.if-last-link-2.true).0
    (before_by_first last.first link.first (word_at words last.rest) (word_at words link.rest) long c.if-last-link-2.true).1
    (Decides-ltb last.first link.first))

pub returns : goal.returns
returns c =
    let words = c.args.self.now
    in let n = c.len.result
    in let last = c.index-last.result.now
    in let link = c.args.link
    in let links = c.self.inside.links.items
    in let size : length words ≡ n = omega
    (arith, c.len.ensures, words-size links, ap (λ (words : List (List ℕ)). length words) c.self.view_is)
    in let some : 0 < last.letters = omega (arith, c.if-last-link.false, c.requires.letters)
    in let word : word_at words (n - 1) ≡ last.first ∷ word_at words last.rest
    = rw c.self.view_is at (last-word links c.self.invariant.linked n (omega (arith, c.len.ensures)) last c.index-last.ensures some)
    in let inward : last.rest < length words = omega (
      arith,
      last-inward links c.self.invariant.linked n (omega (arith, c.len.ensures)) last c.index-last.ensures some,
      words-size links,
      ap (λ (words : List (List ℕ)). length words) c.self.view_is,
    )
    in let first : last.first ≡ link.first = c.if-last-link-2.false
    in let by = before_by_rest words c.requires.rising link.first last.rest link.rest inward c.requires.member
    in rw (size, word, first) (Decides-like _ by.0 by.1 (Decides-ltb last.rest link.rest))
