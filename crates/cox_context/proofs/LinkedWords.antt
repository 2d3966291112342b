-- The words of members that are given by links.
use Rattle.std.proofs.Common.{◌≡◌, ℕ, zero, suc, ◌+◌, ◌-◌, ◌≤◌, ◌<◌, List, [], ◌∷◌, ◌++◌, length, take, append_assoc, refl, ap, sym}
use Rattle.std.proofs.Common.{◌∙◌, ⊎_elim, arith}
use Rattle.std.proofs.Common.{length-append, get_or}
use Rattle.std.proofs.lemmas.Bool.{cases_lt}
use Rattle.std.proofs.lemmas.List.{get_or_append_left, get_or_default, append-nil, take_all, length-take-le, get_or-take}
use Rattle.std.proofs.Math.Seq.{get_or-append_seam, take-append_seam}
use Rattle.cox_lemmas.proofs.PushedItems.{push-length}
use Rattle.cox_context.specs.declared.members.Link.{Link}
use Rattle.cox_context.specs.declared.members.TheConstants.{MAX_MEMBERS}
use Rattle.cox_context.specs.Numbers.{word_at}
use Rattle.cox_context.specs.Links.{words_from, linked_words, link_at, AreMemberLinks}
use Rattle.cox_context.proofs.PlacedWords.{word_at-old, word_at-new}

-- the word of a link behind these words
abbrev linked : List (List ℕ) → Link → List ℕ
linked words link = link.first ∷ word_at words link.rest

from-size : (words : List (List ℕ)) (links : List Link) → length (words_from words links) ≡ length words + length links
from-size words [] = omega arith
from-size words (l ∷ links) = omega (arith, from-size (words ++ linked words l ∷ []) links, push-length words (linked words l))

words_from-old : (words : List (List ℕ)) (links : List Link) (i : ℕ) → i < length words
    → word_at (words_from words links) i ≡ word_at words i
words_from-old words [] i l = refl
words_from-old words (link ∷ links) i l =
    words_from-old (words ++ linked words link ∷ []) links i (omega (arith, l, push-length words (linked words link)))
    ∙ word_at-old words (linked words link) i l

from-at : (words : List (List ℕ)) (links : List Link) (i : ℕ) → i < length links → (link_at links i).rest < length words + i
    → word_at (words_from words links) (length words + i) ≡ (link_at links i).first ∷ word_at (words_from words links)
    (link_at links i).rest
from-at words [] i l k = absurd (omega (arith, l))
from-at words (link ∷ links) zero l k =
    let more = push-length words (linked words link)
    in let here : length words + 0 ≡ length words = omega arith
    in rw here (words_from-old (words ++ linked words link ∷ []) links (length words) (omega (arith, more))
    ∙ word_at-new words (linked words link) (length words) refl
    ∙ ap (λ (x : List ℕ). link.first ∷ x) (sym (words_from-old (words ++ linked words link ∷ []) links link.rest (omega (arith, k, more))
    ∙ word_at-old words (linked words link) link.rest (omega (arith, k)))))
from-at words (link ∷ links) (suc i) l k =
    let more = push-length words (linked words link)
    in let here : length words + suc i ≡ length (words ++ linked words link ∷ []) + i = omega (arith, more)
    in rw here (from-at (words ++ linked words link ∷ []) links i (omega (arith, l)) (omega (arith, k, more)))

from-push : (words : List (List ℕ)) (links : List Link) (link : Link)
    → words_from words (links ++ link ∷ []) ≡ words_from words links ++ linked (words_from words links) link ∷ []
from-push words [] link = refl
from-push words (l ∷ links) link = from-push (words ++ linked words l ∷ []) links link

from-front : (words : List (List ℕ)) (links : List Link) → (rest : List (List ℕ)) × (words_from words links ≡ words ++ rest)
from-front words [] = ([], sym (append-nil words))
from-front words (l ∷ links) =
    let p = from-front (words ++ linked words l ∷ []) links
    in (linked words l ∷ p.0, p.1 ∙ append_assoc words (linked words l ∷ []) p.0)

-- the words of the first links are the first words
from-take : (words : List (List ℕ)) (links : List Link) (n : ℕ)
    → words_from words (take n links) ≡ take (length words + n) (words_from words links)
from-take words [] n = rw (take_all {A = Link} n [] (omega arith)) (sym (take_all {A = List ℕ} (length words + n) words (omega arith)))
from-take words (l ∷ links) zero =
    let p = from-front words (l ∷ links)
    in let e : length words + 0 ≡ length words = omega arith
    in rw (e, p.1) (sym (take-append_seam words p.0))
from-take words (l ∷ links) (suc n) =
    let e : length words + suc n ≡ length (words ++ linked words l ∷ []) + n = omega (arith, push-length words (linked words l))
    in rw e (from-take (words ++ linked words l ∷ []) links n)

pub words-take : (links : List Link) (n : ℕ) → 1 ≤ n → linked_words (take n links) ≡ take n (linked_words links)
words-take links zero l = absurd (omega (arith, l))
words-take [] (suc n) l = refl
words-take (identity ∷ links) (suc n) l =
    let e : 1 + n ≡ suc n = omega arith in rw e at (from-take ([] ∷ []) links n)

pub words-size : (links : List Link) → length (linked_words links) ≡ length links
words-size [] = refl
words-size (l ∷ links) = omega (arith, from-size ([] ∷ []) links)

pub words-first : (links : List Link) → word_at (linked_words links) 0 ≡ []
words-first [] = refl
words-first (l ∷ links) = words_from-old ([] ∷ []) links 0 (omega arith)

pub words-link : (links : List Link) (i : ℕ) → 0 < i → i < length links → (link_at links i).rest < i
    → word_at (linked_words links) i ≡ (link_at links i).first ∷ word_at (linked_words links) (link_at links i).rest
words-link links zero l k inward = absurd (omega arith)
words-link [] (suc i) l k inward = absurd (omega (arith, k))
words-link (l ∷ links) (suc i) m k inward =
    let here : 1 + i ≡ suc i = omega arith in rw here at (from-at ([] ∷ []) links i (omega (arith, k)) (omega (arith, inward)))

pub words-push : (links : List Link) (link : Link) → 1 ≤ length links
    → linked_words (links ++ link ∷ []) ≡ linked_words links ++ (link.first ∷ word_at (linked_words links) link.rest) ∷ []
words-push [] link l = absurd (omega (arith, l))
words-push (identity ∷ links) link l = from-push ([] ∷ []) links link

pub links-push : (links : List Link) (link : Link) → AreMemberLinks links → length links < MAX_MEMBERS → link.rest < length links
    → link.letters ≡ length (word_at (linked_words links) link.rest) + 1 → AreMemberLinks (links ++ link ∷ [])
links-push links link h room inside letters = record {
  some = omega (arith, size, h.some);
  few = omega (arith, size, room);
  inward = λ i l k. ⊎_elim (λ (below : i < length links). rw (old i below) (h.inward i l below))
      (λ (above : length links ≤ i). let e : i ≡ length links = omega (arith, above, k, size) in rw (e, new) inside) (cases_lt i
      (length links));
  letters = λ i k. rw (words-push links link h.some) (⊎_elim
      (λ (below : i < length links). rw (
        old i below,
        word_at-old words (link.first ∷ word_at words link.rest) i
            (omega (arith, below, words-size links)),
      ) (h.letters i below))
      (λ (above : length links ≤ i). last i (omega (arith, above, k, size))) (cases_lt i (length links)));
}
  where
    words : List (List ℕ)
    words = linked_words links

    nothing : Link
    nothing = record { first = 0; letters = 0; rest = 0 }

    size : length (links ++ link ∷ []) ≡ length links + 1
    size = length-append links (link ∷ [])

    old : (i : ℕ) → i < length links → link_at (links ++ link ∷ []) i ≡ link_at links i
    old i l = get_or_append_left links (link ∷ []) nothing i l

    new : link_at (links ++ link ∷ []) (length links) ≡ link
    new = get_or-append_seam links link [] nothing

    last : (i : ℕ) → i ≡ length links → (link_at (links ++ link ∷ []) i).letters
        ≡ length (word_at (linked_words links ++ (link.first ∷ word_at (linked_words links) link.rest) ∷ []) i)
    last i e = rw (
      word_at-new (linked_words links) (link.first ∷ word_at (linked_words links) link.rest) i (e ∙ sym (words-size links)),
      e,
      new,
    ) (omega (arith, letters))

pub links-take : (links : List Link) (n : ℕ) → AreMemberLinks links → 1 ≤ n → n ≤ length links → AreMemberLinks (take n links)
links-take links n h some within = record {
  some = omega (arith, size, some);
  few = omega (arith, size, within, h.few);
  inward = λ i l k. let less : i < n = omega (arith, k, size) in rw (old i less) (h.inward i l (omega (arith, less, within)));
  letters = λ i k.
      let less : i < n = omega (arith, k, size)
      in rw (old i less, words-take links n some, get_or-take n (linked_words links) i [] less) (h.letters i (omega (arith, less, within)));
}
  where
    size : length (take n links) ≡ n
    size = length-take-le n links within

    old : (i : ℕ) → i < n → link_at (take n links) i ≡ link_at links i
    old i l = get_or-take n links i (record { first = 0; letters = 0; rest = 0 }) l

-- a link that was read
pub link-read : (links : List Link) (i : ℕ) (link : Link) → i < length links → link ≡ get_or links i link → link_at links i ≡ link
link-read links i link l e = get_or_default links i (record { first = 0; letters = 0; rest = 0 }) link l ∙ sym e

-- ---- the last link

module _ (links : List Link) (h : AreMemberLinks links) (n : ℕ) (size : n ≡ length links) (last : Link)
    (is : last ≡ get_or links (n - 1) last) where
  inside : n - 1 < length links
  inside = omega (arith, size, h.some)

  read : link_at links (n - 1) ≡ last
  read = link-read links (n - 1) last inside is

  pub last-letters : last.letters ≡ length (word_at (linked_words links) (n - 1))
  last-letters = rw (← read) (h.letters (n - 1) inside)

  -- unless it is that of the identity, it begins with the first letter of its word
  module _ (some : 0 < last.letters) where
    later : 0 < n - 1
    later = ⊎_elim (λ more. more) (λ (none : n - 1 ≤ 0).
        let first : n - 1 ≡ 0 = omega (arith, none)
        in absurd (omega (arith, some, last-letters, ap length (ap (word_at (linked_words links)) first ∙ words-first links))))
        (cases_lt 0 (n - 1))

    pub last-word : word_at (linked_words links) (n - 1) ≡ last.first ∷ word_at (linked_words links) last.rest
    last-word = rw (← read) (words-link links (n - 1) later inside (h.inward (n - 1) later inside))

    pub last-inward : last.rest < length links
    last-inward = let l : last.rest < n - 1 = rw (← read) (h.inward (n - 1) later inside) in omega (arith, l, inside)
