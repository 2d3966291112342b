-- Members by links: each but the identity is its first letter and the number of the rest of its word.
use Rattle.std.specs.Prelude.{◌≡◌, ℕ, ◌-◌, ◌<◌, ◌≤◌, List, [], ◌∷◌, ◌++◌, length, slice_index_or}
use Rattle.std.specs.declared.cmp.Ordering.TheVariants.{Less}
use Rattle.cox_base.specs.ShortLex.{shortlex_cmp}
use Rattle.cox_context.specs.declared.members.Link.{Link}
use Rattle.cox_context.specs.declared.members.TheConstants.{MAX_MEMBERS}
use Rattle.cox_context.specs.Numbers.{word_at}

-- words, and behind them those of further links
abbrev pub words_from : List (List ℕ) → List Link → List (List ℕ)
words_from words [] = words
words_from words (link ∷ links) = words_from (words ++ (link.first ∷ word_at words link.rest) ∷ []) links

-- the words of the members: the first link is that of the identity, whose word is empty
abbrev pub linked_words : List Link → List (List ℕ)
linked_words [] = []
linked_words (identity ∷ links) = words_from ([] ∷ []) links

-- the link with a number
abbrev pub link_at : List Link → ℕ → Link
link_at links i = slice_index_or links i (record { first = 0; letters = 0; rest = 0 })

-- each link leads to a member before it and has its number of letters
pub record AreMemberLinks (links : List Link) : Type 0 where
  pub some : 1 ≤ length links
  pub few : length links ≤ MAX_MEMBERS
  pub inward : (i : ℕ) → 0 < i → i < length links → (link_at links i).rest < i
  pub letters : (i : ℕ) → i < length links → (link_at links i).letters ≡ length (word_at (linked_words links) i)

-- the first words, so many, are in ShortLex order, and the next one does not go on so
pub record AreRising (words : List (List ℕ)) (count : ℕ) : Type 0 where
  pub some : 1 ≤ count
  pub within : count ≤ length words
  pub rising : (i j : ℕ) → i < j → j < count → shortlex_cmp (word_at words i) (word_at words j) ≡ Less
  pub stop : count < length words → shortlex_cmp (word_at words (count - 1)) (word_at words count) ≡ Less → ⊥

-- links of members, of which the first ones, so many, are in ShortLex order
pub record AreMembers (links : List Link) (rising : ℕ) : Type 0 where
  pub linked : AreMemberLinks links
  pub order : AreRising (linked_words links) rising
