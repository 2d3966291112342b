-- The text of a list of members, from its number of items on.
use Rattle.std.proofs.Common.{◌≡◌, ℕ, List, ◌∷◌, ◌++◌, length, map, decimal, ap, ◌∙◌}
use Rattle.std.specs.List.{flat_map}
use Rattle.std.proofs.lemmas.List.{length-map}
use Rattle.std.proofs.lemmas.List.Folds.{flat_map-map}
use Rattle.cox_print.specs.AnswerText.{element_text, elements_text}
use Rattle.cox_context.specs.Numbers.{word_at}
use Rattle.cox_replies.specs.Putting.{words_at}

-- the line of a member, behind the end of the line before
abbrev pub member_line : ℕ → List (List ℕ) → ℕ → List ℕ
member_line rank members k = 10 ∷ element_text rank (word_at members k)

-- the number of items, and the items
pub elements_text-lines : (rank : ℕ) (members : List (List ℕ)) (numbers : List ℕ)
    → elements_text rank (words_at members numbers) ≡ decimal (length numbers) ++ flat_map (member_line rank members) numbers
elements_text-lines rank members numbers =
    let words = words_at members numbers in
    let count : length (map (element_text rank) words) ≡ length numbers =
    length-map words (element_text rank) ∙ length-map numbers (λ k. word_at members k) in
    let items = flat_map-map (λ item. 10 ∷ item) (element_text rank) words
    ∙ flat_map-map (λ word. 10 ∷ element_text rank word) (λ k. word_at members k) numbers in
    ap (λ n. decimal n ++ flat_map (λ item. 10 ∷ item) (map (element_text rank) words)) count
    ∙ ap (λ t. decimal (length numbers) ++ t) items
