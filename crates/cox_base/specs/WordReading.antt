-- What reading a word answers.
use Rattle.std.specs.Prelude.{◌≡◌, ℕ, ◌<◌, ◌≤◌, List, length, None, Some, Result, Ok, Err}
use Rattle.std.specs.List.{filter_map}
use Rattle.arrayvec.specs.ArrayVec.{ArrayVec}
use Rattle.cox_base.specs.declared.limits.TheConstants.{MAX_LETTERS}
use Rattle.cox_base.specs.Matrix.{IsWord}
use Rattle.cox_base.specs.WordText.{pieces_of, letter_of, word_of, foreign_piece, first_foreign}
use Rattle.cox_base.specs.declared.word.WordFault.{WordFault}
use Rattle.cox_base.specs.declared.word.WordFault.TheVariants.{Long, Letter}

-- the number of pieces of a text that has too many for a word; else where its first piece begins that is no letter; else the word
abbrev pub ReadsWord : Result (ArrayVec ℕ) WordFault → List ℕ → ℕ → Type 0
ReadsWord (Ok word) text rank =
    (length (pieces_of rank text) ≤ MAX_LETTERS) × (first_foreign rank text ≡ None) × (word.items ≡ word_of rank text)
    × IsWord rank word.items
ReadsWord (Err (Long count)) text rank = (MAX_LETTERS < count) × (count ≡ length (pieces_of rank text))
ReadsWord (Err (Letter at)) text rank = (length (pieces_of rank text) ≤ MAX_LETTERS) × (first_foreign rank text ≡ Some at)

-- the same of the pieces of a text that is not `e` and has not too many
abbrev pub ReadsPieces : Result (ArrayVec ℕ) WordFault → List (List ℕ) → ℕ → Type 0
ReadsPieces (Ok word) pieces rank =
    (foreign_piece rank pieces ≡ None) × (word.items ≡ filter_map (letter_of rank) pieces) × IsWord rank word.items
ReadsPieces (Err (Long count)) pieces rank = ⊥
ReadsPieces (Err (Letter at)) pieces rank = foreign_piece rank pieces ≡ Some at
