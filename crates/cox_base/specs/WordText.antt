-- Words as they are written: `e` alone for the empty word, else letters in decimal. In a group of rank 1 to 9 each letter is one digit, and
-- letters stand side by side; in a group of a greater rank single dots stand between them. The rank is that of the group.
use Rattle.std.specs.Prelude.{ℕ, ◌+◌, ◌==◌, Bool, if◌then◌else◌, nat_le, List, [], ◌∷◌, length, map, take, codes, decimal}
use Rattle.std.specs.Prelude.{find, position, sum_by, Option, None, is_none}
use Rattle.std.specs.List.{filter_map, join_by, slice_split}
use Rattle.std.specs.Option.{option_map}
use Rattle.std.specs.Str.{bytes_eq}
use Rattle.cox_base.specs.declared.limits.TheConstants.{MAX_DIGIT_RANK}
use Rattle.cox_base.specs.ShortLex.{letters}

-- whether each letter of the group is one digit
abbrev pub has_digits : ℕ → Bool
has_digits rank = nat_le rank MAX_DIGIT_RANK

-- what stands between two letters: nothing where each letter is one digit, else a dot
abbrev pub separator : ℕ → List ℕ
separator rank = if has_digits rank then [] else codes "."

-- letters as they are written, or this text where there are none
abbrev pub letters_or : List ℕ → ℕ → List ℕ → List ℕ
letters_or none rank [] = none
letters_or none rank letters = join_by decimal (separator rank) letters

-- a word as it is written
abbrev pub word_text : ℕ → List ℕ → List ℕ
word_text rank word = letters_or (codes "e") rank word

-- whether a text is `e` alone
abbrev pub is_e : List ℕ → Bool
is_e text = bytes_eq text (codes "e")

-- whether a byte is a dot, which stands between two letters (46 is its code)
abbrev pub is_dot : ℕ → Bool
is_dot byte = byte == 46

-- The pieces of a text, one for each letter: its bytes where each letter is one digit, else what stands before, between and after its dots.
abbrev pub pieces_of : ℕ → List ℕ → List (List ℕ)
pieces_of rank text = if has_digits rank then map (λ byte. byte ∷ []) text else slice_split is_dot text

-- the letter that a piece names: the letter of the group that is written so, if there is one
abbrev pub letter_of : ℕ → List ℕ → Option ℕ
letter_of rank piece = find (λ letter. bytes_eq (decimal letter) piece) (letters rank)

-- the letters that a text names
abbrev pub word_of : ℕ → List ℕ → List ℕ
word_of rank text = if is_e text then [] else filter_map (letter_of rank) (pieces_of rank text)

-- the place, from 1, of the first byte of a piece: behind the pieces before it, each of them with what separates it from the next
abbrev pub piece_place : ℕ → List (List ℕ) → ℕ → ℕ
piece_place rank pieces k = sum_by (λ piece. length piece + length (separator rank)) (take k pieces) + 1

-- the first of some pieces that is no letter of the group: where it begins
abbrev pub foreign_piece : ℕ → List (List ℕ) → Option ℕ
foreign_piece rank pieces = option_map (piece_place rank pieces) (position (λ piece. is_none (letter_of rank piece)) pieces)

-- where the first piece of a text begins that is no letter of the group, if there is one
abbrev pub first_foreign : ℕ → List ℕ → Option ℕ
first_foreign rank text = if is_e text then None else foreign_piece rank (pieces_of rank text)
