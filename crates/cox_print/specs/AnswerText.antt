-- The texts of answers, as lists of bytes. The rank is that of the group.
use Rattle.std.specs.Prelude.{ℕ, ℤ, ◌++◌, Bool, if◌then◌else◌, List, ◌∷◌, length, map, codes, decimal}
use Rattle.std.specs.Fmt.{signed_decimal}
use Rattle.std.specs.List.{flat_map, join_by}
use Rattle.cox_base.specs.WordText.{letters_or, word_text}
use Rattle.cox_poly.specs.PolynomialText.{polynomial_text}

-- an element: its normal form as it is written, `e` for the identity
abbrev pub element_text : ℕ → List ℕ → List ℕ
element_text rank word = word_text rank word

-- a set of letters: the letters, which rise, as they are written; `-` for the empty set
abbrev pub set_text : ℕ → List ℕ → List ℕ
set_text rank letters = letters_or (codes "-") rank letters

-- the left and the right descents
abbrev pub descent_text : ℕ → List ℕ → List ℕ → List ℕ
descent_text rank left right = codes "L " ++ set_text rank left ++ codes " R " ++ set_text rank right

-- whole numbers, separated by one space
abbrev pub numbers_text : List ℤ → List ℕ
numbers_text numbers = join_by signed_decimal (codes " ") numbers

-- a list: a line with the number of its items, then one line for each item; the last line's end is not part of it
abbrev pub list_text : List (List ℕ) → List ℕ
list_text items = decimal (length items) ++ flat_map (λ item. 10 ∷ item) items

-- a list of elements
abbrev pub elements_text : ℕ → List (List ℕ) → List ℕ
elements_text rank words = list_text (map (element_text rank) words)

-- an element and a polynomial that belongs to it
abbrev pub pair_text : ℕ → List ℕ → List ℤ → List ℕ
pair_text rank x p = element_text rank x ++ codes ":" ++ polynomial_text p

-- the members of a cell, separated by one space
abbrev pub members_text : ℕ → List (List ℕ) → List ℕ
members_text rank members = join_by (element_text rank) (codes " ") members

-- an element of a W-graph and its label, which is a set of letters
abbrev pub head_text : ℕ → List ℕ → List ℕ → List ℕ
head_text rank x label = element_text rank x ++ codes " " ++ set_text rank label

-- an edge of it: the element that it leads to, and its value
abbrev pub edge_text : ℕ → List ℕ → ℤ → List ℕ
edge_text rank y value = codes " " ++ element_text rank y ++ codes ":" ++ signed_decimal value

-- a count and its name
abbrev pub count_text : List ℕ → ℕ → List ℕ
count_text name n = name ++ codes " " ++ decimal n

-- how many words were worked through, how many entries their rows have, the largest degree, and the sum of the coefficients
abbrev pub work_text : ℕ → ℕ → ℕ → ℕ → List ℕ
work_text words entries degree sum =
    count_text (codes "words") words ++ count_text (codes " entries") entries ++ count_text (codes " degree") degree
    ++ count_text (codes " sum") sum

-- whether a fact holds
abbrev pub truth_text : Bool → List ℕ
truth_text truth = if truth then codes "true" else codes "false"

-- the text of a refused line, by the number of the refusal
abbrev pub refusal_text : ℕ → List ℕ
refusal_text number = codes "error " ++ decimal number
