-- What `module` asks: the module of the left cell of an element.
use Rattle.std.specs.Prelude.{◌≡◌, ℕ, ◌∷◌, ◌++◌, List, length, codes, decimal}
use Rattle.std.specs.List.{flat_map, range_with_len}
use Rattle.cox_base.specs.IntegerMatrix.{IntegerMatrix}
use Rattle.cox_base.specs.ShortLex.{normal_form, letters}
use Rattle.cox_base.specs.SortedList.{IsListOf}
use Rattle.cox_context.specs.Numbers.{word_at}
use Rattle.cox_cells.specs.declared.kind.CellKind.TheVariants.{Left}
use Rattle.cox_cells.specs.Cells.{IsInCell}
use Rattle.cox_module.specs.declared.term.Entry.{Entry}
use Rattle.cox_module.specs.declared.term.Entry.TheVariants.{Minus, Square, Half}
use Rattle.cox_module.specs.declared.term.Term.{Term}
use Rattle.cox_module.specs.Images.{AreImages}
use Rattle.cox_poly.specs.PolynomialText.{factor_text}
use Rattle.cox_print.specs.AnswerText.{element_text, members_text}

-- a coefficient: -1, v^2, or a multiple of v
abbrev pub entry_text : Entry → List ℕ
entry_text Minus = codes "-1"
entry_text Square = codes "v^2"
entry_text (Half m) = factor_text 1 m ++ codes "v"

-- a term: the element at its place of the cell, and its coefficient
abbrev pub image_term_text : ℕ → List (List ℕ) → Term → List ℕ
image_term_text rank cell t = (codes " " ++ element_text rank (word_at cell t.place) ++ codes "=") ++ entry_text t.entry

-- the image of the element x of the cell under the letter s
abbrev pub image_text : ℕ → List (List ℕ) → ℕ → List ℕ → List Term → List ℕ
image_text rank cell s x image =
    (decimal s ++ (codes " " ++ element_text rank x) ++ codes ":") ++ flat_map (image_term_text rank cell) image

-- the images of all elements of the cell under a letter, each behind the end of the line before
abbrev pub operator_text : ℕ → List (List ℕ) → (ℕ → ℕ → List Term) → ℕ → List ℕ
operator_text rank cell images s =
    flat_map (λ k. 10 ∷ image_text rank cell s (word_at cell k) (images s k)) (range_with_len 0 (length cell))

-- how many elements the cell has, its elements, and the images under each of the letters
abbrev pub module_text : ℕ → List (List ℕ) → (ℕ → ℕ → List Term) → List ℕ → List ℕ
module_text rank cell images letters =
    decimal (length cell) ++ 10 ∷ members_text rank cell ++ flat_map (operator_text rank cell images) letters

-- the module of the left cell of w
abbrev pub IsModuleText : IntegerMatrix → List ℕ → List ℕ → Type 0
IsModuleText A w text = (cell : List (List ℕ)) × IsListOf (IsInCell Left A (normal_form A w)) cell
    × (images : ℕ → ℕ → List Term) × AreImages A cell images × (text ≡ module_text A.rank cell images (letters A.rank))
