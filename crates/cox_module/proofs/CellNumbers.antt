-- Cells that are given by the numbers of their members.
use Rattle.std.proofs.Common.{◌≡◌, ℕ, ◌<◌, List, [], length, map, arith}
use Rattle.std.specs.Global.{Vec}
use Rattle.std.specs.Prelude.{slice_index_or}
use Rattle.std.proofs.lemmas.List.{get_or-map, length-map}
use Rattle.cox_base.specs.IntegerMatrix.{IntegerMatrix}
use Rattle.cox_base.specs.SortedList.{IsRising}
use Rattle.cox_context.specs.Numbers.{word_at}
use Rattle.cox_context.proofs.PlacedWords.{rising-before}
use Rattle.cox_context.proofs.ShortLexLists.{before-less}
use Rattle.cox_row.specs.Rising.{number_at, AreRising, AreWithin}
use Rattle.cox_cells.specs.declared.kind.CellKind.{CellKind}
use Rattle.cox_cells.specs.Cells.{IsCell, AreCells}
use Rattle.cox_cells.specs.NumberedCells.{lists_of, list_at, words_of}
use Rattle.cox_module.specs.NumberedImages.{cell_words}

pub words-at : (members : List (List ℕ)) (cell : List ℕ) (p : ℕ) → p < length cell
    → word_at (cell_words members cell) p ≡ word_at members (number_at cell p)
words-at members cell p l = get_or-map (word_at members) cell p 0 [] l

pub words-size : (members : List (List ℕ)) (cell : List ℕ) → length (cell_words members cell) ≡ length cell
words-size members cell = length-map cell (word_at members)

-- words that rise have numbers that rise
pub numbers-rising : (members : List (List ℕ)) (cell : List ℕ) → IsRising members → AreWithin (length members) cell
    → IsRising (cell_words members cell) → AreRising cell
numbers-rising members cell r within rising j k less l =
    let m : j < length cell = omega (arith, less, l)
    in before-less members (number_at cell j) (number_at cell k) r (within j m)
    (rw (words-at members cell j m, words-at members cell k l) at
    (rising-before (cell_words members cell) j k rising less (omega (arith, l, words-size members cell))))

-- each list of a listing of cells is a cell
pub cell-at : (kind : CellKind) (A : IntegerMatrix) (members : List (List ℕ)) (cells : List (Vec ℕ))
    → AreCells kind A (words_of members cells)
    → (k : ℕ) → k < length cells → IsCell kind A (cell_words members (list_at (lists_of cells) k))
cell-at kind A members cells are k l =
    let size : length (lists_of cells) ≡ length cells = length-map cells (λ (cell : Vec ℕ). cell.items)
    in let there : slice_index_or (words_of members cells) k [] ≡ map (word_at members) (list_at (lists_of cells) k)
    = get_or-map (map (word_at members)) (lists_of cells) k [] [] (omega (arith, l, size))
    in rw there at (are.each k [] (omega (arith, l, size, length-map (lists_of cells) (map (word_at members)))))
