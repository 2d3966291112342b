-- The cell of an element as a list, among the lists of all cells.
use Rattle.std.proofs.Common.{◌≡◌, ℕ, ◌<◌, List, [], length, map, get_or, Contains, All, ap, sym, ◌∙◌, arith}
use Rattle.std.specs.Global.{Vec}
use Rattle.std.proofs.lemmas.List.{get_or-map, length-map, get_or_default}
use Rattle.cox_base.specs.IntegerMatrix.{IntegerMatrix}
use Rattle.cox_base.specs.Members.{IsElement}
use Rattle.cox_base.specs.SortedList.{IsRising, IsListOf}
use Rattle.cox_context.specs.Numbers.{word_at}
use Rattle.cox_context.proofs.PlacedWords.{contains-placed, contains-at, placed-contains, rising-place}
use Rattle.cox_row.specs.Rising.{number_at, AreRising, AreWithin}
use Rattle.cox_cells.specs.declared.kind.CellKind.{CellKind}
use Rattle.cox_cells.specs.Cells.{IsInCell, itself, first_of, IsCell, AreCells}
use Rattle.cox_cells.specs.NumberedCells.{lists_of, list_at, words_of}
use Rattle.cox_cells.proofs.StepChains.{cell-back, cell-join}
use Rattle.cox_cells.proofs.OneList.{first-element}
use Rattle.cox_module.specs.NumberedImages.{cell_words}
use Rattle.cox_module.proofs.CellNumbers.{words-at, words-size, numbers-rising, cell-at}

module _ (kind : CellKind) (A : IntegerMatrix) where
  -- a cell is the cell of each of its elements
  pub cell-of : (cell : List (List ℕ)) → IsCell kind A cell → (x : List ℕ) → Contains cell x → IsListOf (IsInCell kind A x) cell
  cell-of cell is x there = record {
    rising = is.all.rising;
    sound = λ y c. cell-join kind A x (first_of cell) y (cell-back kind A (first_of cell) x first own) (is.all.sound y c);
    whole = λ y r. is.all.whole y (cell-join kind A (first_of cell) x y own r);
  }
    where
      first : IsElement A (first_of cell)
      first = first-element kind A cell is

      own : IsInCell kind A (first_of cell) x
      own = is.all.sound x there

  -- and the list of an element's cell is a cell
  pub cell-is : (cell : List (List ℕ)) (x : List ℕ) → IsElement A x → IsListOf (IsInCell kind A x) cell → IsCell kind A cell
  cell-is cell x e is = record {
    some = some;
    all = record {
      rising = is.rising;
      sound = λ y c. cell-join kind A (first_of cell) x y (cell-back kind A x (first_of cell) e own) (is.sound y c);
      whole = λ y r. is.whole y (cell-join kind A x (first_of cell) y own r);
    };
  }
    where
      some : 0 < length cell
      some = let p = contains-placed cell x (is.whole x (record { element = e; forth = itself x; back = itself x })) in
          omega (arith, p.within)

      own : IsInCell kind A x (first_of cell)
      own = is.sound (first_of cell) (contains-at cell 0 some)

  pub some_cell : (cells : List (List (List ℕ))) → AreCells kind A cells → (x : List ℕ) → IsElement A x
      → (cell : List (List ℕ)) × IsListOf (IsInCell kind A x) cell
  some_cell cells are x e =
      let found = are.whole x e in
      let within = found.1 in
      (found.0, cell-of found.0 (rw within.2 at (are.each within.0 found.0 within.1)) x found.2)

-- ---- cells by the numbers of their elements

module _ (members : List (List ℕ)) (cells : List (Vec ℕ)) where
  lists-size : length (lists_of cells) ≡ length cells
  lists-size = length-map cells (λ (cell : Vec ℕ). cell.items)

  pub list-item : (k : ℕ) (cell : Vec ℕ) → k < length cells → cell ≡ get_or cells k cell → list_at (lists_of cells) k ≡ cell.items
  list-item k cell l is = get_or-map (λ (one : Vec ℕ). one.items) cells k cell [] l ∙ ap (λ (one : Vec ℕ). one.items) (sym is)

  pub list-within : (n : ℕ) → All (All (λ i. i < n)) (lists_of cells) → (k : ℕ) → k < length cells
      → AreWithin n (list_at (lists_of cells) k)
  list-within n all k l j m = all k [] (omega (arith, l, lists-size)) j 0 m

  module _ (kind : CellKind) (A : IntegerMatrix) (are : AreCells kind A (words_of members cells)) (rising : IsRising members) where
    pub list-rising : (k : ℕ) → k < length cells → AreWithin (length members) (list_at (lists_of cells) k)
        → AreRising (list_at (lists_of cells) k)
    list-rising k l within =
        numbers-rising members (list_at (lists_of cells) k) rising within (cell-at kind A members cells are k l).all.rising

    -- an element stands in some list
    pub listed : All (All (λ i. i < length members)) (lists_of cells) → (i : ℕ) → i < length members → IsElement A (word_at members i)
        → (k : ℕ) × (k < length cells) × Contains (list_at (lists_of cells) k) i
    listed all i inside e =
        let found = are.whole (word_at members i) e in
        let k = found.1.0 in
        let below : k < length cells = omega (arith, found.1.1, length-map (lists_of cells) (map (word_at members)), lists-size) in
        let list = list_at (lists_of cells) k in
        let words : found.0 ≡ cell_words members list
        = sym found.1.2 ∙ get_or_default (words_of members cells) k found.0 [] found.1.1
        ∙ get_or-map (map (word_at members)) (lists_of cells) k [] [] (omega (arith, below, lists-size)) in
        let p = contains-placed (cell_words members list) (word_at members i) (rw words at found.2) in
        let l : p.i < length list = omega (arith, p.within, words-size members list) in
        let same : number_at list p.i ≡ i
        = rising-place members (number_at list p.i) i rising (list-within (length members) all k below p.i l) inside
        (sym (words-at members list p.i l) ∙ p.is) in
        (k, below, (p.i, l, get_or_default list p.i i 0 l ∙ same))

    -- the words of a list that has the number of an element are the cell of the element
    pub list-cell : (k : ℕ) → k < length cells → (i : ℕ) → Contains (list_at (lists_of cells) k) i
        → IsListOf (IsInCell kind A (word_at members i)) (cell_words members (list_at (lists_of cells) k))
    list-cell k l i there =
        let list = list_at (lists_of cells) k in
        let same : number_at list there.0 ≡ i = get_or_default list there.0 0 i there.1 ∙ there.2 in
        cell-of kind A (cell_words members list) (cell-at kind A members cells are k l) (word_at members i)
        (placed-contains (cell_words members list) (word_at members i) (record {
          i = there.0;
          within = omega (arith, there.1, words-size members list);
          is = words-at members list there.0 there.1 ∙ ap (word_at members) same;
        }))
