-- The first members of the cells are the elements that no other element of their cell comes before; so there is one list of cells.
use Rattle.std.proofs.Common.{◌≡◌, ℕ, ◌≤◌, ◌<◌, ◌⊎◌, inl, inr, List, [], length, map, slice_index_or, Contains, sym, ap, ◌∙◌, ⊎_elim, arith}
use Rattle.std.proofs.lemmas.Bool.{cases_lt}
use Rattle.std.proofs.lemmas.List.{ext_get_or, get_or-map, length-map, get_or_default}
use Rattle.cox_base.specs.IntegerMatrix.{IntegerMatrix}
use Rattle.cox_reflect.proofs.ShortLexFirst.{IsBefore, IsBefore-asym, IsBefore-irrefl}
use Rattle.cox_base.specs.Members.{IsElement}
use Rattle.cox_base.specs.SortedList.{IsListOf}
use Rattle.cox_context.specs.Numbers.{word_at}
use Rattle.cox_context.proofs.PlacedWords.{IsPlaced, contains-at, contains-placed, placed-contains, rising-before}
use Rattle.cox_context.proofs.ShortLexLists.{IsListOf-unique}
use Rattle.cox_cells.specs.declared.kind.CellKind.{CellKind}
use Rattle.cox_cells.specs.Cells.{IsInCell, first_of, IsCell, AreCells}
use Rattle.cox_cells.proofs.StepChains.{cell-back}

-- no other element of its cell comes before x
pub record IsFirst (kind : CellKind) (A : IntegerMatrix) (x : List ℕ) : Type 0 where
  pub element : IsElement A x
  pub first : (y : List ℕ) → IsInCell kind A x y → (x ≡ y) ⊎ IsBefore x y

module _ (kind : CellKind) (A : IntegerMatrix) where
  -- the first word of a cell comes before the others
  first-before : (cell : List (List ℕ)) → IsCell kind A cell → (y : List ℕ) → IsPlaced cell y → (first_of cell ≡ y)
      ⊎ IsBefore (first_of cell) y
  first-before cell c y p = ⊎_elim
      (λ (some : 0 < p.i). inr (rw (sym p.is) (rising-before cell 0 p.i c.all.rising some p.within)))
      (λ (none : p.i ≤ 0). let z : p.i ≡ 0 = omega arith in inl (rw z at p.is)) (cases_lt 0 p.i)

  pub first-element : (cell : List (List ℕ)) → IsCell kind A cell → IsElement A (first_of cell)
  first-element cell c = (c.all.sound (first_of cell) (contains-at cell 0 c.some)).element

  first-is : (cell : List (List ℕ)) → IsCell kind A cell → IsFirst kind A (first_of cell)
  first-is cell c = record {
    element = first-element cell c;
    first = λ y is. first-before cell c y (contains-placed cell y (c.all.whole y is));
  }

  -- an element that no other one of its cell comes before is the first one there
  only-first : (cell : List (List ℕ)) → IsCell kind A cell → (x : List ℕ) → IsFirst kind A x → Contains cell x → first_of cell ≡ x
  only-first cell c x f there =
      ⊎_elim (λ (e : first_of cell ≡ x). e)
      (λ (b : IsBefore (first_of cell) x). absurd (⊎_elim
      (λ (e : x ≡ first_of cell). IsBefore-irrefl (rw e at b))
      (λ (d : IsBefore x (first_of cell)). IsBefore-asym b d)
      (f.first (first_of cell) (cell-back kind A (first_of cell) x (first-element cell c) (c.all.sound x there)))))
      (first-before cell c x (contains-placed cell x there))

  module _ (cells : List (List (List ℕ))) (h : AreCells kind A cells) where
    cell-at : (k : ℕ) → k < length cells → IsCell kind A (slice_index_or cells k [])
    cell-at k l = h.each k [] l

    word_at-firsts : (k : ℕ) → k < length cells → word_at (map first_of cells) k ≡ first_of (slice_index_or cells k [])
    word_at-firsts k l = get_or-map first_of cells k [] [] l

    pub firsts : IsListOf (IsFirst kind A) (map first_of cells)
    firsts = record {
      rising = h.rising;
      sound = λ x c.
          let p = contains-placed (map first_of cells) x c in let l : p.i < length cells = omega
          (arith, p.within, length-map cells first_of)
          in rw (sym p.is ∙ word_at-firsts p.i l) (first-is (slice_index_or cells p.i []) (cell-at p.i l));
      whole = λ x f. listed x f (h.whole x f.element);
    }
      where
        listed : (x : List ℕ) → IsFirst kind A x → ((cell : List (List ℕ)) × Contains cells cell × Contains cell x)
            → Contains (map first_of cells) x
        listed x f (cell, (k, l, e), there) =
            let same : slice_index_or cells k [] ≡ cell = get_or_default cells k [] cell l ∙ e
            in let c : IsCell kind A cell = rw (sym same) (cell-at k l)
            in placed-contains (map first_of cells) x
            (record {
              i = k;
              within = omega (arith, l, length-map cells first_of);
              is = word_at-firsts k l ∙ ap first_of same
                  ∙ only-first cell c x f there;
            })

  pub one_list : (cells others : List (List (List ℕ))) → AreCells kind A cells → AreCells kind A others → cells ≡ others
  one_list cells others p q = ext_get_or [] cells others size at
    where
      words : map first_of cells ≡ map first_of others
      words = IsListOf-unique (IsFirst kind A) _ _ (firsts cells p) (firsts others q)

      size : length cells ≡ length others
      size = sym (length-map cells first_of) ∙ ap length words ∙ length-map others first_of

      at : (k : ℕ) → k < length cells → slice_index_or cells k [] ≡ slice_index_or others k []
      at k l =
          let m : k < length others = omega (arith, l, size) in
          let e : first_of (slice_index_or cells k []) ≡ first_of (slice_index_or others k []) =
          sym (word_at-firsts cells p k l) ∙ ap (λ (ws : List (List ℕ)). word_at ws k) words ∙ word_at-firsts others q k m in
          let other : IsListOf (IsInCell kind A (first_of (slice_index_or cells k []))) (slice_index_or others k []) =
          rw e (cell-at others q k m).all
          in IsListOf-unique (IsInCell kind A (first_of (slice_index_or cells k []))) _ _ (cell-at cells p k l).all other
