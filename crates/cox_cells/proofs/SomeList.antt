-- A finite group has a list of cells: for each element that is the first of its cell, the elements that chains lead to and back from.
use Rattle.std.proofs.Common.{◌≡◌, ℕ, ◌<◌, Bool, true, ◌&&◌, List, [], length, map, filter, Contains, ◌↔◌, nat_eq, ap}
use Rattle.std.proofs.Common.{◌∙◌, arith}
use Rattle.std.specs.Cmp.Lexicographic.{pointwise, bytes_decides}
use Rattle.std.proofs.lemmas.List.{ext_get_or, get_or-map, length-map, get_or_default}
use Rattle.std.proofs.lemmas.List.Elements.{All-map}
use Rattle.std.proofs.lemmas.Bool.{and_parts, and_from}
use Rattle.cox_base.specs.IntegerMatrix.{IntegerMatrix}
use Rattle.cox_base.specs.Admissible.{IsAdmissible}
use Rattle.cox_base.specs.Members.{IsElement}
use Rattle.cox_base.specs.SortedList.{IsListOf}
use Rattle.cox_context.specs.Numbers.{word_at}
use Rattle.cox_context.proofs.PlacedWords.{contains-at, contains-placed}
use Rattle.cox_reflect.proofs.Listing.{contains-in, in-contains}
use Rattle.cox_context.proofs.ShortLexLists.{IsListOf-unique, IsListOf-filter}
use Rattle.cox_cells.specs.declared.kind.CellKind.{CellKind}
use Rattle.cox_cells.specs.Cells.{Precedes, IsInCell, first_of, IsCell, AreCells}
use Rattle.cox_cells.proofs.StepChains.{cell-itself, cell-back, cell-join}
use Rattle.cox_cells.proofs.Decided.{leads, chain-of, leads-by}

-- an element that passes a test
record Passes (A : IntegerMatrix) (test : List ℕ → Bool) (x : List ℕ) : Type 0 where
  element : IsElement A x
  passes : test x ≡ true

module _ (kind : CellKind) (A : IntegerMatrix) (g : IsAdmissible A) (elements : List (List ℕ)) (all : IsListOf (IsElement A) elements) where
  abbrev is_with : List ℕ → List ℕ → Bool
  is_with x y = leads A g kind elements x y && leads A g kind elements y x

  abbrev cell_of : List ℕ → List (List ℕ)
  cell_of x = filter (is_with x) elements

  chain : (x y : List ℕ) → IsElement A y → leads A g kind elements x y ≡ true → Precedes kind A x y
  chain x y e t = chain-of A g kind elements (λ z i. all.sound z (in-contains i)) x y e t

  leads-chain : (x y : List ℕ) → Precedes kind A x y → leads A g kind elements x y ≡ true
  leads-chain x y c = leads-by A g kind elements (λ z e. contains-in elements (all.whole z e)) c

  cell-list : (x : List ℕ) → IsElement A x → IsListOf (IsInCell kind A x) (cell_of x)
  cell-list x d = IsListOf-filter (IsElement A) (IsInCell kind A x) (is_with x) elements all tells (λ y c. c.element)
    where
      tells : (y : List ℕ) → IsElement A y → (is_with x y ≡ true) ↔ IsInCell kind A x y
      tells y e = (
        λ t. let b = and_parts (leads A g kind elements x y) (leads A g kind elements y x) t
            in record { element = e; forth = chain x y e b.0; back = chain y x d b.1 },
        λ c. and_from (leads A g kind elements x y) (leads A g kind elements y x) (leads-chain x y c.forth) (leads-chain y x c.back),
      )

  abbrev is_first : List ℕ → Bool
  is_first x = pointwise nat_eq (first_of (cell_of x)) x

  abbrev firsts : List (List ℕ)
  firsts = filter is_first elements

  firsts-list : IsListOf (Passes A is_first) firsts
  firsts-list = IsListOf-filter (IsElement A) (Passes A is_first) is_first elements all
      (λ x e. (λ t. record { element = e; passes = t }, λ p. p.passes)) (λ x p. p.element)

  first-at : (k : ℕ) → k < length firsts → Passes A is_first (word_at firsts k)
  first-at k l = firsts-list.sound (word_at firsts k) (contains-at firsts k l)

  -- the first of its cell
  first-same : (x : List ℕ) → is_first x ≡ true → first_of (cell_of x) ≡ x
  first-same x t = (bytes_decides (first_of (cell_of x)) x).0 t

  cell-some : (x : List ℕ) → IsElement A x → 0 < length (cell_of x)
  cell-some x e = let p = contains-placed (cell_of x) x ((cell-list x e).whole x (cell-itself kind A x e)) in omega (arith, p.within)

  cell-is : (x : List ℕ) → IsElement A x → is_first x ≡ true → IsCell kind A (cell_of x)
  cell-is x e t = record {
    some = cell-some x e;
    all = rw (first-same x t) (cell-list x e);
  }

  -- the cell of an element is that of its first member
  cell-same : (x f : List ℕ) → IsElement A x → IsElement A f → IsInCell kind A x f → cell_of f ≡ cell_of x
  cell-same x f d e c = IsListOf-unique (IsInCell kind A x) (cell_of f) (cell_of x) (record {
    rising = (cell-list f e).rising;
    sound = λ y there. cell-join kind A x f y c ((cell-list f e).sound y there);
    whole = λ y is. (cell-list f e).whole y (cell-join kind A f x y (cell-back kind A x f d c) is);
  }) (cell-list x d)

  pub some_list : AreCells kind A (map cell_of firsts)
  some_list = record {
    each = All-map (IsCell kind A) cell_of firsts (λ k d l.
        let p = first-at k l in rw (get_or_default firsts k d [] l) (cell-is (word_at firsts k) p.element p.passes));
    rising = rw words firsts-list.rising;
    whole = λ x e. whole x e (cell-some x e);
  }
    where
      words : map first_of (map cell_of firsts) ≡ firsts
      words = ext_get_or [] (map first_of (map cell_of firsts)) firsts
          (length-map (map cell_of firsts) first_of ∙ length-map firsts cell_of)
          (λ k l. let m : k < length firsts = omega (arith, l, length-map (map cell_of firsts) first_of, length-map firsts cell_of)
          in get_or-map first_of (map cell_of firsts) k [] [] (omega (arith, m, length-map firsts cell_of))
          ∙ ap first_of (get_or-map cell_of firsts k [] [] m) ∙ first-same (word_at firsts k) (first-at k m).passes)

      whole : (x : List ℕ) → IsElement A x → 0 < length (cell_of x)
          → (cell : List (List ℕ)) × Contains (map cell_of firsts) cell × Contains cell x
      whole x e some =
          let c = (cell-list x e).sound (first_of (cell_of x)) (contains-at (cell_of x) 0 some) in
          let same = cell-same x (first_of (cell_of x)) e c.element c in
          let first : is_first (first_of (cell_of x)) ≡ true =
          (bytes_decides (first_of (cell_of (first_of (cell_of x)))) (first_of (cell_of x))).1 (ap first_of same) in
          let there = firsts-list.whole (first_of (cell_of x)) (record { element = c.element; passes = first })
          in (
            cell_of (first_of (cell_of x)),
            (
              there.0,
              omega (arith, there.1, length-map firsts cell_of),
              get_or-map cell_of firsts there.0 (first_of (cell_of x)) (cell_of (first_of (cell_of x))) there.1 ∙ ap cell_of there.2,
            ),
            rw same ((cell-list x e).whole x (cell-itself kind A x e)),
          )
