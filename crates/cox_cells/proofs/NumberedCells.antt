-- Classes of numbers are cells of elements.
use Rattle.std.proofs.Common.{◌≡◌, ℕ, ◌<◌, List, [], length, map, slice_index, Contains, refl, sym, ap, ◌∙◌, ⊎_elim, arith}
use Rattle.std.proofs.lemmas.Bool.{cases_order}
use Rattle.std.proofs.lemmas.List.{get_or-map, length-map, get_or_default}
use Rattle.std.proofs.lemmas.List.Elements.{All-map}
use Rattle.cox_base.specs.IntegerMatrix.{integer_matrix}
use Rattle.cox_context.specs.Closed.{Elements}
use Rattle.cox_base.specs.Members.{IsElement}
use Rattle.cox_base.specs.SortedList.{IsListOf}
use Rattle.cox_context.specs.Numbers.{word_at}
use Rattle.cox_context.proofs.PlacedWords.{IsPlaced, contains-at, contains-placed, placed-contains, rising-place}
use Rattle.cox_row.specs.Rising.{number_at}
use Rattle.cox_scc.specs.Reach.{HasEdge, Reaches, AreClasses}
use Rattle.cox_cells.specs.declared.kind.CellKind.{CellKind}
use Rattle.cox_cells.specs.Cells.{IsStep, Precedes, IsInCell, first_of, IsCell, AreCells}
use Rattle.cox_cells.specs.NumberedCells.{IsNumberedStep, AreSteps, list_at, least_at, IsListed, AreGathered}

module _ (kind : CellKind) (e : Elements) (all : IsListOf (IsElement (integer_matrix e.matrix)) e.members) (edges : List (ℕ × ℕ))
    (steps : AreSteps kind e (length e.members) edges) where
  step-of : (i j : ℕ) → IsNumberedStep kind e i j → IsStep kind (integer_matrix e.matrix) (word_at e.members i) (word_at e.members j)
  step-of i j s = record {
    neighbour = record { element = all.sound (word_at e.members j) (contains-at e.members j s.within); joined = s.joined };
    own = s.own;
  }

  -- edges lead where chains do
  chain-of : {i j : ℕ} → Reaches (HasEdge edges) i j → Precedes kind (integer_matrix e.matrix) (word_at e.members i) (word_at e.members j)
  chain-of (Reaches.itself a) = Precedes.itself (word_at e.members a)
  chain-of (Reaches.onward a b c d r) =
      Precedes.onward (word_at e.members a) (word_at e.members b) (word_at e.members c) (step-of a b (steps.step a b d).2) (chain-of r)

  reaches-by : {x y : List ℕ} → Precedes kind (integer_matrix e.matrix) x y → (i j : ℕ) → i < length e.members → j < length e.members
      → word_at e.members i ≡ x → word_at e.members j ≡ y → Reaches (HasEdge edges) i j
  reaches-by (Precedes.itself x) i j l m p q =
      let same : i ≡ j = rising-place e.members i j all.rising l m (p ∙ sym q) in rw same (Reaches.itself j)
  reaches-by (Precedes.onward x y w s c) i j l m p q =
      go (contains-placed e.members y (all.whole y s.neighbour.element)) (λ b n r. reaches-by c b j n m r q)
    where
      go : IsPlaced e.members y → ((b : ℕ) → b < length e.members → word_at e.members b ≡ y → Reaches (HasEdge edges) b j)
          → Reaches (HasEdge edges) i j
      go b on = Reaches.onward i b.i j
          (steps.all i b.i l b.within (record { within = b.within; joined = rw (p, b.is) s.neighbour.joined; own = rw (p, b.is) s.own }))
          (on b.i b.within b.is)

  module _ (classes places : List ℕ) (lists : List (List ℕ)) (are : AreClasses (HasEdge edges) (length e.members) classes)
      (h : AreGathered classes (length e.members) places lists) where
    word-in : (k m : ℕ) → m < length (list_at lists k)
        → word_at (map (word_at e.members) (list_at lists k)) m ≡ word_at e.members (number_at (list_at lists k) m)
    word-in k m l = get_or-map (word_at e.members) (list_at lists k) m 0 [] l

    least-class : (k : ℕ) → k < length lists → slice_index classes (least_at lists k) ≡ least_at lists k
    least-class k l = (h.each k l).class 0 (h.each k l).some

    least-within : (k : ℕ) → k < length lists → least_at lists k < length e.members
    least-within k l = (h.each k l).before 0 (h.each k l).some

    -- members of one class are in one cell
    in-cell : (i j : ℕ) → i < length e.members → j < length e.members → slice_index classes i ≡ slice_index classes j
        → IsInCell kind (integer_matrix e.matrix) (word_at e.members i) (word_at e.members j)
    in-cell i j l m same =
        let r = (are i j l m).0 same
        in record { element = all.sound (word_at e.members j) (contains-at e.members j m); forth = chain-of r.0; back = chain-of r.1 }

    -- and the other way round
    same-class : (i j : ℕ) → i < length e.members → j < length e.members
        → IsInCell kind (integer_matrix e.matrix) (word_at e.members i) (word_at e.members j)
        → slice_index classes i ≡ slice_index classes j
    same-class i j l m c = (are i j l m).1 (reaches-by c.forth i j l m refl refl, reaches-by c.back j i m l refl refl)

    same-list : (j k : ℕ) → j < length lists → k < length lists → least_at lists j ≡ least_at lists k → j ≡ k
    same-list j k l m q =
        ⊎_elim (λ (s : j ≡ k). s)
        (λ side. ⊎_elim (λ (less : j < k). absurd (omega (arith, h.in_order j k less m, q)))
        (λ (more : k < j). absurd (omega (arith, h.in_order k j more l, q))) side)
        (cases_order j k)

    -- a listed number is in the words of its list
    contains-listed : (i k : ℕ) → IsListed lists i k → Contains (map (word_at e.members) (list_at lists k)) (word_at e.members i)
    contains-listed i k p = placed-contains (map (word_at e.members) (list_at lists k)) (word_at e.members i) (record {
      i = p.place;
      within = omega (arith, p.inside, length-map (list_at lists k) (word_at e.members));
      is = word-in k p.place p.inside ∙ ap (word_at e.members) p.is;
    })

    words-list : (k : ℕ) → k < length lists
        → IsListOf (IsInCell kind (integer_matrix e.matrix) (word_at e.members (least_at lists k)))
        (map (word_at e.members) (list_at lists k))
    words-list k l = record {
      rising = λ i m less b.
          let n : m < length (list_at lists k) = omega (arith, b, length-map (list_at lists k) (word_at e.members))
          in rw (word-in k i (omega (arith, less, n)), word-in k m n)
          (all.rising (number_at (list_at lists k) i) (number_at (list_at lists k) m) ((h.each k l).rising i m less n)
          ((h.each k l).before m n));
      sound = λ y c. sound y (contains-placed (map (word_at e.members) (list_at lists k)) y c);
      whole = λ y c. whole y c (contains-placed e.members y (all.whole y c.element));
    }
      where
        sound : (y : List ℕ) → IsPlaced (map (word_at e.members) (list_at lists k)) y
            → IsInCell kind (integer_matrix e.matrix) (word_at e.members (least_at lists k)) y
        sound y p =
            let n : p.i < length (list_at lists k) = omega (arith, p.within, length-map (list_at lists k) (word_at e.members))
            in rw (sym p.is ∙ word-in k p.i n) (in-cell (least_at lists k) (number_at (list_at lists k) p.i) (least-within k l)
            ((h.each k l).before p.i n) (least-class k l ∙ sym ((h.each k l).class p.i n)))

        whole : (y : List ℕ) → IsInCell kind (integer_matrix e.matrix) (word_at e.members (least_at lists k)) y → IsPlaced e.members y
            → Contains (map (word_at e.members) (list_at lists k)) y
        whole y c p =
            let r = h.whole p.i p.within in
            let d : IsInCell kind (integer_matrix e.matrix) (word_at e.members (least_at lists k)) (word_at e.members p.i) = rw p.is c in
            let own : slice_index classes p.i ≡ least_at lists (number_at places (slice_index classes p.i)) =
            ap (slice_index classes) (sym r.is) ∙ (h.each (number_at places (slice_index classes p.i)) r.within).class r.place r.inside in
            let same : number_at places (slice_index classes p.i) ≡ k =
            same-list (number_at places (slice_index classes p.i)) k r.within l
            (sym own ∙ sym (same-class (least_at lists k) p.i (least-within k l) p.within d) ∙ least-class k l)
            in rw (sym p.is, ← same) (contains-listed p.i (number_at places (slice_index classes p.i)) r)

    first-word : (k : ℕ) → k < length lists → first_of (map (word_at e.members) (list_at lists k)) ≡ word_at e.members (least_at lists k)
    first-word k l = word-in k 0 (h.each k l).some

    cell-is : (k : ℕ) → k < length lists → IsCell kind (integer_matrix e.matrix) (map (word_at e.members) (list_at lists k))
    cell-is k l = record {
      some = omega (arith, (h.each k l).some, length-map (list_at lists k) (word_at e.members));
      all = rw (first-word k l) (words-list k l);
    }

    pub cells-are : AreCells kind (integer_matrix e.matrix) (map (map (word_at e.members)) lists)
    cells-are = record {
      each = All-map (IsCell kind (integer_matrix e.matrix)) (map (word_at e.members)) lists
          (λ k d l. rw (get_or_default lists k d [] l) (cell-is k l));
      rising = λ j k less l.
          let m : k < length lists = omega (
            arith,
            l,
            length-map (map (map (word_at e.members)) lists) first_of,
            length-map lists
                (map (word_at e.members)),
          )
          in rw (first-at j (omega (arith, less, m)), first-at k m)
          (all.rising (least_at lists j) (least_at lists k) (h.in_order j k less m) (least-within k m));
      whole = λ x d. whole x (contains-placed e.members x (all.whole x d));
    }
      where
        first-at : (k : ℕ) → k < length lists → word_at (map first_of (map (map (word_at e.members)) lists)) k ≡ word_at e.members
            (least_at lists k)
        first-at k l =
            get_or-map first_of (map (map (word_at e.members)) lists) k [] [] (omega (arith, l, length-map lists (map (word_at e.members))))
            ∙ ap first_of (get_or-map (map (word_at e.members)) lists k [] [] l) ∙ first-word k l

        whole : (x : List ℕ) → IsPlaced e.members x
            → (cell : List (List ℕ)) × Contains (map (map (word_at e.members)) lists) cell × Contains cell x
        whole x p =
            let r = h.whole p.i p.within in (
              map (word_at e.members) (list_at lists (number_at places (slice_index classes p.i))),
              (
                number_at places (slice_index classes p.i),
                omega (arith, r.within, length-map lists (map (word_at e.members))),
                get_or-map (map (word_at e.members)) lists (number_at places (slice_index classes p.i)) [] _ r.within,
              ),
              rw (sym p.is) (contains-listed p.i (number_at places (slice_index classes p.i)) r),
            )
