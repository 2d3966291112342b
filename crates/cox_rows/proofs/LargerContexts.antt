-- Rows and settled members in a larger context; and a context that has w already is its union with the interval of w.
use Rattle.std.proofs.Common.{◌≡◌, inr, ⊎_elim, ℕ, ◌<◌, List, length, Option, None, Some, ◌↔◌, ◌∙◌, ℤ, arith}
use Rattle.std.specs.Prelude.{Contains, IfSome}
use Rattle.cox_base.specs.IntegerMatrix.{IntegerMatrix, integer_matrix}
use Rattle.cox_base.specs.Admissible.{IsAdmissible}
use Rattle.cox_base.specs.Bruhat.{IsBelow}
use Rattle.cox_base.specs.ShortLex.{normal_form}
use Rattle.cox_reflect.proofs.Elements.{same-refl, same-sym}
use Rattle.cox_reflect.proofs.Search.{normal_form-same}
use Rattle.cox_reflect.proofs.Bruhat.{below-same}
use Rattle.cox_hecke.specs.Needs.{IsNeeded}
use Rattle.cox_context.specs.Closed.{IsClosed, Elements}
use Rattle.cox_context.specs.Union.{IsInUnion}
use Rattle.cox_context.specs.Spread.{AreKept}
use Rattle.cox_context.specs.Numbers.{word_at}
use Rattle.cox_context.specs.Numbering.{IsNumberOf}
use Rattle.cox_context.proofs.PlacedWords.{contains-at, contains-placed}
use Rattle.cox_context.proofs.Shifting.{member-below, element-at}
use Rattle.cox_row.specs.declared.row.Row.{Row}
use Rattle.cox_row.specs.RowLists.{row_at}
use Rattle.cox_row.proofs.GrownRows.{row-grown}
use Rattle.cox_rows.specs.Holding.{Holding, HasRow, IsHeldRow, AreRows}
use Rattle.cox_rows.specs.Ensured.{HoldsNeed, IsSettled}
use Rattle.cox_rows.proofs.NeedCases.{needed-below}

-- ---- rows

module _ (old new : Elements) (g : IsAdmissible (integer_matrix old.matrix)) (from : IsClosed (integer_matrix old.matrix) old.members)
    (to : IsClosed (integer_matrix old.matrix) new.members) (same : new.matrix ≡ old.matrix) (are : AreKept old.members new.members) where
  held-kept : (limit : ℤ) (i : ℕ) (row : Row) → IsHeldRow old limit i row → IsHeldRow new limit i row
  held-kept limit i row h = record {
    member = omega (arith, h.member, are.size);
    is = rw (same, are.word i h.member) (row-grown (integer_matrix old.matrix) g old.members new.members from to are
        (word_at old.members i) (contains-at old.members i h.member) row h.is);
    within = h.within;
  }

  some-kept : (limit : ℤ) (i : ℕ) (row : Option Row) → IfSome row (IsHeldRow old limit i) → IfSome row (IsHeldRow new limit i)
  some-kept limit i None h = h
  some-kept limit i (Some row) h = held-kept limit i row h

  pub rows-kept : (limit : ℤ) (rows : List (Option Row)) → AreRows old limit rows → AreRows new limit rows
  rows-kept limit rows h = record { least = h.least; each = λ i. some-kept limit i (row_at rows i) (h.each i) }

-- ---- settled members

module _ (old new : Holding) (g : IsAdmissible (integer_matrix old.elements.matrix))
    (from : IsClosed (integer_matrix old.elements.matrix) old.elements.members)
    (to : IsClosed (integer_matrix old.elements.matrix) new.elements.members) (same : new.elements.matrix ≡ old.elements.matrix)
    (limit : new.limit ≡ old.limit) (are : AreKept old.elements.members new.elements.members) (holds : new.holds ≡ old.holds) where
  -- what an old member needs is old
  need-kept : (i : ℕ) → i < length old.elements.members → HoldsNeed old (word_at old.elements.members i)
      → HoldsNeed new (word_at old.elements.members i)
  need-kept i within was j l n =
      let A = integer_matrix old.elements.matrix
      in let needed : IsNeeded A (word_at old.elements.members i) (word_at new.elements.members j) = rw same at n
      in let p = contains-placed old.elements.members (normal_form A (word_at new.elements.members j))
      (member-below A g old.elements.members from (word_at new.elements.members j) i within
      (needed-below A g (word_at old.elements.members i) (word_at new.elements.members j) needed))
      in let word : word_at old.elements.members p.i ≡ word_at new.elements.members j
      = p.is ∙ (element-at A g new.elements.members to j l).normal
      in let place : p.i ≡ j = to.distinct p.i j (omega (arith, p.within, are.size)) l (are.word p.i p.within ∙ word)
      in let found : HasRow old p.i = was p.i p.within (rw word needed)
      in rw (holds, ← place) found

  pub settled-kept : (i : ℕ) → IsSettled old i → IsSettled new i
  settled-kept i was = record {
    member = omega (arith, was.member, are.size);
    small = rw (same, are.word i was.member, limit) was.small;
    held = rw (are.word i was.member) (need-kept i was.member was.held);
  }

-- ---- nothing new

module _ (A : IntegerMatrix) (g : IsAdmissible A) (members : List (List ℕ)) (closed : IsClosed A members) (w : List ℕ) where
  pub union-nothing_new : (i : ℕ) → IsNumberOf members (normal_form A w) (Some i) → (word : List ℕ)
      → Contains members word ↔ IsInUnion A w members word
  union-nothing_new i is word = (
    λ c. record { element = closed.element word c; either = inr c },
    λ p. ⊎_elim
        (λ (below : IsBelow A word w). closed.down word (normal_form A w) (rw is.1 at (contains-at members i is.0)) p.element
        (below-same A g (same-refl A g word) (same-sym A g (normal_form-same A g w)) below))
        (λ (old : Contains members word). old) p.either,
  )
