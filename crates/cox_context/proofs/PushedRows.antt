-- A new member's row in a table of shifts, behind the others, where each of its shifts is noted at both members; and its sets of descents.
use Rattle.std.proofs.Common.{◌≡◌, ℕ, ◌+◌, ◌-◌, ◌*◌, ◌≤◌, ◌<◌, List, [], ◌∷◌, ◌++◌, length, Option, None, Some, ◌↔◌, refl, sym, ap}
use Rattle.std.proofs.Common.{◌∙◌, ⊎_elim, arith, IsBitSet}
use Rattle.std.proofs.lemmas.Bool.{cases_eq}
use Rattle.cox_lemmas.proofs.PushedItems.{push-length, push_cases, push-old, push-new}
use Rattle.cox_base.specs.Matrix.{IsLetter}
use Rattle.cox_base.specs.IntegerMatrix.{IntegerMatrix}
use Rattle.cox_base.specs.Admissible.{IsAdmissible}
use Rattle.cox_base.specs.ShortLex.{normal_form}
use Rattle.cox_base.specs.Members.{IsElement}
use Rattle.cox_reflect.proofs.Elements.{same-push, same-push_twice, same-trans}
use Rattle.cox_reflect.proofs.Search.{normal_form-same, normal_form-equal}
use Rattle.cox_reflect.proofs.Lengths.{word_length-is}
use Rattle.cox_reflect.proofs.Deletion.{right_length}
use Rattle.cox_reflect.proofs.NormalElements.{element-length}
use Rattle.cox_context.specs.Closed.{IsClosed}
use Rattle.cox_context.specs.Numbers.{word_at}
use Rattle.cox_context.specs.Numbering.{IsNumberOf}
use Rattle.cox_base.specs.Descents.{IsLeftDescent, IsRightDescent}
use Rattle.cox_context.specs.Sets.{IsLoweringSet, AreLoweringSets}
use Rattle.cox_context.specs.Contexts.{AreTables, AreTablesOfOthers}
use Rattle.cox_context.specs.Inverses.{AreKeptInverses, AreInversesOfOthers}
use Rattle.cox_context.specs.Shifts.{entry, AreLeftShifts, AreRightShifts, AreOfOthers, AreSets}
use Rattle.cox_context.specs.Rows.{IsRowPushed}
use Rattle.cox_context.proofs.PlacedWords.{placed-contains, word_at-old, word_at-new}
use Rattle.cox_context.proofs.Shifting.{element-at}
use Rattle.cox_context.proofs.OrderOfMembers.{left-set, right-set}
use Rattle.cox_context.proofs.ShiftPlaces.{place-within}
use Rattle.cox_context.proofs.RightShifts.{number-more}

module _ (A : IntegerMatrix) (g : IsAdmissible A) (words : List (List ℕ)) (y : List ℕ) (closed : IsClosed A (words ++ y ∷ [])) where
  more : length (words ++ y ∷ []) ≡ length words + 1
  more = push-length words y

  y_at : word_at (words ++ y ∷ []) (length words) ≡ y
  y_at = word_at-new words y (length words) refl

  y_element : IsElement A y
  y_element = rw y_at at (element-at A g (words ++ y ∷ []) closed (length words) (omega (arith, more)))

  old_element : (j : ℕ) → j < length words → IsElement A (word_at words j)
  old_element j l = rw (word_at-old words y j l) at (element-at A g (words ++ y ∷ []) closed j (omega (arith, l, more)))

  -- shifts that lead back, by so many letters: on the left, or on the right; or inversion alone
  module _ (rank : ℕ) (shift : ℕ → List ℕ → List ℕ)
      (back : (t : ℕ) (x : List ℕ) → IsLetter rank t → IsElement A x → shift t (shift t x) ≡ x)
      (row old new : List ℕ) (of_y : (t : ℕ) → IsLetter rank t → IsNumberOf (words ++ y ∷ []) (shift t y) (entry rank row t 0))
      (pushed : IsRowPushed rank (length words) row (rank + 1) old new)
      (before : (t j : ℕ) → IsLetter rank t → j < length words → IsNumberOf words (shift t (word_at words j)) (entry rank old t j)) where
    at_new : (t j : ℕ) → IsLetter rank t → j ≡ length words
        → IsNumberOf (words ++ y ∷ []) (shift t (word_at (words ++ y ∷ []) j)) (entry rank new t j)
    at_new t j l e = rw (e, y_at, pushed.row t l (omega (arith, l.to_rank))) (of_y t l)

    -- where t leads from an old word to y, that is noted
    noted : (t j : ℕ) (x : Option ℕ) → j < length words → shift t y ≡ word_at words j → IsNumberOf (words ++ y ∷ []) (shift t y) x
        → x ≡ Some j
    noted t j None m e none =
        absurd (none (placed-contains (words ++ y ∷ []) (shift t y) (record {
          i = j;
          within = omega (arith, m, more);
          is = word_at-old words y j m ∙ sym e;
        })))
    noted t j (Some k) m e (inside, is) =
        ap (λ (i : ℕ). Some i) (closed.distinct k j inside (omega (arith, m, more)) (is ∙ e ∙ sym (word_at-old words y j m)))

    elsewhere : (t j : ℕ) → IsLetter rank t → j < length words → (entry rank row t 0 ≡ Some j → ⊥)
        → IsNumberOf (words ++ y ∷ []) (shift t (word_at (words ++ y ∷ []) j)) (entry rank new t j)
    elsewhere t j l m ne = rw (word_at-old words y j m, pushed.kept t j l m (λ less f. ne f))
        (number-more words y (shift t (word_at words j)) (entry rank old t j) other (before t j l m))
      where
        other : y ≡ shift t (word_at words j) → ⊥
        other e =
            let leads : shift t y ≡ word_at words j = ap (λ (u : List ℕ). shift t u) e ∙ back t (word_at words j) l (old_element j m)
            in ne (noted t j (entry rank row t 0) m leads (of_y t l))

    here : (t j : ℕ) → IsLetter rank t → j < length words → entry rank row t 0 ≡ Some j
        → IsNumberOf (words ++ y ∷ []) (shift t (word_at (words ++ y ∷ []) j)) (entry rank new t j)
    here t j l m some =
        let found : IsNumberOf (words ++ y ∷ []) (shift t y) (Some j) = rw some at (of_y t l)
        in let is : word_at words j ≡ shift t y = sym (word_at-old words y j m) ∙ found.1
        in rw (word_at-old words y j m, pushed.back t j l (omega (arith, l.to_rank)) some) (
          omega (arith, more),
          y_at ∙ sym (ap (λ (u : List ℕ). shift t u) is ∙ back t y l y_element),
        )

    at_old : (t j : ℕ) (x : Option ℕ) → entry rank row t 0 ≡ x → IsLetter rank t → j < length words
        → IsNumberOf (words ++ y ∷ []) (shift t (word_at (words ++ y ∷ []) j)) (entry rank new t j)
    at_old t j None e l m = elsewhere t j l m (λ f. let q = sym e ∙ f in cc)
    at_old t j (Some k) e l m = ⊎_elim (λ (q : k ≡ j). here t j l m (e ∙ ap (λ (i : ℕ). Some i) q))
        (λ (ne : k ≡ j → ⊥). elsewhere t j l m (λ f. ne (let q = sym e ∙ f in cc))) (cases_eq k j)

    pub pushed-shift : (t j : ℕ) → IsLetter rank t → j < length (words ++ y ∷ [])
        → IsNumberOf (words ++ y ∷ []) (shift t (word_at (words ++ y ∷ []) j)) (entry rank new t j)
    pushed-shift t j l m = ⊎_elim (λ (below : j < length words). at_old t j (entry rank row t 0) refl l below)
        (λ (last : j ≡ length words). at_new t j l last) (push_cases words y j m)

  -- ---- right shifts

  right-back : (t : ℕ) (x : List ℕ) → IsLetter A.rank t → IsElement A x → normal_form A (normal_form A (x ++ t ∷ []) ++ t ∷ []) ≡ x
  right-back t x l e =
      normal_form-equal A g (same-trans A g (same-push A g t (normal_form-same A g (x ++ t ∷ []))) (same-push_twice A g x t)) ∙ e.normal

  module _ (row : List ℕ)
      (of_y : (t : ℕ) → IsLetter A.rank t → IsNumberOf (words ++ y ∷ []) (normal_form A (y ++ t ∷ [])) (entry A.rank row t 0)) where
    -- no letter leads from a word to itself
    right-before : (t k : ℕ) → IsLetter A.rank t → entry A.rank row t 0 ≡ Some k → k < length words
    right-before t k l some = ⊎_elim (λ less. less) (λ (e : k ≡ length words). absurd (off (sym (word_at-new words y k e) ∙ found.1)))
        (push_cases words y k found.0)
      where
        found : IsNumberOf (words ++ y ∷ []) (normal_form A (y ++ t ∷ [])) (Some k)
        found = rw some at (of_y t l)

        off : y ≡ normal_form A (y ++ t ∷ []) → ⊥
        off e =
            let size = word_length-is A (y ++ t ∷ []) ∙ ap length (sym e)
            in ⊎_elim (λ longer. omega (arith, longer, size, element-length A g y y_element))
            (λ shorter. omega (arith, shorter, size, element-length A g y y_element)) (right_length A g y t l)

    right-row : (old new : List ℕ) → length old ≡ length words * A.rank → AreRightShifts A words old
        → IsRowPushed A.rank (length words) row (A.rank + 1) old new → AreRightShifts A (words ++ y ∷ []) new
    right-row old new size h pushed = record {
      shift = λ t j l m k. pushed-shift A.rank (λ s x. normal_form A (x ++ s ∷ [])) right-back row old new of_y pushed
          (λ s i a b. h.shift s i a b (rw size (place-within A.rank (length words) i s a b))) t j l m;
    }

-- ---- the last member's right shifts, behind those of the others

-- the number of the last member, from the count of the members
pub last-place : (words counted : List (List ℕ)) (count : ℕ) → counted ≡ words → count ≡ length counted → 1 ≤ count
    → count - 1 + 1 ≡ length words
last-place words counted count is size some = omega (arith, ap (λ (l : List (List ℕ)). length l) is, size, some)

-- the right shifts of the last member, as they are found by its number
row-of : (A : IntegerMatrix) (words : List (List ℕ)) (y : List ℕ) (all : List (List ℕ)) (n : ℕ) (row : List ℕ) → all ≡ words ++ y ∷ []
    → n ≡ length words
    → ((s : ℕ) → IsLetter A.rank s → IsNumberOf all (normal_form A (word_at all n ++ s ∷ [])) (entry A.rank row s 0))
    → (t : ℕ) → IsLetter A.rank t → IsNumberOf (words ++ y ∷ []) (normal_form A (y ++ t ∷ [])) (entry A.rank row t 0)
row-of A words y all n row is e each t l = rw (is, word_at-new words y n e) at (each t l)

module _ (A : IntegerMatrix) (g : IsAdmissible A) (all : List (List ℕ)) (closed : IsClosed A all) (table : List ℕ)
    (h : AreOfOthers A all table)
    (i : ℕ) (last : i + 1 ≡ length all) where
  place : i ≡ length h.others
  place = let count = ap (λ (l : List (List ℕ)). length l) h.is ∙ push-length h.others h.last in omega (arith, last, count)

  pub others-size : length table ≡ i * A.rank
  others-size = rw place h.size

  module _ (row : List ℕ)
      (each : (s : ℕ) → IsLetter A.rank s → IsNumberOf all (normal_form A (word_at all i ++ s ∷ [])) (entry A.rank row s 0)) where
    of_last : (t : ℕ) → IsLetter A.rank t
        → IsNumberOf (h.others ++ h.last ∷ []) (normal_form A (h.last ++ t ∷ [])) (entry A.rank row t 0)
    of_last = row-of A h.others h.last all i row h.is place each

    pub last-before : (t k : ℕ) → IsLetter A.rank t → entry A.rank row t 0 ≡ Some k → k < i
    last-before t k l some = rw place (right-before A g h.others h.last (rw h.is at closed) row of_last t k l some)

    module _ (new : List ℕ) (pushed : IsRowPushed A.rank i row (A.rank + 1) table new) where
      pub last-size : length new ≡ length all * A.rank
      last-size = rw (← last) (omega (arith, pushed.size))

      pub last-shifts : AreRightShifts A all new
      last-shifts = rw h.is (right-row A g h.others h.last (rw h.is at closed) row of_last table new h.size h.shifts (rw place at pushed))

-- ---- sets of descents

-- one set more
pub sets-push : (P : List ℕ → ℕ → Type 0) (words : List (List ℕ)) (y : List ℕ) (sets : List ℕ) (x : ℕ) → AreSets P words sets
    → ((k : ℕ) → IsBitSet x k ↔ P y (k + 1)) → AreSets P (words ++ y ∷ []) (sets ++ x ∷ [])
sets-push P words y sets x h bit = record {
  size = omega (arith, h.size, push-length words y, push-length sets x);
  bit = λ i k l. ⊎_elim (λ (less : i < length words). rw (word_at-old words y i less, push-old sets x 0 i (omega (arith, less, h.size)))
      (h.bit i k less))
      (λ (e : i ≡ length words). rw (word_at-new words y i e, push-new sets x 0 i (omega (arith, e, h.size))) (bit k))
      (push_cases words y i l);
}

-- ---- the tables with one member more

module _ (A : IntegerMatrix) (g : IsAdmissible A) (words : List (List ℕ)) (y : List ℕ) (closed : IsClosed A (words ++ y ∷ [])) where
  tables-more : (right left_sets right_sets inverses new_left new_right new_inverses : List ℕ) (x z : ℕ)
      → AreTables A words right left_sets right_sets inverses → AreLeftShifts A (words ++ y ∷ []) new_left
      → length new_right ≡ length (words ++ y ∷ []) * A.rank → AreRightShifts A (words ++ y ∷ []) new_right
      → IsLoweringSet A.rank new_left (length words) (A.rank + 1) x → IsLoweringSet A.rank new_right (length words) (A.rank + 1) z
      → AreKeptInverses A (words ++ y ∷ []) new_inverses
      → AreTables A (words ++ y ∷ []) new_right (left_sets ++ x ∷ []) (right_sets ++ z ∷ []) new_inverses
  tables-more right left_sets right_sets inverses new_left new_right new_inverses x z h left_shifts size shifts x_is z_is kept = record {
    right_size = size;
    right_shifts = shifts;
    left_bits = sets-push (IsLeftDescent A) words y left_sets x h.left_bits
        (λ k. rw here at (left-set A g (words ++ y ∷ []) closed new_left (length words) x inside left_shifts x_is k));
    right_bits = sets-push (IsRightDescent A) words y right_sets z h.right_bits
        (λ k. rw here at (right-set A g (words ++ y ∷ []) closed new_right (length words) z inside size shifts z_is k));
    kept_inverses = kept;
  }
    where
      inside : length words < length (words ++ y ∷ [])
      inside = omega (arith, push-length words y)

      here : word_at (words ++ y ∷ []) (length words) ≡ y
      here = word_at-new words y (length words) refl

module _ (A : IntegerMatrix) (g : IsAdmissible A) (all : List (List ℕ)) (closed : IsClosed A all)
    (right left_sets right_sets inverses : List ℕ) (h : AreTablesOfOthers A all right left_sets right_sets inverses) where
  pub right-others : AreOfOthers A all right
  right-others = record {
    others = h.others;
    last = h.last;
    is = h.is;
    size = h.tables.right_size;
    shifts = h.tables.right_shifts;
  }

  pub inverses-others : AreInversesOfOthers A all inverses
  inverses-others = record { others = h.others; last = h.last; is = h.is; kept = h.tables.kept_inverses }

  pub tables-push : (new_left new_right new_inverses : List ℕ) (x z n : ℕ) → n + 1 ≡ length all → AreLeftShifts A all new_left
      → length new_right ≡ length all * A.rank → AreRightShifts A all new_right
      → IsLoweringSet A.rank new_left n (A.rank + 1) x → IsLoweringSet A.rank new_right n (A.rank + 1) z
      → AreKeptInverses A all new_inverses → AreTables A all new_right (left_sets ++ x ∷ []) (right_sets ++ z ∷ []) new_inverses
  tables-push new_left new_right new_inverses x z n last left_shifts size shifts x_is z_is kept =
      let count = ap (λ (l : List (List ℕ)). length l) h.is ∙ push-length h.others h.last
      in let place : n ≡ length h.others = omega (arith, last, count)
      in rw h.is (tables-more A g h.others h.last (rw h.is at closed) right left_sets right_sets inverses new_left new_right new_inverses
      x z h.tables (rw h.is at left_shifts) (rw h.is at size) (rw h.is at shifts)
      (rw place at x_is) (rw place at z_is) (rw h.is at kept))

-- one lowering set more
pub lowering-push : (rank : ℕ) (table : List ℕ) (i : ℕ) (sets : List ℕ) (x : ℕ) → AreLoweringSets rank table i sets
    → IsLoweringSet rank table i (rank + 1) x → AreLoweringSets rank table (i + 1) (sets ++ x ∷ [])
lowering-push rank table i sets x h is = record {
  size = omega (arith, h.size, push-length sets x);
  each = λ k l. ⊎_elim (λ (less : k < length sets). rw (push-old sets x 0 k less) (h.each k (omega (arith, less, h.size))))
      (λ (e : k ≡ length sets). let f : k ≡ i = omega (arith, e, h.size) in rw (push-new sets x 0 k e, f) is)
      (push_cases sets x k (omega (arith, l, h.size, push-length sets x)));
}
