-- The shorter elements of a new member, letter by letter, and the row that they make.
use Rattle.std.proofs.Common.{◌≡◌, ℕ, ◌+◌, ◌-◌, ◌*◌, ◌≤◌, ◌<◌, List, [], ◌∷◌, ◌++◌, length, set, Contains, Option, None, Some}
use Rattle.std.proofs.Common.{refl, ap, sym, ◌∙◌, ⊎_elim, arith, get_or, length-append}
use Rattle.std.proofs.lemmas.Bool.{cases_lt, cases_eq}
use Rattle.std.proofs.lemmas.List.{length-set, length-replicate, get_or-replicate}
use Rattle.std.proofs.Math.ListN.{replicate}
use Rattle.cox_lemmas.proofs.PushedItems.{push-length, push_cases}
use Rattle.cox_base.specs.Matrix.{IsLetter}
use Rattle.cox_base.specs.IntegerMatrix.{IntegerMatrix}
use Rattle.cox_base.specs.Admissible.{IsAdmissible}
use Rattle.cox_base.specs.ShortLex.{normal_form}
use Rattle.cox_base.specs.Descents.{IsLeftDescent}
use Rattle.cox_base.specs.Bruhat.{IsBelow}
use Rattle.cox_context.specs.declared.shifts.TheConstants.{NO_MEMBER}
use Rattle.cox_context.specs.Closed.{IsClosed}
use Rattle.cox_context.specs.Numbers.{word_at}
use Rattle.cox_context.specs.Numbering.{IsNumberOf}
use Rattle.cox_context.specs.Shifts.{entry, entry_number, AreLeftShifts, IsLower}
use Rattle.cox_context.specs.Rows.{IsRowPushed}
use Rattle.cox_context.specs.Growth.{AreLower}
use Rattle.cox_base.specs.Members.{IsElement}
use Rattle.cox_context.proofs.PlacedWords.{contains-placed, placed-contains, word_at-old, word_at-new}
use Rattle.cox_context.proofs.Shifting.{element-at}
use Rattle.cox_reflect.proofs.Elements.{same-refl, same-sym, same-trans, same-equal, same-cons, same-square}
use Rattle.cox_reflect.proofs.Search.{normal_form-same, normal_form-equal, word_length-length}
use Rattle.cox_reflect.proofs.Lengths.{word_length-is}
use Rattle.cox_reflect.proofs.Deletion.{left_length}
use Rattle.cox_reflect.proofs.Bruhat.{below-same, below-ascent}
use Rattle.cox_reflect.proofs.NormalElements.{element-length}
use Rattle.cox_context.proofs.ShiftPlaces.{place-within, entry-is, entry-set_same, entry-set_other, entry-old, entry-new, entry_number-some}
use Rattle.cox_context.proofs.ShiftPlaces.{entry_number-none}

-- what holds of the entries of the letters before t, the later ones being empty
pub record AreEntriesBefore (rank : ℕ) (Q : ℕ → Option ℕ → Type 0) (t : ℕ) (row : List ℕ) : Type 0 where
  pub size : rank ≤ length row
  pub each : (q : ℕ) → IsLetter rank q → q < t → Q q (entry rank row q 0)
  pub empty : (q : ℕ) → IsLetter rank q → t ≤ q → entry rank row q 0 ≡ None

module _ (rank : ℕ) (Q : ℕ → Option ℕ → Type 0) where
  -- the place of a letter in a row alone
  row-within : (q : ℕ) (row : List ℕ) → IsLetter rank q → rank ≤ length row → 0 * rank + (q - 1) < length row
  row-within q row l size = omega (arith, l.from_one, l.to_rank, size)

  pub entries-start : (n : ℕ) → rank ≤ n → AreEntriesBefore rank Q 1 (replicate n NO_MEMBER)
  entries-start n l = record {
    size = omega (arith, l, length-replicate {A = ℕ} n NO_MEMBER);
    each = λ q k less. absurd (omega (arith, k.from_one, less));
    empty = λ q k more. sym (entry-is rank (replicate n NO_MEMBER) q 0)
        ∙ entry_number-none _ (get_or-replicate n (0 * rank + (q - 1)) NO_MEMBER 0 (omega (arith, k.from_one, k.to_rank, l)));
  }

  -- a letter without an entry
  pub entries-skip : (t n : ℕ) (row : List ℕ) → n ≡ t + 1 → AreEntriesBefore rank Q t row → Q t None → AreEntriesBefore rank Q n row
  entries-skip t n row e h none = record {
    size = h.size;
    each = λ q l less. ⊎_elim (λ (below : q < t). h.each q l below)
        (λ (above : t ≤ q). let same : q ≡ t = omega (arith, less, e, above) in rw (h.empty q l above, same) none) (cases_lt q t);
    empty = λ q l more. h.empty q l (omega (arith, more, e));
  }

  -- a letter whose entry is written
  pub entries-set : (t n k : ℕ) (row : List ℕ) → n ≡ t + 1 → IsLetter rank t → AreEntriesBefore rank Q t row → k < NO_MEMBER
      → Q t (Some k) → AreEntriesBefore rank Q n (set row (t - 1) k)
  entries-set t n k row e lt h small some = rw (← place) (record {
    size = omega (arith, h.size, length-set row (0 * rank + (t - 1)) k);
    each = λ q l less. ⊎_elim (λ (same : q ≡ t). rw (same, here) some)
        (λ (ne : q ≡ t → ⊥). rw (other q l ne) (h.each q l (omega (arith, less, e, ne)))) (cases_eq q t);
    empty = λ q l more. let ne : q ≡ t → ⊥ = (λ same. omega (arith, same, more, e)) in other q l ne ∙ h.empty q l (omega (arith, more, e));
  })
    where
      place : 0 * rank + (t - 1) ≡ t - 1
      place = omega arith

      here : entry rank (set row (0 * rank + (t - 1)) k) t 0 ≡ Some k
      here = entry-set_same rank row t 0 k (row-within t row lt h.size) ∙ entry_number-some k small

      other : (q : ℕ) → IsLetter rank q → (q ≡ t → ⊥) → entry rank (set row (0 * rank + (t - 1)) k) q 0 ≡ entry rank row q 0
      other q l ne = entry-set_other rank row t 0 q 0 k lt l (λ both. ne both.0)

pub lower-end : (A : IntegerMatrix) (words : List (List ℕ)) (y : List ℕ) (t : ℕ) (lower : List ℕ) → A.rank < t
    → AreEntriesBefore A.rank (λ q x. IsLower A words y q x) t lower → AreLower A words y lower
lower-end A words y t lower all h = record { size = h.size; each = λ q l. h.each q l (omega (arith, l.to_rank, all)) }

-- the entry of a row alone, as a number
pub row-entry : (rank : ℕ) (lower : List ℕ) (t : ℕ) → entry_number (get_or lower (t - 1) 0) ≡ entry rank lower t 0
row-entry rank lower t = let e : 0 * rank + (t - 1) ≡ t - 1 = omega arith in rw e at (entry-is rank lower t 0)

-- ---- the row of the member n, letter by letter

pub row-start : (rank n : ℕ) (lower old : List ℕ) → length old ≡ n * rank → IsRowPushed rank n lower 1 old old
row-start rank n lower old e = record {
  size = omega (arith, e);
  row = λ t l less. absurd (omega (arith, l.from_one, less));
  back = λ t k l less f. absurd (omega (arith, l.from_one, less));
  kept = λ t j l m ne. refl;
}

module _ (rank n : ℕ) (lower old table : List ℕ) (t next : ℕ) (q : next ≡ t + 1) (lt : IsLetter rank t)
    (h : IsRowPushed rank n lower t old table) (x : ℕ) (is : entry_number x ≡ entry rank lower t 0)
    (inside : (r k : ℕ) → IsLetter rank r → entry rank lower r 0 ≡ Some k → k ≤ n) where
  -- the entry of the next letter comes last
  here : n * rank + (t - 1) ≡ length table
  here = sym h.size

  before : (r j : ℕ) → IsLetter rank r → j < n → j * rank + (r - 1) < length table
  before r j l m = omega (arith, here, place-within rank n j r l m)

  in_row : (r : ℕ) → IsLetter rank r → r < t → n * rank + (r - 1) < length table
  in_row r l less = omega (arith, here, l.from_one, less)

  -- what an earlier letter leads to, a member or the new one itself
  noted_at : (r k : ℕ) → IsLetter rank r → r < t → k ≤ n → k * rank + (r - 1) < length table
  noted_at r k l less m = ⊎_elim (λ (old : k < n). before r k l old)
      (λ (last : n ≤ k). let e : k ≡ n = omega (arith, last, m) in rw e (in_row r l less)) (cases_lt k n)

  row : (r : ℕ) → IsLetter rank r → r < next → entry rank (table ++ x ∷ []) r n ≡ entry rank lower r 0
  row r l less =
      ⊎_elim (λ (below : r < t). entry-old rank table r n x (in_row r l below) ∙ h.row r l below)
      (λ (above : t ≤ r). let e : r ≡ t = omega (arith, above, less, q) in rw e (entry-new rank table t n x here ∙ is)) (cases_lt r t)

  back : (r k : ℕ) → IsLetter rank r → r < t → entry rank lower r 0 ≡ Some k → entry rank (table ++ x ∷ []) r k ≡ Some n
  back r k l below f = entry-old rank table r k x (noted_at r k l below (inside r k l f)) ∙ h.back r k l below f

  kept : (r j : ℕ) → IsLetter rank r → j < n → (r < next → entry rank lower r 0 ≡ Some j → ⊥)
      → entry rank (table ++ x ∷ []) r j ≡ entry rank old r j
  kept r j l m ne = entry-old rank table r j x (before r j l m) ∙ h.kept r j l m (λ less f. ne (omega (arith, less, q)) f)

  size : length (table ++ x ∷ []) ≡ n * rank + (next - 1)
  size = omega (arith, length-append table (x ∷ []), h.size, q, lt.from_one)

  -- the letter has no shorter element
  pub row-push : entry rank lower t 0 ≡ None → IsRowPushed rank n lower next old (table ++ x ∷ [])
  row-push none = record {
    size = size;
    row = row;
    back = λ r k l less f. ⊎_elim (λ (below : r < t). back r k l below f)
        (λ (above : t ≤ r). absurd (none_here r k f (omega (arith, above, less, q)))) (cases_lt r t);
    kept = kept;
  }
    where
      none_here : (r k : ℕ) → entry rank lower r 0 ≡ Some k → r ≡ t → ⊥
      none_here r k f e = let g = sym none ∙ (rw e at f) in absurd (cc)

  -- it has one, which is the member k: there the number n is written
  pub row-link : (k : ℕ) → entry rank lower t 0 ≡ Some k → n < NO_MEMBER
      → IsRowPushed rank n lower next old (set (table ++ x ∷ []) (k * rank + (t - 1)) n)
  row-link k some small = record {
    size = omega (arith, size, length-set (table ++ x ∷ []) (k * rank + (t - 1)) n);
    row = λ r l less. ⊎_elim (λ (e : r ≡ t). ⊎_elim (λ (f : k ≡ n). rw e (own f))
        (λ (ne : k ≡ n → ⊥). other r n l (λ both. ne (sym both.1)) ∙ row r l less) (cases_eq k n))
        (λ (ne : r ≡ t → ⊥). other r n l (λ both. ne both.0) ∙ row r l less) (cases_eq r t);
    back = λ r j l less f. ⊎_elim (λ (below : r < t). other r j l (λ both. omega (arith, both.0, below)) ∙ back r j l below f)
        (λ (above : t ≤ r). last r j f (omega (arith, above, less, q))) (cases_lt r t);
    kept = λ r j l m ne. other r j l (λ both. ne (omega (arith, both.0, q)) (rw (both.0, both.1) some)) ∙ kept r j l m ne;
  }
    where
      there : k * rank + (t - 1) < length (table ++ x ∷ [])
      there = ⊎_elim (λ (old : k < n). omega (arith, before t k lt old, length-append table (x ∷ [])))
          (λ (above : n ≤ k). let e : k ≡ n = omega (arith, above, inside t k lt some) in rw e
          (omega (arith, here, length-append table (x ∷ []))))
          (cases_lt k n)

      other : (r j : ℕ) → IsLetter rank r → ((r ≡ t) × (j ≡ k) → ⊥)
          → entry rank (set (table ++ x ∷ []) (k * rank + (t - 1)) n) r j ≡ entry rank (table ++ x ∷ []) r j
      other r j l ne = entry-set_other rank (table ++ x ∷ []) t k r j n lt l ne

      last : (r j : ℕ) → entry rank lower r 0 ≡ Some j → r ≡ t
          → entry rank (set (table ++ x ∷ []) (k * rank + (t - 1)) n) r j ≡ Some n
      last r j f e =
          let two : Some k ≡ Some j = sym some ∙ (rw e at f)
          in let same : j ≡ k = cc
          in rw (e, same) (entry-set_same rank (table ++ x ∷ []) t k n there ∙ entry_number-some n small)

      -- the member itself
      own : k ≡ n → entry rank (set (table ++ x ∷ []) (k * rank + (t - 1)) n) t n ≡ entry rank lower t 0
      own f =
          let itself : entry rank lower t 0 ≡ Some n = some ∙ ap (λ (i : ℕ). Some i) f
          in last t n itself refl ∙ sym itself

-- ---- with the row the table has the shifts of one member more

module _ (A : IntegerMatrix) (g : IsAdmissible A) (words : List (List ℕ)) (y : List ℕ) (closed : IsClosed A (words ++ y ∷ [])) where
  y_at : word_at (words ++ y ∷ []) (length words) ≡ y
  y_at = word_at-new words y (length words) refl

  more : length (words ++ y ∷ []) ≡ length words + 1
  more = push-length words y

  y_element : IsElement A y
  y_element = rw y_at at (element-at A g (words ++ y ∷ []) closed (length words) (omega (arith, more)))

  -- the last word is below no other one
  below-none : (j : ℕ) → j < length words → IsBelow A y (word_at words j) → ⊥
  below-none j l b =
      let up = closed.upward (length words) j (omega (arith, more)) (omega (arith, l, more)) (rw (y_at, word_at-old words y j l) b)
      in omega (arith, l, up)

  old_element : (j : ℕ) → j < length words → IsElement A (word_at words j)
  old_element j l = let h = element-at A g (words ++ y ∷ []) closed j (omega (arith, l, more)) in rw (word_at-old words y j l) at h

  old_place : (k j : ℕ) → k < length words → j < length words → word_at words k ≡ word_at words j → k ≡ j
  old_place k j l m e =
      closed.distinct k j (omega (arith, l, more)) (omega (arith, m, more))
      (word_at-old words y k l ∙ e ∙ sym (word_at-old words y j m))

  -- a letter that leads from y to a word of the list shortens y
  leads_down : (t j : ℕ) → IsLetter A.rank t → j < length words → normal_form A (t ∷ y) ≡ word_at words j → IsLeftDescent A y t
  leads_down t j l m e =
      ⊎_elim (λ longer. absurd (below-none j m (below-same A g (same-refl A g y)
      (same-trans A g (same-sym A g (normal_form-same A g (t ∷ y))) (same-equal A g e))
      (below-ascent A g y t l (omega (arith, longer))))))
      (λ shorter. omega (arith, shorter))
      (left_length A g t y l)

  -- and none leads from it to itself
  leads_off : (t : ℕ) → IsLetter A.rank t → normal_form A (t ∷ y) ≡ y → ⊥
  leads_off t l e =
      let size = word_length-is A (t ∷ y) ∙ ap length e
      in ⊎_elim (λ longer. omega (arith, longer, size, element-length A g y y_element))
      (λ shorter. omega (arith, shorter, size, element-length A g y y_element)) (left_length A g t y l)

  module _ (lower old new : List ℕ) (h : AreLeftShifts A words old) (numbers : AreLower A words y lower)
      (pushed : IsRowPushed A.rank (length words) lower (A.rank + 1) old new) where
    from_lower : (t : ℕ) (x : Option ℕ) → IsLetter A.rank t → IsLower A words y t x → IsNumberOf (words ++ y ∷ []) (normal_form A (t ∷ y)) x
    from_lower t None l none = λ c.
        let p = contains-placed (words ++ y ∷ []) (normal_form A (t ∷ y)) c
        in ⊎_elim (λ (below : p.i < length words). none (leads_down t p.i l below (sym p.is ∙ word_at-old words y p.i below)))
        (λ (last : p.i ≡ length words). leads_off t l (sym p.is ∙ word_at-new words y p.i last)) (push_cases words y p.i p.within)
    from_lower t (Some k) l (d, inside, is) = (omega (arith, inside, more), word_at-old words y k inside ∙ is)

    at_new : (t j : ℕ) → IsLetter A.rank t → j ≡ length words
        → IsNumberOf (words ++ y ∷ []) (normal_form A (t ∷ word_at (words ++ y ∷ []) j)) (entry A.rank new t j)
    at_new t j l e = rw (e, y_at, pushed.row t l (omega (arith, l.to_rank))) (from_lower t (entry A.rank lower t 0) l (numbers.each t l))

    -- where t leads from an old word to y, t leads from y to it
    back_from : (t j : ℕ) → IsLetter A.rank t → j < length words → normal_form A (t ∷ word_at words j) ≡ y
        → normal_form A (t ∷ y) ≡ word_at words j
    back_from t j l m e =
        normal_form-equal A g (same-trans A g (same-cons A g t (same-trans A g (same-equal A g (sym e)) (normal_form-same A g
        (t ∷ word_at words j))))
        (same-square A g t (word_at words j))) ∙ (old_element j m).normal

    noted : (t j : ℕ) (x : Option ℕ) → IsLetter A.rank t → j < length words → normal_form A (t ∷ word_at words j) ≡ y
        → IsLower A words y t x
        → x ≡ Some j
    noted t j None l m e none =
        absurd (none (leads_down t j l m (back_from t j l m e)))
    noted t j (Some k) l m e (d, inside, is) = ap (λ (i : ℕ). Some i) (old_place k j inside m (is ∙ back_from t j l m e))

    from_old : (t j : ℕ) (x : Option ℕ) → IsLetter A.rank t → j < length words → (entry A.rank lower t 0 ≡ Some j → ⊥)
        → IsNumberOf words (normal_form A (t ∷ word_at words j)) x → IsNumberOf (words ++ y ∷ []) (normal_form A (t ∷ word_at words j)) x
    from_old t j (Some k) l m ne (inside, is) = (omega (arith, inside, more), word_at-old words y k inside ∙ is)
    from_old t j None l m ne none = λ c.
        let p = contains-placed (words ++ y ∷ []) (normal_form A (t ∷ word_at words j)) c
        in ⊎_elim
        (λ (below : p.i < length words). none (placed-contains words (normal_form A (t ∷ word_at words j))
        (record { i = p.i; within = below; is = sym (word_at-old words y p.i below) ∙ p.is })))
        (λ (last : p.i ≡ length words). ne (noted t j (entry A.rank lower t 0) l m
        (sym p.is ∙ word_at-new words y p.i last) (numbers.each t l))) (push_cases words y p.i p.within)

    at_old : (t j : ℕ) (x : Option ℕ) → entry A.rank lower t 0 ≡ x → IsLetter A.rank t → j < length words
        → IsNumberOf (words ++ y ∷ []) (normal_form A (t ∷ word_at (words ++ y ∷ []) j)) (entry A.rank new t j)
    at_old t j None e l m =
        let ne : entry A.rank lower t 0 ≡ Some j → ⊥ = λ f. (let q = sym e ∙ f in cc)
        in rw (word_at-old words y j m, pushed.kept t j l m (λ less f. ne f)) (from_old t j (entry A.rank old t j) l m ne (h.shift t j l m))
    at_old t j (Some k) e l m = ⊎_elim here (λ ne. elsewhere ne) (cases_eq k j)
      where
        elsewhere : (k ≡ j → ⊥) → IsNumberOf (words ++ y ∷ []) (normal_form A (t ∷ word_at (words ++ y ∷ []) j)) (entry A.rank new t j)
        elsewhere ne =
            let no : entry A.rank lower t 0 ≡ Some j → ⊥ = λ f. ne (let q = sym e ∙ f in cc)
            in rw (word_at-old words y j m, pushed.kept t j l m (λ less f. no f)) (from_old t j (entry A.rank old t j) l m no
            (h.shift t j l m))

        here : k ≡ j → IsNumberOf (words ++ y ∷ []) (normal_form A (t ∷ word_at (words ++ y ∷ []) j)) (entry A.rank new t j)
        here q =
            let some : entry A.rank lower t 0 ≡ Some j = e ∙ ap (λ (i : ℕ). Some i) q
            in let d : IsLower A words y t (Some j) = rw some at (numbers.each t l)
            in rw (word_at-old words y j m, pushed.back t j l (omega (arith, l.to_rank)) some) (
              omega (arith, more),
              y_at ∙ sym y_element.normal ∙ normal_form-equal A g
                  (same-sym A g (same-trans A g (same-cons A g t (same-trans A g (same-equal A g d.2) (normal_form-same A g (t ∷ y))))
                  (same-square A g t y))),
            )

    pub shifts-push : AreLeftShifts A (words ++ y ∷ []) new
    shifts-push = record {
      size = rw more (omega (arith, pushed.size));
      shift = λ t j l m. ⊎_elim (λ (below : j < length words). at_old t j (entry A.rank lower t 0) refl l below)
          (λ (above : length words ≤ j). at_new t j l (omega (arith, above, m, more))) (cases_lt j (length words));
    }

-- ---- the identity alone

pub shifts-start : (A : IntegerMatrix) → IsAdmissible A → AreLeftShifts A ([] ∷ []) (replicate A.rank NO_MEMBER)
shifts-start A g = record {
  size = omega (arith, length-replicate {A = ℕ} A.rank NO_MEMBER);
  shift = λ s i l m. let e : i ≡ 0 = omega (arith, m) in rw (e, none s l) (λ c. absent s l c);
}
  where
    none : (s : ℕ) → IsLetter A.rank s → entry A.rank (replicate A.rank NO_MEMBER) s 0 ≡ None
    none s l = sym (entry-is A.rank (replicate A.rank NO_MEMBER) s 0)
        ∙ entry_number-none _ (get_or-replicate A.rank (0 * A.rank + (s - 1)) NO_MEMBER 0 (omega (arith, l.from_one, l.to_rank)))

    absent : (s : ℕ) → IsLetter A.rank s → Contains ([] ∷ []) (normal_form A (s ∷ [])) → ⊥
    absent s l c =
        let p = contains-placed ([] ∷ []) (normal_form A (s ∷ [])) c
        in let first : p.i ≡ 0 = omega (arith, p.within)
        in let is : [] ≡ normal_form A (s ∷ []) = rw first at p.is
        in ⊎_elim (λ longer. omega (arith, longer, word_length-is A (s ∷ []), ap length is))
        (λ shorter. omega (arith, shorter, word_length-length A g [])) (left_length A g s [] l)
