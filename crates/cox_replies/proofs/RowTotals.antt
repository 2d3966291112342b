-- The totals of a row, member by member.
use Rattle.std.proofs.Common.{◌≡◌, ℕ, ◌+◌, ◌≤◌, ◌<◌, Bool, true, false, List, [], ◌∷◌, ◌++◌, length, filter, take}
use Rattle.std.proofs.Common.{refl, sym, ap, ◌∙◌, ⊎_elim, arith, ℤ, pos}
use Rattle.std.proofs.Math.IntN.{+ℤ_idl, +ℤ_idr, +ℤ_assoc}
use Rattle.std.proofs.lemmas.Bool.{cases_lt, false_from_ne_true}
use Rattle.std.proofs.lemmas.Int.{ints}
use Rattle.std.proofs.lemmas.List.{append-nil}
use Rattle.std.proofs.lemmas.List.Elements.{filter_more}
use Rattle.cox_base.specs.IntegerMatrix.{IntegerMatrix}
use Rattle.cox_base.specs.Admissible.{IsAdmissible}
use Rattle.cox_base.specs.ShortLex.{normal_form}
use Rattle.cox_base.specs.Length.{word_length}
use Rattle.cox_base.specs.Bruhat.{IsBelow}
use Rattle.cox_reflect.proofs.Elements.{same-sym}
use Rattle.cox_reflect.proofs.Search.{normal_form-same}
use Rattle.cox_poly.specs.Coefficients.{Coefficients}
use Rattle.cox_poly.specs.Polynomial.{coefficient, HasDegreeBelow}
use Rattle.cox_hecke.specs.Family.{Family}
use Rattle.cox_hecke.specs.Row.{IsRow, IsKazhdanLusztig}
use Rattle.cox_hecke.proofs.OneRow.{row-long, row-same}
use Rattle.cox_hecke.proofs.AllRows.{row_of-value, kazhdan_lusztig-value}
use Rattle.cox_context.specs.Closed.{IsClosed}
use Rattle.cox_context.specs.Numbers.{word_at}
use Rattle.cox_context.proofs.IntervalLists.{is_below, is_below-tells, interval-exists}
use Rattle.cox_replies.specs.RowReply.{coefficients_to}
use Rattle.cox_replies.proofs.RowMembers.{first-same}
use Rattle.cox_replies.proofs.SumsInAnyOrder.{total}
use Rattle.cox_replies.specs.Totals.{Totals, no_totals, both_totals, polynomial_totals, row_totals, AreTotalsOf}

-- ---- adding up totals

pub same_totals : (a b : Totals) → a.entries ≡ b.entries → a.degree ≡ b.degree → a.sum ≡ b.sum → a ≡ b
same_totals a b e d s = λ i. record { entries = e i; degree = d i; sum = s i }

pub both-none_left : (t : Totals) → both_totals no_totals t ≡ t
both-none_left t = same_totals (both_totals no_totals t) t (omega arith) (omega arith) (+ℤ_idl t.sum)

pub both-none_right : (t : Totals) → both_totals t no_totals ≡ t
both-none_right t = same_totals (both_totals t no_totals) t (omega arith) (omega arith) (+ℤ_idr t.sum)

pub both-assoc : (a b c : Totals) → both_totals (both_totals a b) c ≡ both_totals a (both_totals b c)
both-assoc a b c = same_totals (both_totals (both_totals a b) c) (both_totals a (both_totals b c)) (omega arith) (omega arith)
    (+ℤ_assoc a.sum b.sum c.sum)

-- two that are added may trade places
pub both-trade : (a b c : Totals) → both_totals a (both_totals b c) ≡ both_totals b (both_totals a c)
both-trade a b c = same_totals (both_totals a (both_totals b c)) (both_totals b (both_totals a c)) (omega arith) (omega arith)
    (omega (arith, ints))

-- ---- member by member

module _ (A : IntegerMatrix) (w : List ℕ) (p : Family) where
  -- of one element
  abbrev pub totals_at : List ℕ → Totals
  totals_at x = polynomial_totals (coefficients_to (word_length A w) (p x))

  row_totals-total : (xs : List (List ℕ)) → row_totals A w p xs ≡ total both_totals no_totals totals_at xs
  row_totals-total [] = refl
  row_totals-total (x ∷ xs) = ap (both_totals (totals_at x)) (row_totals-total xs)

  row_totals-push : (xs : List (List ℕ)) (x : List ℕ) → row_totals A w p (xs ++ x ∷ []) ≡ both_totals (row_totals A w p xs) (totals_at x)
  row_totals-push [] x = both-none_right (totals_at x) ∙ sym (both-none_left (totals_at x))
  row_totals-push (y ∷ xs) x =
      ap (both_totals (totals_at y)) (row_totals-push xs x) ∙ sym (both-assoc (totals_at y) (row_totals A w p xs) (totals_at x))

  module _ (test : List ℕ → Bool) (members : List (List ℕ)) where
    -- of the first members that pass
    abbrev pub first_totals : ℕ → Totals
    first_totals k = row_totals A w p (filter test (take k members))

    pub first_totals-more : (k : ℕ) → k < length members → test (word_at members k) ≡ true
        → first_totals (k + 1) ≡ both_totals (first_totals k) (totals_at (word_at members k))
    first_totals-more k below passes =
        rw (filter_more test members k [] below, passes) (row_totals-push (filter test (take k members)) (word_at members k))

    pub first_totals-same : (k : ℕ) → k < length members → test (word_at members k) ≡ false → first_totals (k + 1) ≡ first_totals k
    first_totals-same k below fails = rw (filter_more test members k [] below, fails, append-nil) refl

module _ (A : IntegerMatrix) (g : IsAdmissible A) where
  -- the row of w has no coefficient beyond degree l(w)
  row-low : (w : List ℕ) (p : Family) → IsRow A w p → (x : List ℕ) (k : ℕ) → word_length A w < k → p x k ≡ pos 0
  row-low w p row x k above = ⊎_elim
      (λ (l : word_length A x < word_length A w). row.degree x k l (omega (arith, above)))
      (λ (l : word_length A w ≤ word_length A x). row-long A g w p row x l k (omega (arith, above)))
      (cases_lt (word_length A x) (word_length A w))

  -- any row of w has this polynomial at x
  kazhdan_lusztig-row : (v w x : List ℕ) (p : Family) (list : List ℤ) → v ≡ normal_form A w → IsRow A w p
      → IsKazhdanLusztig A x v (coefficient list) → coefficient list ≡ p x
  kazhdan_lusztig-row v w x p list is row c =
      kazhdan_lusztig-value A g x v (coefficient list) c
      ∙ row_of-value A g v p (row-same A g w v p (rw is (same-sym A g (normal_form-same A g w))) row) x

  -- so its totals are those of that row at x
  pub totals-is : (v w x : List ℕ) (p : Family) (list : List ℤ) (totals : Totals) → v ≡ normal_form A w → IsRow A w p
      → IsKazhdanLusztig A x v (coefficient list)
      → ((n : ℕ) → HasDegreeBelow list (n + 1) → totals ≡ polynomial_totals (coefficients_to n (coefficient list)))
      → totals ≡ totals_at A w p x
  totals-is v w x p list totals is row c told =
      let same = kazhdan_lusztig-row v w x p list is row c in
      told (word_length A w) (λ k above. (λ j. same j k) ∙ row-low w p row x k (omega (arith, above)))
      ∙ ap (λ (f : Coefficients). polynomial_totals (coefficients_to (word_length A w) f)) same

  pub kazhdan_lusztig-low : (v x : List ℕ) (list : List ℤ) → IsKazhdanLusztig A x v (coefficient list)
      → HasDegreeBelow list (word_length A v + 1)
  kazhdan_lusztig-low v x list c k above = c.at k ∙ row-low v c.row c.is x k (omega (arith, above))

  module _ (members : List (List ℕ)) (closed : IsClosed A members) (i : ℕ) (member : i < length members) where
    -- whether an element is below the member with this number
    abbrev pub below_it : List ℕ → Bool
    below_it y = is_below A y (word_at members i)

    pub below_it-true : (x : List ℕ) → IsBelow A x (word_at members i) → below_it x ≡ true
    below_it-true x below = (is_below-tells A g x (word_at members i)).1 below

    pub below_it-false : (x : List ℕ) → (IsBelow A x (word_at members i) → ⊥) → below_it x ≡ false
    below_it-false x none = false_from_ne_true (below_it x) (λ e. none ((is_below-tells A g x (word_at members i)).0 e))

    -- the first members have the totals of the interval
    pub first-are : (w : List ℕ) → word_at members i ≡ normal_form A w → (p : Family) → IsRow A w p → (totals : Totals)
        → totals ≡ first_totals A w p below_it members (i + 1) → AreTotalsOf A w totals
    first-are w is p row totals sum =
        let list = interval-exists A g w in
        let kept = filter below_it (take (i + 1) members) in (
          p,
          row,
          list.0,
          list.1,
          sum ∙ row_totals-total A w p kept
              ∙ first-same A g members closed i member w is both_totals no_totals both-trade (totals_at A w p) list.0 list.1
              ∙ sym (row_totals-total A w p list.0),
        )
