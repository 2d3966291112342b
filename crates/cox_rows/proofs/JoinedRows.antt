-- The rows of a list are put at their places in a list that is not shorter, one after another.
use Rattle.std.proofs.Common.{◌≡◌, ◌≢◌, ◌⊎◌, inl, inr, ⊎_elim, ℕ, ◌+◌, ◌<◌, ◌≤◌, List, length, true, Option, None, Some, is_some, sym}
use Rattle.std.proofs.Common.{ap, ◌∙◌, arith, ℤ}
use Rattle.std.specs.Prelude.{IfSome}
use Rattle.std.proofs.lemmas.Bool.{cases_lt, cases_eq}
use Rattle.cox_context.specs.Closed.{Elements}
use Rattle.cox_row.specs.declared.row.Row.{Row}
use Rattle.cox_row.specs.RowLists.{row_at}
use Rattle.cox_rows.specs.Holding.{IsHeldRow, AreRows, AreBoth}
use Rattle.cox_rows.proofs.HeldRows.{not-there}

-- the rows before the place n were put among the others
pub record ArePut (rows more : List (Option Row)) (n : ℕ) (all left : List (Option Row)) : Type 0 where
  pub count : length all ≡ length rows
  pub rest : (i : ℕ) → n ≤ i → row_at left i ≡ row_at more i
  pub from : (i : ℕ) → (row_at all i ≡ row_at rows i) ⊎ (row_at all i ≡ row_at more i)
  pub first_there : (i : ℕ) → is_some (row_at rows i) ≡ true → is_some (row_at all i) ≡ true
  pub second_there : (i : ℕ) → i < n → is_some (row_at more i) ≡ true → is_some (row_at all i) ≡ true

module _ (rows more : List (Option Row)) (n : ℕ) (all left rest : List (Option Row)) (h : ArePut rows more n all left)
    (others : (j : ℕ) → j ≢ n → row_at rest j ≡ row_at left j) where
  left-next : (i : ℕ) → n + 1 ≤ i → row_at rest i ≡ row_at more i
  left-next i l = others i (λ e. omega (arith, e, l)) ∙ h.rest i (omega (arith, l))

  pub put-gap : row_at left n ≡ None → ArePut rows more (n + 1) all rest
  put-gap none = record {
    count = h.count;
    rest = left-next;
    from = h.from;
    first_there = h.first_there;
    second_there = λ i l some. ⊎_elim (λ (less : i < n). h.second_there i less some)
        (λ (above : n ≤ i). let e : i ≡ n = omega (arith, l, above)
        in absurd (not-there (row_at more i) (ap (row_at more) e ∙ sym (h.rest n (omega arith)) ∙ none) some)) (cases_lt i n);
  }

  pub put-some : (next : List (Option Row)) (row : Row) → row_at left n ≡ Some row → row_at next n ≡ Some row
      → ((j : ℕ) → j ≢ n → row_at next j ≡ row_at all j) → length next ≡ length all → ArePut rows more (n + 1) next rest
  put-some next row was at same count = record {
    count = count ∙ h.count;
    rest = left-next;
    from = λ i. ⊎_elim
        (λ (e : i ≡ n). inr (ap (row_at next) e ∙ at ∙ sym was ∙ h.rest n (omega arith) ∙ ap (row_at more) (sym e)))
        (λ (apart : i ≢ n). ⊎_elim (λ (old : row_at all i ≡ row_at rows i). inl (same i apart ∙ old))
        (λ (new : row_at all i ≡ row_at more i). inr (same i apart ∙ new)) (h.from i)) (cases_eq i n);
    first_there = λ i some. there i (h.first_there i some);
    second_there = λ i l some. ⊎_elim (λ (less : i < n). there i (h.second_there i less some))
        (λ (above : n ≤ i). let e : i ≡ n = omega (arith, l, above)
        in ap (λ k. is_some (row_at next k)) e ∙ ap is_some at) (cases_lt i n);
  }
    where
      there : (i : ℕ) → is_some (row_at all i) ≡ true → is_some (row_at next i) ≡ true
      there i some = ⊎_elim (λ (e : i ≡ n). ap (λ k. is_some (row_at next k)) e ∙ ap is_some at)
          (λ (apart : i ≢ n). ap is_some (same i apart) ∙ some) (cases_eq i n)

pub both-others : (first second all : List (Option Row)) → AreBoth first second all → (i : ℕ) → is_some (row_at all i) ≡ true
    → (is_some (row_at first i) ≡ true) ⊎ (is_some (row_at second i) ≡ true)
both-others first second all h i some = ⊎_elim
    (λ (same : row_at all i ≡ row_at first i). inl (sym (ap is_some same) ∙ some))
    (λ (same : row_at all i ≡ row_at second i). inr (sym (ap is_some same) ∙ some)) (h.from i)

-- the rows of both lists are rows of members
pub both-rows : (e : Elements) (limit : ℤ) (first second all : List (Option Row)) → AreRows e limit first
    → ((i : ℕ) → IfSome (row_at second i) (IsHeldRow e limit i)) → AreBoth first second all → AreRows e limit all
both-rows e limit first second all are more both = record {
  least = are.least;
  each = λ i. ⊎_elim (λ (same : row_at all i ≡ row_at first i). rw same (are.each i))
      (λ (same : row_at all i ≡ row_at second i). rw same (more i)) (both.from i);
}
