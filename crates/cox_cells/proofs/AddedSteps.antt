-- Steps are added, two at most for each value of mu of a row.
use Rattle.std.specs.Prelude.{IsTrue}
use Rattle.std.proofs.Common.{◌≡◌, ◌↔◌, Bool, true, false, cond, ℕ, suc, ◌≤◌, ◌<◌, List, [], ◌∷◌, ◌++◌, length, ℤ, inl, inr, refl}
use Rattle.std.proofs.Common.{ap, sym, ⊎_elim, arith}
use Rattle.std.proofs.lemmas.Bool.{cases_lt}
use Rattle.std.proofs.lemmas.List.Elements.{Contains-append_left, Contains-push, Contains-push_cases}
use Rattle.cox_base.specs.IntegerMatrix.{integer_matrix}
use Rattle.cox_base.specs.Admissible.{IsAdmissible}
use Rattle.cox_context.specs.Closed.{Elements, IsClosed}
use Rattle.cox_context.specs.Numbers.{word_at}
use Rattle.cox_row.specs.Rising.{number_at}
use Rattle.cox_row.specs.Mus.{value_at, AreMus}
use Rattle.cox_wgraph.specs.Edges.{IsJoined}
use Rattle.cox_wgraph.proofs.EdgeValues.{some-values, earlier, no-back, edge-of_mu, mu-of_edge, edge-symmetric}
use Rattle.cox_scc.specs.Reach.{HasEdge}
use Rattle.cox_cells.specs.declared.kind.CellKind.{CellKind}
use Rattle.cox_cells.specs.Cells.{HasOwn}
use Rattle.cox_cells.specs.declared.steps.Descents.{Descents}
use Rattle.cox_cells.specs.NumberedCells.{IsNumberedStep, AreSteps, AreStepsTo, AddsStep, AreDescents, HasOwnLetter}
use Rattle.cox_cells.proofs.DescentSets.{own-letters}

module _ (kind : CellKind) (e : Elements) where
  -- ---- one step

  adds-step : (i j : ℕ) (edges : List (ℕ × ℕ)) → HasOwn kind (integer_matrix e.matrix) (word_at e.members i) (word_at e.members j)
      → AddsStep kind e i j edges (edges ++ (i, j) ∷ [])
  adds-step i j edges own = record {
    kept = λ a b d. Contains-append_left edges ((i, j) ∷ []) (a, b) d;
    added = λ own. Contains-push edges (i, j);
    others = λ a b d. ⊎_elim (λ old. inl old)
        (λ (q : ◌≡◌ {A = ℕ × ℕ} (i, j) (a, b)). inr (sym (ap (λ (p : ℕ × ℕ). p.0) q), sym (ap (λ (p : ℕ × ℕ). p.1) q), own))
        (Contains-push_cases edges (i, j) (a, b) d);
  }

  adds-none : (i j : ℕ) (edges : List (ℕ × ℕ))
      → (HasOwn kind (integer_matrix e.matrix) (word_at e.members i) (word_at e.members j) → ⊥) → AddsStep kind e i j edges edges
  adds-none i j edges none = record { kept = λ a b d. d; added = λ own. absurd (none own); others = λ a b d. inl d }

  -- by a test
  pub adds-if : IsAdmissible (integer_matrix e.matrix) → (i j : ℕ) (own others : Descents) (holds : Bool) (old new : List (ℕ × ℕ))
      → AreDescents kind (integer_matrix e.matrix) (word_at e.members i) own
      → AreDescents kind (integer_matrix e.matrix) (word_at e.members j) others
      → IsTrue holds ↔ HasOwnLetter own others → new ≡ cond holds (old ++ (i, j) ∷ []) old → AddsStep kind e i j old new
  adds-if g i j own others true old new mine theirs test is = rw is (adds-step i j old
      ((own-letters (integer_matrix e.matrix) g kind (word_at e.members i) (word_at e.members j) own others mine theirs).0 (test.0 refl)))
  adds-if g i j own others false old new mine theirs test is = rw is (adds-none i j old (λ h. let no : IsTrue false = test.1
      ((own-letters (integer_matrix e.matrix) g kind (word_at e.members i) (word_at e.members j) own others mine theirs).1 h) in cc))

  -- ---- the steps between a member and those before it

  module _ (g : IsAdmissible (integer_matrix e.matrix)) (closed : IsClosed (integer_matrix e.matrix) e.members) (n : ℕ)
      (inside : n < length e.members) (numbers : List ℕ) (values : List ℤ)
      (mus : AreMus (integer_matrix e.matrix) e.members (word_at e.members n) numbers values) where
    before : (k : ℕ) → k < length numbers → number_at numbers k < n
    before k l = (earlier e g closed (some-values e g).0 (some-values e g).1 n numbers values inside mus).within k l

    joined-up : (k : ℕ) → k < length numbers
        → IsJoined (integer_matrix e.matrix) (word_at e.members (number_at numbers k)) (word_at e.members n)
    joined-up k l = (
      value_at values k,
      record {
        value = edge-of_mu (integer_matrix e.matrix) g (word_at e.members (number_at numbers k)) (word_at e.members n) (value_at values k)
            (no-back e g closed (number_at numbers k) n (omega (arith, before k l)) inside) (mus.value k l);
        some = mus.some k l;
      },
    )

    joined-back : (x y : List ℕ) → IsJoined (integer_matrix e.matrix) x y → IsJoined (integer_matrix e.matrix) y x
    joined-back x y (m, h) = (m, record { value = edge-symmetric (integer_matrix e.matrix) g x y m h.value; some = h.some })

    -- a member before it, or it itself, is joined to it only where it is listed
    listed : (i : ℕ) → i ≤ n → IsJoined (integer_matrix e.matrix) (word_at e.members i) (word_at e.members n)
        → (k : ℕ) × (k < length numbers) × (number_at numbers k ≡ i)
    listed i l (m, h) = mus.whole i m (omega (arith, l, inside))
        (mu-of_edge (integer_matrix e.matrix) g (word_at e.members i) (word_at e.members n) m (no-back e g closed i n l inside) h.value)
        h.some

    step-up : (k : ℕ) → k < length numbers
        → HasOwn kind (integer_matrix e.matrix) (word_at e.members (number_at numbers k)) (word_at e.members n)
        → IsNumberedStep kind e (number_at numbers k) n
    step-up k l own = record { within = inside; joined = joined-up k l; own = own }

    step-down : (k : ℕ) → k < length numbers
        → HasOwn kind (integer_matrix e.matrix) (word_at e.members n) (word_at e.members (number_at numbers k))
        → IsNumberedStep kind e n (number_at numbers k)
    step-down k l own = record {
      within = mus.within k l;
      joined = joined-back (word_at e.members (number_at numbers k)) (word_at e.members n) (joined-up k l);
      own = own;
    }

    pub steps-begin : (edges : List (ℕ × ℕ)) → AreSteps kind e n edges → AreStepsTo kind e n numbers 0 edges
    steps-begin edges h = record {
      step = λ i j d. let s = h.step i j d in (omega (arith, s.0), omega (arith, s.1), s.2);
      all = h.all;
      up = λ k l. absurd (omega (arith, l));
      down = λ k l. absurd (omega (arith, l));
    }

    -- the steps either way at the next of the list
    pub steps-both : (old between new : List (ℕ × ℕ)) (k : ℕ) → k < length numbers
        → AddsStep kind e (number_at numbers k) n old between → AddsStep kind e n (number_at numbers k) between new
        → AreStepsTo kind e n numbers k old → AreStepsTo kind e n numbers (suc k) new
    steps-both old between new k l first second h = record {
      step = λ i j d. ⊎_elim
          (λ (d : HasEdge between i j). ⊎_elim (λ (d : HasEdge old i j). h.step i j d)
          (λ s. rw (s.0, s.1) (omega (arith, before k l), omega arith, step-up k l s.2)) (first.others i j d))
          (λ s. rw (s.0, s.1) (omega arith, omega (arith, before k l), step-down k l s.2)) (second.others i j d);
      all = λ i j a b s. second.kept i j (first.kept i j (h.all i j a b s));
      up = λ m b c s. ⊎_elim
          (λ (less : m < k). second.kept (number_at numbers m) n (first.kept (number_at numbers m) n (h.up m less c s)))
          (λ (here : k ≤ m). let q : m ≡ k = omega (arith, here, b)
          in rw q (second.kept (number_at numbers k) n (first.added (rw q at s.own)))) (cases_lt m k);
      down = λ m b c s. ⊎_elim
          (λ (less : m < k). second.kept n (number_at numbers m) (first.kept n (number_at numbers m) (h.down m less c s)))
          (λ (here : k ≤ m). let q : m ≡ k = omega (arith, here, b) in rw q (second.added (rw q at s.own))) (cases_lt m k);
    }

    pub steps-end : (edges : List (ℕ × ℕ)) (k : ℕ) → length numbers ≤ k → AreStepsTo kind e n numbers k edges
        → AreSteps kind e (suc n) edges
    steps-end edges k l h = record {
      step = λ i j d. let s = h.step i j d in (omega (arith, s.0), omega (arith, s.1), s.2);
      all = λ i j a b s. ⊎_elim
          (λ (less : i < n). ⊎_elim (λ (lower : j < n). h.all i j less lower s)
          (λ (last : n ≤ j). let q : j ≡ n = omega (arith, last, b) in rw q (from i (omega (arith, less)) (rw q at s))) (cases_lt j n))
          (λ (last : n ≤ i). let q : i ≡ n = omega (arith, last, a) in rw q (to j (omega (arith, b)) (rw q at s))) (cases_lt i n);
    }
      where
        from : (i : ℕ) → i ≤ n → IsNumberedStep kind e i n → HasEdge edges i n
        from i m s =
            let r = listed i m s.joined in
            let up : IsNumberedStep kind e (number_at numbers r.0) n = rw r.2 s
            in rw r.2 at (h.up r.0 (omega (arith, r.1, l)) r.1 up)

        to : (j : ℕ) → j ≤ n → IsNumberedStep kind e n j → HasEdge edges n j
        to j m s =
            let r = listed j m (joined-back (word_at e.members n) (word_at e.members j) s.joined) in
            let down : IsNumberedStep kind e n (number_at numbers r.0) = rw r.2 s
            in rw r.2 at (h.down r.0 (omega (arith, r.1, l)) r.1 down)
