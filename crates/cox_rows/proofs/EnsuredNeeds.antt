-- How the rows that are held change while those of Need(w) are made.
use Rattle.std.proofs.Common.{◌≡◌, ◌≢◌, inl, inr, ⊎_elim, ℕ, ◌+◌, ◌<◌, List, length, ℤ, refl, subst, ◌∙◌, below_more, arith}
use Rattle.std.specs.Prelude.{IfErr, Result}
use Rattle.std.proofs.lemmas.Bool.{cases_eq}
use Rattle.std.proofs.lemmas.Result.{MatchResult-weaker}
use Rattle.cox_base.specs.IntegerMatrix.{IntegerMatrix, integer_matrix}
use Rattle.cox_base.specs.Admissible.{IsAdmissible}
use Rattle.cox_reflect.proofs.Elements.{same-refl}
use Rattle.cox_hecke.specs.Needs.{IsNeeded, itself}
use Rattle.cox_hecke.proofs.NeededElements.{needed-trans}
use Rattle.cox_context.specs.Closed.{Elements, IsClosed}
use Rattle.cox_context.specs.Numbers.{word_at}
use Rattle.cox_row.specs.Rising.{number_at}
use Rattle.cox_row_symmetry.specs.declared.descents.Descent.{Descent}
use Rattle.cox_row_symmetry.specs.DescentOf.{IsDescentAt}
use Rattle.cox_row_symmetry.proofs.LowerMembers.{lower-before}
use Rattle.cox_klstep.specs.NeedsOf.{HasNeeds, AreNeeds}
use Rattle.cox_klstep.proofs.NeededRows.{listed-needs, shorter-needed, correction-before, correction-needed}
use Rattle.cox_rows.specs.Holding.{Holding, HasRow}
use Rattle.cox_row_builder.specs.declared.fault.StepFault.{StepFault}
use Rattle.cox_row_builder.specs.Faults.{IsFault}
use Rattle.cox_rows.specs.RowsFaults.{IsRowsFault}
use Rattle.cox_rows.specs.Ensured.{AreNeededBefore, IsEnsured, IsSettled}
use Rattle.cox_rows.specs.CountedRows.{AreRowsCounted}
use Rattle.cox_rows.proofs.CountedRows.{counted-none, counted-trans}
use Rattle.cox_rows.proofs.FaultsOfRows.{fault-weaker, fault-of_member}
use Rattle.cox_rows.proofs.SettledMembers.{settled-more}

-- ---- states

pub ensured-refl : (w : List ℕ) (h : Holding) → IsEnsured w h h
ensured-refl w h = record {
  elements = refl;
  limit = refl;
  kept = λ j l. l;
  needed = λ j l. inl l;
  counted = counted-none h;
  again = λ all. refl;
}

pub ensured-trans : (w : List ℕ) (a b c : Holding) → IsEnsured w a b → IsEnsured w b c → IsEnsured w a c
ensured-trans w a b c f h = record {
  elements = h.elements ∙ f.elements;
  limit = h.limit ∙ f.limit;
  kept = λ j l. h.kept j (f.kept j l);
  needed = λ j l. ⊎_elim (λ (old : HasRow b j). f.needed j old)
      (λ (new : IsNeeded (integer_matrix b.elements.matrix) w (word_at b.elements.members j)). inr (rw f.elements at new)) (h.needed j l);
  counted = counted-trans a b c f.elements h.kept f.counted h.counted;
  again = λ all. h.again (rw f.elements (λ j l n. f.kept j (all j l n))) ∙ f.again all;
}

-- what is needed by what w needs
pub ensured-needed : (a b : Holding) (w v : List ℕ) → IsAdmissible (integer_matrix a.elements.matrix)
    → IsNeeded (integer_matrix a.elements.matrix) w v → IsEnsured v a b → IsEnsured w a b
ensured-needed a b w v g n h = record {
  elements = h.elements;
  limit = h.limit;
  kept = h.kept;
  needed = λ j l. ⊎_elim (λ (old : HasRow a j). inl old)
      (λ (new : IsNeeded (integer_matrix a.elements.matrix) v (word_at a.elements.members j)).
      inr (needed-trans (integer_matrix a.elements.matrix) g w v (word_at a.elements.members j) n new)) (h.needed j l);
  counted = h.counted;
  again = λ all. h.again (λ j l m. all j l (needed-trans (integer_matrix a.elements.matrix) g w v (word_at a.elements.members j) n m));
}

-- the row of w itself is made
ensured-made : (a b : Holding) (i : ℕ) → IsAdmissible (integer_matrix a.elements.matrix) → b.elements ≡ a.elements → b.limit ≡ a.limit
    → ((j : ℕ) → HasRow a j → HasRow b j) → ((j : ℕ) → j ≢ i → HasRow b j → HasRow a j) → i < length a.elements.members
    → AreRowsCounted a b → (HasRow a i → b.steps ≡ a.steps) → IsEnsured (word_at a.elements.members i) a b
ensured-made a b i g elements limit kept others within counted again = record {
  elements = elements;
  limit = limit;
  kept = kept;
  needed = λ j l. ⊎_elim
      (λ (e : j ≡ i). inr (rw e (itself (same-refl (integer_matrix a.elements.matrix) g (word_at a.elements.members i)))))
      (λ (apart : j ≢ i). inl (others j apart l)) (cases_eq j i);
  counted = counted;
  again = λ all. again (all i within (itself (same-refl (integer_matrix a.elements.matrix) g (word_at a.elements.members i))));
}

pub ensured-then : (a b c : Holding) (i : ℕ) → IsAdmissible (integer_matrix a.elements.matrix)
    → IsEnsured (word_at a.elements.members i) a b → c.elements ≡ b.elements → c.limit ≡ b.limit
    → ((j : ℕ) → HasRow b j → HasRow c j) → ((j : ℕ) → j ≢ i → HasRow c j → HasRow b j) → i < length a.elements.members
    → AreRowsCounted b c → (HasRow b i → c.steps ≡ b.steps) → IsEnsured (word_at a.elements.members i) a c
ensured-then a b c i g h elements limit kept others within counted again =
    ensured-trans (word_at a.elements.members i) a b c h
    (subst (λ (e : Elements). IsEnsured (word_at e.members i) b c) h.elements
    (ensured-made b c i (rw h.elements g) elements limit kept others (rw h.elements within) counted again))

-- ---- faults

pub fault-needed : {T : Type 0} (e : Elements) (limit : ℤ) (w v : List ℕ) (result : Result T StepFault)
    → IsAdmissible (integer_matrix e.matrix) → IsNeeded (integer_matrix e.matrix) w v
    → IfErr result (IsRowsFault e limit (IsNeeded (integer_matrix e.matrix) v))
    → IfErr result (IsRowsFault e limit (IsNeeded (integer_matrix e.matrix) w))
fault-needed e limit w v result g n h = MatchResult-weaker result h (λ x t. t)
    (λ fault f. fault-weaker e limit (IsNeeded (integer_matrix e.matrix) v) (IsNeeded (integer_matrix e.matrix) w) fault
    (λ u m. needed-trans (integer_matrix e.matrix) g w v u n m) f)

pub fault-own : {T : Type 0} (e : Elements) (limit : ℤ) (i : ℕ) (result : Result T StepFault)
    → IsAdmissible (integer_matrix e.matrix) → i < length e.members
    → IfErr result (IsFault (integer_matrix e.matrix) e.members limit (λ w. w ≡ i))
    → IfErr result (IsRowsFault e limit (IsNeeded (integer_matrix e.matrix) (word_at e.members i)))
fault-own e limit i result g within h = MatchResult-weaker result h (λ x t. t)
    (λ fault f. fault-of_member e limit (IsNeeded (integer_matrix e.matrix) (word_at e.members i)) i fault within
    (itself (same-refl (integer_matrix e.matrix) g (word_at e.members i))) f)

-- ---- the shorter element, and the corrections

-- the least left descent of the member i, in the context of a
module _ (a : Holding) (x : Elements) (d : Descent) (i : ℕ) (context : x ≡ a.elements) (g : IsAdmissible (integer_matrix a.elements.matrix))
    (closed : IsClosed (integer_matrix a.elements.matrix) a.elements.members) (descent : IsDescentAt x d) (number : d.member ≡ i) where
  abbrev A : IntegerMatrix
  A = integer_matrix a.elements.matrix

  abbrev w : List ℕ
  w = word_at a.elements.members i

  is : IsDescentAt a.elements d
  is = rw context at descent

  pub lower-first : d.lower < i
  lower-first = let less = lower-before a.elements g closed d is in omega (arith, less, number)

  pub lower-within : d.lower < length a.elements.members
  lower-within = is.lower_within

  lower-needed : IsNeeded A w (word_at a.elements.members d.lower)
  lower-needed = rw number at (shorter-needed a.elements g closed d is)

  pub lower-ensured : (b : Holding) → IsEnsured (word_at a.elements.members d.lower) a b → IsEnsured w a b
  lower-ensured b = ensured-needed a b w (word_at a.elements.members d.lower) g lower-needed

  pub lower-fault : {T : Type 0} (result : Result T StepFault)
      → IfErr result (IsRowsFault a.elements a.limit (IsNeeded A (word_at a.elements.members d.lower)))
      → IfErr result (IsRowsFault a.elements a.limit (IsNeeded A w))
  lower-fault result = fault-needed a.elements a.limit w (word_at a.elements.members d.lower) result g lower-needed

  -- b is a with what the shorter element needs, and c with what the corrections need too
  module _ (b : Holding) (rows : IsEnsured (word_at a.elements.members d.lower) a b) (numbers : List ℕ)
      (are : AreNeeds (integer_matrix b.elements.matrix) b.elements.members d.letter (word_at b.elements.members d.member) numbers) where
    listed : AreNeeds A a.elements.members d.letter (word_at a.elements.members d.member) numbers
    listed = rw rows.elements at are

    pub corrections-before : AreNeededBefore b.elements i numbers
    corrections-before = rw rows.elements record {
      member = rw number at is.within;
      before = λ k l. let less = correction-before a.elements g closed d is numbers listed k l in omega (arith, less, number);
      needed = λ k l. rw number at (correction-needed a.elements g closed d is numbers listed k l);
    }

    pub corrections-ensured : (c : Holding) → IsEnsured (word_at b.elements.members i) b c → IsEnsured w a c
    corrections-ensured c more = ensured-trans w a b c (lower-ensured b rows)
        (subst (λ (e : Elements). IsEnsured (word_at e.members i) b c) rows.elements more)

    pub needs-settled : (c : Holding) → IsEnsured (word_at b.elements.members i) b c → IsSettled b d.lower
        → ((k : ℕ) → k < length numbers → IsSettled c (number_at numbers k)) → HasNeeds a.elements (IsSettled c) i
    needs-settled c more lower each = rw number at (listed-needs a.elements (IsSettled c) d numbers g closed is listed
        (settled-more b c more.elements more.limit more.kept d.lower lower) each)

-- ---- members that are needed, one after another

-- From a to h the first n of the numbers were ensured.
pub record IsUnderWay (i : ℕ) (a h : Holding) (numbers : List ℕ) (n : ℕ) : Type 0 where
  pub rows : IsEnsured (word_at a.elements.members i) a h
  pub settled : (k : ℕ) → k < n → IsSettled h (number_at numbers k)

pub under_way-start : (i : ℕ) (a : Holding) (numbers : List ℕ) → IsUnderWay i a a numbers 0
under_way-start i a numbers =
    record { rows = ensured-refl (word_at a.elements.members i) a; settled = λ k l. absurd (omega (arith, l)) }

module _ (i : ℕ) (a x y : Holding) (numbers : List ℕ) (n : ℕ) (g : IsAdmissible (integer_matrix a.elements.matrix))
    (are : AreNeededBefore a.elements i numbers) (h : IsUnderWay i a x numbers n) (l : n < length numbers) where
  pub next-within : number_at numbers n < length x.elements.members
  next-within = rw h.rows.elements (let less = are.before n l in omega (arith, less, are.member))

  pub next-rows : IsEnsured (word_at x.elements.members (number_at numbers n)) x y → IsEnsured (word_at a.elements.members i) a y
  next-rows rows = ensured-trans (word_at a.elements.members i) a x y h.rows (ensured-needed x y (word_at a.elements.members i)
      (word_at x.elements.members (number_at numbers n)) (rw h.rows.elements g) (rw h.rows.elements (are.needed n l)) rows)

  pub next-fault : {T : Type 0} (result : Result T StepFault) → IfErr result (IsRowsFault x.elements x.limit
      (IsNeeded (integer_matrix x.elements.matrix) (word_at x.elements.members (number_at numbers n))))
      → IfErr result (IsRowsFault a.elements a.limit (IsNeeded (integer_matrix a.elements.matrix) (word_at a.elements.members i)))
  next-fault result fault = fault-needed a.elements a.limit (word_at a.elements.members i)
      (word_at a.elements.members (number_at numbers n)) result g (are.needed n l) (rw (h.rows.elements, h.rows.limit) at fault)

  pub under_way-next : IsEnsured (word_at x.elements.members (number_at numbers n)) x y → IsSettled y (number_at numbers n)
      → IsUnderWay i a y numbers (n + 1)
  under_way-next rows settled = record {
    rows = next-rows rows;
    settled = below_more (λ k. IsSettled y (number_at numbers k)) n
        (λ k less. settled-more x y rows.elements rows.limit rows.kept (number_at numbers k) (h.settled k less)) settled;
  }
