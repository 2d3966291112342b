-- It is decided whether there are more than max small roots: different ones are collected until there are max + 1, or until no letter
-- leads from them to another.
use Rattle.std.proofs.Common.{◌≡◌, ℕ, zero, suc, ◌+◌, ◌≤◌, ◌<◌, ◌⊎◌, ℤ, pos, ◌*ℤ◌, refl, sym, ◌∙◌, subst, inl, inr, ⊎_elim}
use Rattle.std.proofs.Common.{arith, true, false, Bool, true≢false}
use Rattle.std.proofs.lemmas.Bool.{cases_eq, cases_lt}
use Rattle.std.proofs.lemmas.Bool.Decides.{Decides-int_eq}
use Rattle.std.proofs.Math.Path.{fun_ext}
use Rattle.std.proofs.lemmas.Int.{by_lt_z}
use Rattle.std.specs.Ordering.{int_eq}
use Rattle.cox_base.specs.Matrix.{IsLetter}
use Rattle.cox_base.specs.IntegerMatrix.{IntegerMatrix}
use Rattle.cox_base.specs.Admissible.{IsAdmissible}
use Rattle.cox_lemmas.proofs.Ring.{linears}
use Rattle.cox_reflect.specs.Action.{Vector, simple_root, pairing, reflect}
use Rattle.cox_reflect.specs.Transpose.{transposed}
use Rattle.cox_reflect.proofs.Sums.{letter_cases, simple_root-other}
use Rattle.cox_reflect.proofs.Action.{reflect-other}
use Rattle.cox_small.specs.SmallRoots.{IsShortStep, IsSmall, simple, step, HasMoreSmallRoots}
use Rattle.cox_small.specs.RootCounts.{HasFewSmallRoots}
use Rattle.cox_small.proofs.ElementaryRoots.{small-coroot}

-- a property holds or not
abbrev IsDecidable : Type 0 → Type 0
IsDecidable P = P ⊎ (P → ⊥)

negated : (P : Type 0) → IsDecidable P → IsDecidable (P → ⊥)
negated P (inl holds) = inr (λ never. never holds)
negated P (inr never) = inl never

both : (P Q : Type 0) → IsDecidable P → IsDecidable Q → IsDecidable (P × Q)
both P Q (inl p) (inl q) = inl (p, q)
both P Q (inl p) (inr q) = inr (λ h. q h.1)
both P Q (inr p) q = inr (λ h. p h.0)

-- one of the numbers below n has a property, or none has
search_below : (P : ℕ → Type 0) (n : ℕ) → ((i : ℕ) → IsDecidable (P i)) → ((i : ℕ) × (i < n) × P i) ⊎ ((i : ℕ) → i < n → P i → ⊥)
search_below P zero decided = inr (λ i l. absurd (omega (arith, l)))
search_below P (suc n) decided = ⊎_elim (λ found. inl (found.0, omega (arith, found.1), found.2)) last (search_below P n decided)
  where
    last : ((i : ℕ) → i < n → P i → ⊥) → ((i : ℕ) × (i < suc n) × P i) ⊎ ((i : ℕ) → i < suc n → P i → ⊥)
    last none = ⊎_elim (λ holds. inl (n, omega arith, holds)) (λ never. inr (λ i l p.
        ⊎_elim (λ (e : i ≡ n). never (subst P e p)) (λ other. none i (omega (arith, l, other)) p) (cases_eq i n)))
        (decided n)

-- a number is another or not
equal_integers : (x y : ℤ) → IsDecidable (x ≡ y)
equal_integers x y = by_answer (int_eq x y) refl
  where
    by_answer : (b : Bool) → int_eq x y ≡ b → IsDecidable (x ≡ y)
    by_answer true e = inl ((Decides-int_eq x y).0 e)
    by_answer false e = inr (λ same. true≢false (sym ((Decides-int_eq x y).1 same) ∙ e))

-- the coordinates that belong to no letter are 0
abbrev IsWithin : IntegerMatrix → Vector → Type 0
IsWithin A b = (i : ℕ) → (IsLetter A.rank i → ⊥) → b i ≡ pos 0

small-within : {A : IntegerMatrix} {b c : Vector} → IsSmall A b c → IsWithin A b
small-within {A} (simple {s = s} l) i foreign = simple_root-other s i (λ e. foreign (subst (IsLetter A.rank) (sym e) l))
small-within {A} (step {s = s} {b = b} short h) i foreign =
    reflect-other A s b i (λ e. foreign (subst (IsLetter A.rank) (sym e) short.letter)) ∙ small-within h i foreign

-- such vectors are equal or not
equal_vectors : (A : IntegerMatrix) (a b : Vector) → IsWithin A a → IsWithin A b → IsDecidable (a ≡ b)
equal_vectors A a b in_a in_b =
    ⊎_elim (λ found. inr (λ same. found.2 (λ i. same i (suc found.0)))) (λ none. inl (alike none))
    (search_below (λ k. a (suc k) ≡ b (suc k) → ⊥) A.rank
    (λ k. negated (a (suc k) ≡ b (suc k)) (equal_integers (a (suc k)) (b (suc k)))))
  where
    alike : ((k : ℕ) → k < A.rank → (a (suc k) ≡ b (suc k) → ⊥) → ⊥) → a ≡ b
    alike none = fun_ext (λ i. at i (letter_cases A.rank i))
      where
        at : (i : ℕ) → IsDecidable (IsLetter A.rank i) → a i ≡ b i
        at zero (inl l) = absurd (omega (arith, l.from_one))
        at (suc k) (inl l) =
            ⊎_elim (λ same. same) (λ other. absurd (none k (omega (arith, l.to_rank)) other)) (equal_integers (a (suc k)) (b (suc k)))
        at i (inr foreign) = in_a i foreign ∙ sym (in_b i foreign)

-- n different small roots with their coroots
record AreFound (A : IntegerMatrix) (n : ℕ) : Type 0 where
  root : ℕ → Vector
  coroot : ℕ → Vector
  small : (i : ℕ) → i < n → IsSmall A (root i) (coroot i)
  different : (i j : ℕ) → i < j → j < n → root i ≡ root j → ⊥

-- a root is among them
abbrev IsHeld : (A : IntegerMatrix) (n : ℕ) → AreFound A n → Vector → Type 0
IsHeld A n found b = (i : ℕ) × (i < n) × (found.root i ≡ b)

module _ (A : IntegerMatrix) (g : IsAdmissible A) where
  -- whether a small root is among them
  held? : (n : ℕ) (found : AreFound A n) (b c : Vector) → IsSmall A b c → IsDecidable (IsHeld A n found b)
  held? n found b c small =
      ⊎_elim (λ h. inl (h.0, h.1, h.2.1)) (λ none. inr (λ h. none h.0 h.1 (h.1, h.2)))
      (search_below (λ i. (i < n) × (found.root i ≡ b)) n (λ i. by_place i (cases_lt i n)))
    where
      by_place : (i : ℕ) → (i < n) ⊎ (n ≤ i) → IsDecidable ((i < n) × (found.root i ≡ b))
      by_place i (inr above) = inr (λ h. absurd (omega (arith, above, h.0)))
      by_place i (inl l) = ⊎_elim (λ same. inl (l, same)) (λ other. inr (λ h. other h.1))
          (equal_vectors A (found.root i) b (small-within (found.small i l)) (small-within small))

  -- one more small root, which is not among them
  more : (n : ℕ) (found : AreFound A n) (b c : Vector) → IsSmall A b c → (IsHeld A n found b → ⊥) → AreFound A (suc n)
  more n found b c small new = record {
    root = λ i. ⊎_elim (λ _. b) (λ _. found.root i) (cases_eq i n);
    coroot = λ i. ⊎_elim (λ _. c) (λ _. found.coroot i) (cases_eq i n);
    small = λ i l. smalls i l (cases_eq i n);
    different = λ i j l k. differ i j l k (cases_eq i n) (cases_eq j n);
  }
    where
      smalls : (i : ℕ) → i < suc n → (case : (i ≡ n) ⊎ (i ≡ n → ⊥))
          → IsSmall A (⊎_elim (λ _. b) (λ _. found.root i) case) (⊎_elim (λ _. c) (λ _. found.coroot i) case)
      smalls i l (inl e) = small
      smalls i l (inr other) = found.small i (omega (arith, l, other))

      differ : (i j : ℕ) → i < j → j < suc n → (one : (i ≡ n) ⊎ (i ≡ n → ⊥)) (other : (j ≡ n) ⊎ (j ≡ n → ⊥))
          → ⊎_elim (λ _. b) (λ _. found.root i) one ≡ ⊎_elim (λ _. b) (λ _. found.root j) other → ⊥
      differ i j l k (inl e) at_j same = absurd (omega (arith, e, l, k))
      differ i j l k (inr e) (inl f) same = new (i, omega (arith, l, f), same)
      differ i j l k (inr e) (inr f) same = found.different i j l (omega (arith, k, f)) same

  -- a letter makes a short step, or none
  short_step? : (s : ℕ) (b c : Vector) → IsDecidable (IsShortStep A s b c)
  short_step? s b c =
      ⊎_elim (λ l. by_lt_z (pairing A s b) (pos 0) (λ p.
      by_lt_z (pos 3) (pairing A s b *ℤ pairing (transposed A) s c)
      (λ far. inr (λ h. absurd (omega (arith, linears, far, h.at_most_three))))
      (λ near. by_lt_z (pairing A s b *ℤ pairing (transposed A) s c) (pos 1)
      (λ low. inr (λ h. absurd (omega (arith, linears, low, h.at_least_one))))
      (λ high. inl (record { letter = l; negative = p; at_least_one = high; at_most_three = near }))))
      (λ q. inr (λ h. absurd (omega (arith, linears, q, h.negative)))))
      (λ foreign. inr (λ h. foreign h.letter)) (letter_cases A.rank s)

  -- a simple root that is not among them
  abbrev IsSimpleMissing : (n : ℕ) → AreFound A n → ℕ → Type 0
  IsSimpleMissing n found s = IsLetter A.rank s × (IsHeld A n found (simple_root s) → ⊥)

  -- the letter s leads from the root i to one that is not among them
  abbrev IsStepMissing : (n : ℕ) → AreFound A n → ℕ → ℕ → Type 0
  IsStepMissing n found i s = IsShortStep A s (found.root i) (found.coroot i) × (IsHeld A n found (reflect A s (found.root i)) → ⊥)

  simple_missing? : (n : ℕ) (found : AreFound A n) (s : ℕ) → IsDecidable (IsSimpleMissing n found s)
  simple_missing? n found s = by_letter (letter_cases A.rank s)
    where
      by_letter : IsDecidable (IsLetter A.rank s) → IsDecidable (IsSimpleMissing n found s)
      by_letter (inl l) = both (IsLetter A.rank s) _ (inl l) (negated _ (held? n found _ _ (simple l)))
      by_letter (inr foreign) = inr (λ h. foreign h.0)

  step_missing? : (n : ℕ) (found : AreFound A n) (i s : ℕ) → i < n → IsDecidable (IsStepMissing n found i s)
  step_missing? n found i s l = by_step (short_step? s (found.root i) (found.coroot i))
    where
      by_step : IsDecidable (IsShortStep A s (found.root i) (found.coroot i)) → IsDecidable (IsStepMissing n found i s)
      by_step (inl short) = both (IsShortStep A s (found.root i) (found.coroot i)) _ (inl short)
          (negated _ (held? n found _ _ (step short (found.small i l))))
      by_step (inr long) = inr (λ h. long h.0)

  -- where none is missing, all small roots are among them
  all_held : (n : ℕ) (found : AreFound A n) → ((s : ℕ) → IsLetter A.rank s → IsHeld A n found (simple_root s))
      → ((i s : ℕ) → i < n → IsShortStep A s (found.root i) (found.coroot i) → IsHeld A n found (reflect A s (found.root i)))
      → {b c : Vector} → IsSmall A b c → IsHeld A n found b
  all_held n found simples steps (simple {s = s} l) = simples s l
  all_held n found simples steps (step {s = s} {b = b} {c = c} short small) =
      let h = all_held n found simples steps small
      in let same : found.coroot h.0 ≡ c = small-coroot A g (found.small h.0 h.1) (subst (λ x. IsSmall A x c) (sym h.2) small)
      in let here : IsShortStep A s (found.root h.0) (found.coroot h.0) =
      subst (λ x. IsShortStep A s x (found.coroot h.0)) (sym h.2) (subst (λ y. IsShortStep A s b y) (sym same) short)
      in subst (λ x. IsHeld A n found (reflect A s x)) h.2 (steps h.0 s h.1 here)

  -- the missing letters and steps, one after the other, as long as there is room
  collect : (room n max : ℕ) → n + room ≡ suc max → AreFound A n → HasMoreSmallRoots A max ⊎ HasFewSmallRoots A max
  collect zero n max full found = inl (record {
    root = found.root;
    small = λ i l. record { coroot = found.coroot i; small = found.small i (omega (arith, l, full)) };
    different = λ i j l k. found.different i j l (omega (arith, k, full));
  })
  collect (suc room) n max full found =
      ⊎_elim (λ h. collect room (suc n) max (omega (arith, full)) (more n found _ _ (simple h.2.0) h.2.1))
      (λ no_simple. ⊎_elim (λ h. collect room (suc n) max (omega (arith, full))
      (more n found _ _ (step h.2.1.2.0 (found.small h.0 h.1)) h.2.1.2.1))
      (λ no_step. inr (whole no_simple no_step))
      (search_below (λ i. (i < n) × ((s : ℕ) × (s < suc A.rank) × IsStepMissing n found i s)) n (λ i. from_root i (cases_lt i n))))
      (search_below (IsSimpleMissing n found) (suc A.rank) (simple_missing? n found))
    where
      from_root : (i : ℕ) → (i < n) ⊎ (n ≤ i) → IsDecidable ((i < n) × ((s : ℕ) × (s < suc A.rank) × IsStepMissing n found i s))
      from_root i (inr above) = inr (λ h. absurd (omega (arith, above, h.0)))
      from_root i (inl l) = ⊎_elim (λ h. inl (l, h)) (λ none. inr (λ h. none h.1.0 h.1.1 h.1.2))
          (search_below (IsStepMissing n found i) (suc A.rank) (λ s. step_missing? n found i s l))

      -- what is not missing is held
      present : (b c : Vector) → IsSmall A b c → ((IsHeld A n found b → ⊥) → ⊥) → IsHeld A n found b
      present b c small never = ⊎_elim (λ h. h) (λ none. absurd (never none)) (held? n found b c small)

      whole : ((s : ℕ) → s < suc A.rank → IsSimpleMissing n found s → ⊥)
          → ((i : ℕ) → i < n → (i < n) × ((s : ℕ) × (s < suc A.rank) × IsStepMissing n found i s) → ⊥) → HasFewSmallRoots A max
      whole no_simple no_step = record {
        root = found.root;
        all = λ b. let h = all_held n found
            (λ s l. present _ _ (simple l) (λ missing. no_simple s (omega (arith, l.to_rank)) (l, missing)))
            (λ i s l short. present _ _ (step short (found.small i l))
            (λ missing. no_step i l (l, (s, omega (arith, short.letter.to_rank), (short, missing))))) b.small
            in (h.0, omega (arith, h.1, full), h.2);
      }

  pub HasMoreSmallRoots-decided : (max : ℕ) → HasMoreSmallRoots A max ⊎ HasFewSmallRoots A max
  HasMoreSmallRoots-decided max = collect (suc max) 0 max (omega arith) (record {
    root = λ i. simple_root i;
    coroot = λ i. simple_root i;
    small = λ i l. absurd (omega (arith, l));
    different = λ i j l k. absurd (omega (arith, k));
  })
