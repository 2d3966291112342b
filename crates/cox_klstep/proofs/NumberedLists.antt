-- Lists of numbered corrections: they name the elements of the corrections, each once, and their sum is that of the recursion.
use Rattle.std.proofs.Common.{◌≡◌, ℕ, zero, suc, ◌-◌, ◌/◌, ◌<◌, List, [], ◌∷◌, length, map, take, ℤ, pos, ◌+ℤ◌, ◌-ℤ◌, true, false, refl}
use Rattle.std.proofs.Common.{sym, ap, ◌∙◌, arith}
use Rattle.std.proofs.lemmas.Int.{ints}
use Rattle.cox_base.specs.IntegerMatrix.{IntegerMatrix}
use Rattle.cox_base.specs.Admissible.{IsAdmissible}
use Rattle.cox_base.specs.Element.{SameElement}
use Rattle.cox_base.specs.Length.{word_length}
use Rattle.cox_reflect.proofs.Elements.{same-sym, same-trans}
use Rattle.cox_reflect.proofs.Search.{normal_form-equal}
use Rattle.cox_poly.specs.Coefficients.{Coefficients}
use Rattle.cox_poly.specs.Products.{times_q_power}
use Rattle.cox_poly.specs.Multiples.{scaled}
use Rattle.cox_hecke.specs.Family.{Family}
use Rattle.cox_hecke.specs.ListedElements.{is_same, occurrences}
use Rattle.cox_hecke.specs.StepFamily as hecke
use Rattle.cox_hecke.proofs.ListSums.{same-is_same, not_same-is_same}
use Rattle.cox_context.specs.Closed.{IsClosed}
use Rattle.cox_context.specs.Numbers.{word_at}
use Rattle.cox_context.proofs.Shifting.{element-at}
use Rattle.cox_klstep.specs.declared.step.Correction.{Correction}
use Rattle.cox_klstep.specs.StepOf.{correction_at}
use Rattle.cox_klstep.specs.CorrectionSums.{numbered_sum}

-- one correction more
pub numbered_sum-push : (P : ℕ → Coefficients) (list : List Correction) (k : ℕ) → k < length list → (d : ℕ)
    → numbered_sum P (take (suc k) list) d ≡ numbered_sum P (take k list) d
    +ℤ scaled (correction_at list k).factor (times_q_power (correction_at list k).shift (P (correction_at list k).number)) d
numbered_sum-push P [] k l d = absurd (omega (arith, l))
numbered_sum-push P (c ∷ list) zero l d = omega (arith, ints)
numbered_sum-push P (c ∷ list) (suc k) l d = omega (arith, ints, numbered_sum-push P list k (omega (arith, l)) d)

-- one correction is taken off, or its polynomial is 0
pub taken : (P : ℕ → Coefficients) (list : List Correction) (k n : ℕ) → n ≡ suc k → k < length list → (d : ℕ) (a old new : ℤ)
    → old ≡ a -ℤ numbered_sum P (take k list) d
    → new ≡ old -ℤ scaled (correction_at list k).factor (times_q_power (correction_at list k).shift (P (correction_at list k).number)) d
    → new ≡ a -ℤ numbered_sum P (take n list) d
taken P list k n is l d a old new e f = rw is (omega (arith, ints, e, f, numbered_sum-push P list k l d))

pub passed : (P : ℕ → Coefficients) (list : List Correction) (k n : ℕ) → n ≡ suc k → k < length list → (d : ℕ) (a old : ℤ)
    → old ≡ a -ℤ numbered_sum P (take k list) d
    → scaled (correction_at list k).factor (times_q_power (correction_at list k).shift (P (correction_at list k).number)) d ≡ pos 0
    → old ≡ a -ℤ numbered_sum P (take n list) d
passed P list k n is l d a old e none = rw is (omega (arith, ints, e, none, numbered_sum-push P list k l d))

-- the elements with their numbers as words
abbrev pub named : List (List ℕ) → List Correction → List hecke.Correction
named members list = map (λ c. record { element = word_at members c.number; mu = c.factor }) list

pub named-sum : (A : IntegerMatrix) (w x : List ℕ) (members : List (List ℕ)) (P : ℕ → Coefficients) (rows : List ℕ
    → Family) (list : List Correction)
    → ((k : ℕ) → k < length list → P (correction_at list k).number ≡ rows (word_at members (correction_at list k).number) x)
    → ((k : ℕ) → k < length list → (word_length A w - word_length A (word_at members (correction_at list k).number)) /
    2 ≡ (correction_at list k).shift)
    → (d : ℕ) → hecke.correction_sum A w rows (named members list) x d ≡ numbered_sum P list d
named-sum A w x members P rows [] same shift d = refl
named-sum A w x members P rows (c ∷ list) same shift d =
    let first : P c.number ≡ rows (word_at members c.number) x = same 0 (omega arith)
    in let half : (word_length A w - word_length A (word_at members c.number)) / 2 ≡ c.shift = shift 0 (omega arith)
    in let rest = named-sum A w x members P rows list (λ k l. same (suc k) (omega (arith, l))) (λ k l. shift (suc k) (omega (arith, l))) d
    in rw (← first, half) (omega (arith, ints, rest))

module _ (A : IntegerMatrix) (g : IsAdmissible A) (members : List (List ℕ)) (closed : IsClosed A members) (u : List ℕ) (j : ℕ)
    (inside : j < length members) (is : SameElement A u (word_at members j)) where
  same_as : (n : ℕ) → n < length members → (n ≡ j → ⊥) → is_same A u (word_at members n) ≡ false
  same_as n l apart = not_same-is_same A g u (word_at members n) (λ same. apart
      (closed.distinct n j l inside
      (sym (element-at A g members closed n l).normal
      ∙ normal_form-equal A g (same-trans A g (same-sym A g same) is)
      ∙ (element-at A g members closed j inside).normal)))

  occurs-none : (list : List Correction) → ((k : ℕ) → k < length list → (correction_at list k).number < length members)
      → ((k : ℕ) → k < length list → (correction_at list k).number ≡ j → ⊥)
      → occurrences A u (hecke.corrected_elements (named members list)) ≡ 0
  occurs-none [] within apart = refl
  occurs-none (c ∷ list) within apart =
      rw (same_as c.number (within 0 (omega arith)) (apart 0 (omega arith)))
      (occurs-none list (λ k l. within (suc k) (omega (arith, l))) (λ k l. apart (suc k) (omega (arith, l))))

  pub occurs-once : (list : List Correction) → ((k : ℕ) → k < length list → (correction_at list k).number < length members)
      → ((i k : ℕ) → i < k → k < length list → (correction_at list i).number < (correction_at list k).number)
      → (k : ℕ) → k < length list → (correction_at list k).number ≡ j
      → occurrences A u (hecke.corrected_elements (named members list)) ≡ 1
  occurs-once [] within rising k l e = absurd (omega (arith, l))
  occurs-once (c ∷ list) within rising zero l e =
      let yes : is_same A u (word_at members c.number) ≡ true = same-is_same A g (rw e is)
      in rw yes (ap (λ n. suc n) (occurs-none list (λ k l. within (suc k) (omega (arith, l)))
      (λ k m same. let less = rising 0 (suc k) (omega arith) (omega (arith, m)) in omega (arith, less, e, same))))
  occurs-once (c ∷ list) within rising (suc k) l e =
      rw (same_as c.number (within 0 (omega arith)) (λ same. let less = rising 0 (suc k) (omega arith) l in omega (arith, less, e, same)))
      (occurs-once list (λ i m. within (suc i) (omega (arith, m))) (λ i i' m n. rising (suc i) (suc i') (omega (arith, m))
      (omega (arith, n)))
      k (omega (arith, l)) e)
