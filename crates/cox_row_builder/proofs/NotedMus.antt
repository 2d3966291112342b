-- The middle coefficient, and lists of the values of mu as they grow.
use Rattle.std.proofs.Common.{◌≡◌, ◌≢◌, ℕ, ◌+◌, ◌/◌, ◌%◌, ◌==◌, ◌<◌, ◌≤◌, if◌then◌else◌, Bool, true, false, List, [], ◌∷◌, ◌++◌, length}
use Rattle.std.proofs.Common.{ℤ, pos}
use Rattle.std.proofs.Common.{refl, ⊎_elim, arith}
use Rattle.std.proofs.lemmas.Bool.{cases_lt, eq-eqb, eqb-true}
use Rattle.cox_lemmas.proofs.PushedItems.{push-length, push-old, push-new, push_cases}
use Rattle.cox_base.specs.IntegerMatrix.{IntegerMatrix}
use Rattle.cox_base.specs.Admissible.{IsAdmissible}
use Rattle.cox_poly.specs.Coefficients.{Coefficients}
use Rattle.cox_hecke.specs.Row.{IsMu, middle_coefficient}
use Rattle.cox_hecke.proofs.AllRows.{mu-unique}
use Rattle.cox_context.specs.Numbers.{word_at}
use Rattle.cox_row.proofs.RisingNumbers.{rising-push, within-push, found-push}
use Rattle.cox_row_builder.specs.LargeMembers.{IsWithinLimit}
use Rattle.cox_row_builder.specs.Underway.{AreNoted}

pub middle-odd : (d : ℕ) (f : Coefficients) → d % 2 ≡ 1 → middle_coefficient d f ≡ f (d / 2)
middle-odd d f e = rw (eq-eqb (d % 2) 1 e) refl

pub middle-even : (d : ℕ) (f : Coefficients) → (d % 2 ≡ 1 → ⊥) → middle_coefficient d f ≡ pos 0
middle-even d f none = go (d % 2 == 1) refl
  where
    go : (b : Bool) → (d % 2 == 1) ≡ b → (if b then f (d / 2) else pos 0) ≡ pos 0
    go true e = absurd (none (eqb-true (d % 2) 1 e))
    go false e = refl

module _ (A : IntegerMatrix) (g : IsAdmissible A) (members : List (List ℕ)) (w : List ℕ) (limit : ℤ) (x : ℕ) (numbers : List ℕ)
    (values : List ℤ) where
  -- mu(x,w) is 0, or P(x,w) has a coefficient above the limit
  noted-none : ((m : ℤ) → IsMu A (word_at members x) w m → m ≢ pos 0 → IsWithinLimit A limit (word_at members x) w → ⊥)
      → AreNoted A members w limit x numbers values → AreNoted A members w limit (x + 1) numbers values
  noted-none none h = record {
    size = h.size;
    rising = h.rising;
    before = λ k l. omega (arith, h.before k l);
    value = h.value;
    some = h.some;
    whole = λ u m l mu some small. ⊎_elim (λ (less : u < x). h.whole u m less mu some small)
        (λ (more : x ≤ u). let e : u ≡ x = omega (arith, l, more) in absurd (none m (rw e at mu) some (rw e at small))) (cases_lt u x);
  }

  pub noted-skip : IsMu A (word_at members x) w (pos 0) → AreNoted A members w limit x numbers values
      → AreNoted A members w limit (x + 1) numbers values
  noted-skip none h = noted-none (λ m mu some small. some (mu-unique A g (word_at members x) w m (pos 0) mu none)) h

  pub noted-large : (IsWithinLimit A limit (word_at members x) w → ⊥) → AreNoted A members w limit x numbers values
      → AreNoted A members w limit (x + 1) numbers values
  noted-large large h = noted-none (λ m mu some small. large small) h

  pub noted-push : (m : ℤ) → m ≢ pos 0 → IsMu A (word_at members x) w m → AreNoted A members w limit x numbers values
      → AreNoted A members w limit (x + 1) (numbers ++ x ∷ []) (values ++ m ∷ [])
  noted-push m some mu h = record {
    size = omega (arith, h.size, push-length numbers x, push-length values m);
    rising = rising-push numbers x h.rising h.before;
    before = within-push numbers x h.before;
    value = λ k l. ⊎_elim
        (λ (old : k < length numbers). rw (push-old numbers x 0 k old, push-old values m (pos 0) k (omega (arith, old, h.size)))
        (h.value k old))
        (λ (new : k ≡ length numbers). rw (push-new numbers x 0 k new, push-new values m (pos 0) k (omega (arith, new, h.size))) mu)
        (push_cases numbers x k l);
    some = λ k l. ⊎_elim
        (λ (old : k < length numbers). rw (push-old values m (pos 0) k (omega (arith, old, h.size))) (h.some k old))
        (λ (new : k ≡ length numbers). rw (push-new values m (pos 0) k (omega (arith, new, h.size))) some)
        (push_cases numbers x k l);
    whole = λ u n l mu_u some_u small. found-push numbers x u (λ (less : u < x). h.whole u n less mu_u some_u small) l;
  }
