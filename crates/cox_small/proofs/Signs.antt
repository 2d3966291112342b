-- For a positive root b with the coroot c, and a letter s with b other than e(s): the pairing of b with s over A and that of c over the
-- transposed matrix have the same sign.
use Rattle.std.proofs.Common.{◌≡◌, ℕ, zero, suc, ◌<◌, List, length, pos, neg_ℤ, ◌≤ℤ◌, ◌<ℤ◌, ⊎_elim, arith}
use Rattle.std.proofs.lemmas.Int.{ints, by_lt_z}
use Rattle.cox_base.specs.Matrix.{IsLetter}
use Rattle.cox_base.specs.IntegerMatrix.{IntegerMatrix}
use Rattle.cox_base.specs.Admissible.{IsAdmissible}
use Rattle.cox_reflect.specs.Action.{Vector, simple_root, pairing, reflect}
use Rattle.cox_reflect.specs.WordAction.{act, IsNonnegative, IsNonpositive}
use Rattle.cox_reflect.specs.Transpose.{transposed}
use Rattle.cox_lemmas.proofs.Ring.{linears}
use Rattle.cox_reflect.proofs.Sums.{letter_cases}
use Rattle.cox_reflect.proofs.Action.{pairing-simple_root, pairing-reflect, pairing-outside, reflect-fixed, reflect-reflect}
use Rattle.cox_reflect.proofs.Transposed.{IsAdmissible-transposed}
use Rattle.cox_small.specs.Elementary.{IsRoot}
use Rattle.cox_small.proofs.RootPairs.{IsRootPair, root-reflect, simple_or_stays, pair-root, pair-swap, pair-act, pair-reflect}
use Rattle.cox_small.proofs.RootPairs.{pair-nonnegative, pair-nonpositive}
use Rattle.cox_small.proofs.SentRoots.{sending, shorter-sends}

module _ (A : IntegerMatrix) (g : IsAdmissible A) where
  -- a letter with a pairing other than 0 is one of the rank
  pub pairing-letter : (s : ℕ) (b : Vector) → (pairing A s b ≡ pos 0 → ⊥) → IsLetter A.rank s
  pairing-letter s b other = ⊎_elim (λ l. l) (λ foreign. absurd (other (pairing-outside A g s b foreign))) (letter_cases A.rank s)

  -- p is 2 at e(s)
  pub pairing-own : (s : ℕ) (b : Vector) → IsLetter A.rank s → b ≡ simple_root s → pairing A s b ≡ pos 2
  pairing-own s b l e = rw (e, pairing-simple_root A g s s) (g.diagonal s l)

  -- where p is negative, s b is positive
  pub negative-stays : (s : ℕ) {b : Vector} → IsRoot A b → IsNonnegative b → pairing A s b <ℤ pos 0 → IsNonnegative (reflect A s b)
  negative-stays s {b} r p n = ⊎_elim own (λ q. q) (simple_or_stays A g s r p)
    where
      own : b ≡ simple_root s → IsNonnegative (reflect A s b)
      own e =
          let two = pairing-own s b (pairing-letter s b (λ z. omega (arith, linears, z, n))) e in absurd (omega (arith, ints, two, n))

module _ (A : IntegerMatrix) (g : IsAdmissible A) where
  gt : IsAdmissible (transposed A)
  gt = IsAdmissible-transposed A g

  -- if p is positive and r is not then ever shorter words make b negative
  no_words : (n : ℕ) (w : List ℕ) (s : ℕ) {b c : Vector} → length w < n → IsRootPair A b c → IsNonnegative b
      → pos 0 <ℤ pairing A s b → pairing (transposed A) s c ≤ℤ pos 0
      → IsNonpositive (act A w b) → ⊥
  no_words zero w s l h p up down sent = omega arith
  no_words (suc n) w s {b} {c} l h p up down sent =
      by_lt_z (pairing (transposed A) s c) (pos 0) (λ lt. below lt (λ z k. no_words n z s k h p up down))
      (λ ge. equal (omega (arith, linears, ge, down)) (λ z k. no_words n z s k h p up down))
    where
      z : (z : List ℕ) × (length z < length w) × IsNonpositive (act A z (reflect A s b))
      z = shorter-sends A g s (pair-root A g h) p up w sent

      -- over the transposed matrix
      over : IsNonpositive (act (transposed A) z.0 (reflect (transposed A) s c))
      over = pair-nonpositive A g (pair-act A g z.0 (pair-reflect A g s h)) z.2

      back : (v : List ℕ) → IsNonpositive (act (transposed A) v c) → IsNonpositive (act A v b)
      back v k = pair-nonpositive (transposed A) gt (pair-act (transposed A) gt v (pair-swap A g h)) k

      equal : pairing (transposed A) s c ≡ pos 0 → ((v : List ℕ) → length v < n → IsNonpositive (act A v b) → ⊥) → ⊥
      equal e again = again z.0 (omega (arith, l, z.1)) (back z.0 (λ i. rw (reflect-fixed (transposed A) s c e) at (over i)))

      positive_there : pairing (transposed A) s c <ℤ pos 0 → IsNonnegative (reflect (transposed A) s c)
      positive_there lt = negative-stays (transposed A) gt s (pair-root (transposed A) gt (pair-swap A g h)) (pair-nonnegative A g h p) lt

      below : pairing (transposed A) s c <ℤ pos 0 → ((v : List ℕ) → length v < n → IsNonpositive (act A v b) → ⊥) → ⊥
      below lt again =
          let turned : pos 0 <ℤ pairing (transposed A) s (reflect (transposed A) s c)
          = rw (pairing-reflect (transposed A) gt s c) (omega (arith, linears, lt))
          in let v = shorter-sends (transposed A) gt s (root-reflect (transposed A) gt s (pair-root (transposed A) gt (pair-swap A g h)))
          (positive_there lt) turned z.0 over
          in again v.0 (omega (arith, l, z.1, v.1)) (back v.0 (λ i. rw (reflect-reflect (transposed A) gt s c) at (v.2 i)))

  pub positive-agrees : (s : ℕ) {b c : Vector} → IsRootPair A b c → IsNonnegative b → pos 0 <ℤ pairing A s b
      → pos 0 <ℤ pairing (transposed A) s c
  positive-agrees s {b} {c} h p up =
      let w = sending A g (pair-root A g h)
      in by_lt_z (pos 0) (pairing (transposed A) s c) (λ k. k)
      (λ k. absurd (no_words (suc (length w.0)) w.0 s (omega arith) h p up k w.1))

module _ (A : IntegerMatrix) (g : IsAdmissible A) where
  pub negative-agrees : (s : ℕ) {b c : Vector} → IsRootPair A b c → IsNonnegative b → pairing A s b <ℤ pos 0
      → pairing (transposed A) s c <ℤ pos 0
  negative-agrees s {b} {c} h p n =
      let up : pos 0 <ℤ pairing A s (reflect A s b) = rw (pairing-reflect A g s b) (omega (arith, linears, n))
      in let there = positive-agrees A g s (pair-reflect A g s h) (negative-stays A g s (pair-root A g h) p n) up
      in let back : pos 0 <ℤ neg_ℤ (pairing (transposed A) s c)
      = rw (pairing-reflect (transposed A) (IsAdmissible-transposed A g) s c) at there
      in omega (arith, linears, back)

module _ (A : IntegerMatrix) (g : IsAdmissible A) where
  pub zero-agrees : (s : ℕ) {b c : Vector} → IsRootPair A b c → IsNonnegative b → pairing A s b ≡ pos 0
      → pairing (transposed A) s c ≡ pos 0
  zero-agrees s {b} {c} h p e =
      by_lt_z (pos 0) (pairing (transposed A) s c) (λ k. absurd (above k))
      (λ k. by_lt_z (pairing (transposed A) s c) (pos 0) (λ m. absurd (below m)) (λ m. omega (arith, linears, k, m)))
    where
      above : pos 0 <ℤ pairing (transposed A) s c → ⊥
      above k =
          let there = positive-agrees (transposed A) (IsAdmissible-transposed A g) s (pair-swap A g h) (pair-nonnegative A g h p) k
          in omega (arith, linears, there, e)

      below : pairing (transposed A) s c <ℤ pos 0 → ⊥
      below m =
          let there = negative-agrees (transposed A) (IsAdmissible-transposed A g) s (pair-swap A g h) (pair-nonnegative A g h p) m
          in omega (arith, linears, there, e)
