-- Whether a letter put behind a reduced word makes it longer, read off the roots that e(s) goes through, from the last letter of the word
-- to
-- the first: at the simple root of a letter it is exchanged for that letter; at a step with a product of at least 4, and where the word
-- ends
-- at a positive root, the longer word is reduced.
use Rattle.std.proofs.Common.{ℕ, List, [], ◌∷◌, ◌++◌, pos, ◌*ℤ◌, ◌≤ℤ◌, ◌<ℤ◌, ⊎_elim, arith}
use Rattle.std.proofs.lemmas.List.{length-append, append_assoc}
use Rattle.cox_base.specs.Matrix.{IsLetter}
use Rattle.cox_base.specs.IntegerMatrix.{IntegerMatrix}
use Rattle.cox_base.specs.Admissible.{IsAdmissible}
use Rattle.cox_base.specs.Reduced.{IsReduced}
use Rattle.cox_reflect.specs.Action.{Vector, simple_root, pairing}
use Rattle.cox_reflect.specs.WordAction.{act, IsNonnegative, IsNonpositive}
use Rattle.cox_reflect.specs.Transpose.{transposed}
use Rattle.cox_reflect.proofs.Action.{act-cons, act-append}
use Rattle.cox_lemmas.proofs.Ring.{linears}
use Rattle.cox_reflect.proofs.Search.{word_length-length}
use Rattle.cox_reflect.proofs.Lengths.{IsReduced-prefix}
use Rattle.cox_reflect.proofs.Roots.{SignOf, longer, shorter, sign_of, root-apart}
use Rattle.cox_small.specs.SmallRoots.{IsSmall}
use Rattle.cox_small.proofs.RootPairs.{root-has_sign, root-act, root-simple}
use Rattle.cox_small.proofs.ElementaryRoots.{small-pair, small-positive}
use Rattle.cox_small.proofs.Signs.{pairing-letter}
use Rattle.cox_small.proofs.Domination.{out-dominates}

module _ (A : IntegerMatrix) (g : IsAdmissible A) where
  -- w e(s) is positive: the longer word is reduced
  pub nonnegative-reduced : (w : List ℕ) (s : ℕ) → IsLetter A.rank s → IsReduced A w → IsNonnegative (act A w (simple_root s))
      → IsReduced A (w ++ s ∷ [])
  nonnegative-reduced w s l h p = go (sign_of A g w s l)
    where
      go : SignOf A w s → IsReduced A (w ++ s ∷ [])
      go (longer e q) = omega (arith, h, e, length-append w (s ∷ []))
      go (shorter e n) = absurd (root-apart A g w s p n)

  -- and a word whose last letter can be taken off takes that simple root to a positive one
  pub reduced-positive : (w : List ℕ) (s : ℕ) → IsLetter A.rank s → IsReduced A (w ++ s ∷ []) → IsNonnegative (act A w (simple_root s))
  reduced-positive w s l h = go (sign_of A g w s l)
    where
      go : SignOf A w s → IsNonnegative (act A w (simple_root s))
      go (longer e q) = q
      go (shorter e n) = absurd (omega (arith, e, h, word_length-length A g w, length-append w (s ∷ [])))

  -- at the front
  pub read-front : (w : List ℕ) (s : ℕ) {c : Vector} → IsLetter A.rank s → IsReduced A w → IsSmall A (act A w (simple_root s)) c
      → IsReduced A (w ++ s ∷ [])
  read-front w s l h small = nonnegative-reduced w s l h (small-positive A g small)

  -- at a step out of the small roots
  pub read-out : (front behind : List ℕ) (q s : ℕ) {c : Vector} → IsLetter A.rank s → IsReduced A (front ++ q ∷ behind)
      → IsSmall A (act A behind (simple_root s)) c
      → pairing A q (act A behind (simple_root s)) <ℤ pos 0
      → pos 4 ≤ℤ (pairing A q (act A behind (simple_root s)) *ℤ pairing (transposed A) q c)
      → IsReduced A ((front ++ q ∷ behind) ++ s ∷ [])
  read-out front behind q s {c} l h small n far =
      nonnegative-reduced (front ++ q ∷ behind) s l h
      (⊎_elim (λ p. p) (λ m. absurd (never m)) (root-has_sign A g (root-act A g (front ++ q ∷ behind) (root-simple A g s l))))
    where
      lq : IsLetter A.rank q
      lq = pairing-letter A g q (act A behind (simple_root s)) (λ z. omega (arith, linears, z, n))

      up : IsNonnegative (act A front (simple_root q))
      up = reduced-positive front q lq (IsReduced-prefix A g (front ++ q ∷ []) behind (rw (append_assoc front (q ∷ []) behind) h))

      never : IsNonpositive (act A (front ++ q ∷ behind) (simple_root s)) → ⊥
      never m =
          let d = out-dominates A g q (small-pair A g small) (small-positive A g small) n far
          in root-apart A g front q up
          (d.follows front (λ i. rw (act-append A front (q ∷ behind) (simple_root s), act-cons A q behind (simple_root s)) at (m i)))
