-- Bruhat order by lifting, letter by letter of a reduced word.
use Rattle.std.proofs.Common.{◌≡◌, ℕ, Bool, true, false, not, IsTrue, Option, Some, None, is_some, MatchOption, List, [], ◌∷◌}
use Rattle.std.proofs.Common.{◌++◌, length, take, drop, ◌↔◌, refl, arith, slice_index, add-one, drop-cons, sym, ◌∙◌, ◌<◌, ◌+◌, ℤ, pos, ◌<ℤ◌}
use Rattle.std.proofs.lemmas.Bool.{false≢true}
use Rattle.std.proofs.lemmas.List.{take-append-drop}
use Rattle.cox_base.specs.Matrix.{CoxeterMatrix, IsLetter, IsWord}
use Rattle.cox_base.specs.Admissible.{IsCoxeterMatrix, IsAdmissible}
use Rattle.cox_base.specs.IntegerMatrix.{IntegerMatrix, integer_matrix}
use Rattle.cox_base.specs.Reduced.{IsReduced}
use Rattle.cox_base.specs.Descents.{IsLeftDescent}
use Rattle.cox_base.specs.Bruhat.{IsBelow}
use Rattle.cox_reflect.specs.RootHeight.{at_letter}
use Rattle.cox_reflect.specs.Height.{AreHeights, AreOfShortElement, AreShortWith}
use Rattle.cox_reflect.specs.LeastDescent.{IsLeastLeftDescent}
use Rattle.cox_reflect.proofs.Elements.{same-refl, same-sym, same-trans, same-equal, same-square}
use Rattle.cox_reflect.proofs.Search.{normal_form-same, word_length-equal, word_length-length}
use Rattle.cox_reflect.proofs.Lengths.{IsReduced-back}
use Rattle.cox_reflect.proofs.NormalForm.{normal_form-no_descent}
use Rattle.cox_reflect.proofs.Admissible.{IsAdmissible-integer_matrix}
use Rattle.cox_reflect.proofs.HeightsUnderLetters.{AreShortWith-descent, descent_from_heights, heights_at_descent}
use Rattle.cox_reflect.proofs.FormsByDescents.{Prepends}
use Rattle.cox_reflect.proofs.Bruhat.{below-same, below-refl, below-length, lift_down, lift_up}

-- y <= w is settled by the order of what is left of y and of w, and the heights are those of what is left of y
pub record IsLifted (A : IntegerMatrix) (y w rest : List ℕ) (heights : List ℤ) : Type 0 where
  pub left : List ℕ
  pub heights_of : AreHeights A left heights
  pub settles : IsBelow A y w ↔ IsBelow A left rest

-- so it is for each y with the first heights, and what is left of a short element is short
pub record AreLifted (A : IntegerMatrix) (w rest : List ℕ) (first heights : List ℤ) : Type 0 where
  pub each : (y : List ℕ) → AreHeights A y first → IsLifted A y w rest heights
  pub short : (n : ℕ) → AreOfShortElement A n first → AreOfShortElement A n heights

module _ (A : IntegerMatrix) (g : IsAdmissible A) where
  -- the first letter of a reduced word is a left descent
  pub first-descent : (s : ℕ) (v : List ℕ) → IsReduced A (s ∷ v) → IsLeftDescent A (s ∷ v) s
  first-descent s v r = omega (arith, r, word_length-equal A g (same-square A g s v), word_length-length A g v)

  pub below-drop : (s : ℕ) (x v : List ℕ) → IsBelow A x (s ∷ s ∷ v) ↔ IsBelow A x v
  below-drop s x v = (
    λ b. below-same A g (same-refl A g x) (same-square A g s v) b,
    λ b. below-same A g (same-refl A g x)
        (same-sym A g (same-square A g s v)) b,
  )

  -- s shortens what is left of y: it goes
  IsLifted-down : (y w prefix : List ℕ) (s : ℕ) (v : List ℕ) (heights : List ℤ) (c : IsLifted A y w prefix heights) → prefix ≡ s ∷ v
      → IsReduced A prefix → IsLeftDescent A c.left s
      → (next : List ℤ) → AreHeights A (s ∷ c.left) next → IsLifted A y w v next
  IsLifted-down y w prefix s v heights c e r d next a =
      let before : IsBelow A y w ↔ IsBelow A c.left (s ∷ v) = rw e at c.settles
      in let step = lift_down A g c.left (s ∷ v) s (first-descent s v (rw e at r)) d
      in record {
        left = s ∷ c.left;
        heights_of = a;
        settles = (λ b. (below-drop s (s ∷ c.left) v).0 (step.0 (before.0 b)), λ b. before.1 (step.1 ((below-drop s (s ∷ c.left) v).1 b)));
      }

  -- it does not: it stays
  IsLifted-up : (y w prefix : List ℕ) (s : ℕ) (v : List ℕ) (heights : List ℤ) (c : IsLifted A y w prefix heights) → prefix ≡ s ∷ v
      → IsReduced A prefix → (IsLeftDescent A c.left s → ⊥)
      → IsLifted A y w v heights
  IsLifted-up y w prefix s v heights c e r none =
      let before : IsBelow A y w ↔ IsBelow A c.left (s ∷ v) = rw e at c.settles
      in let step = lift_up A g c.left (s ∷ v) s (first-descent s v (rw e at r)) none
      in record {
        left = c.left;
        heights_of = c.heights_of;
        settles = (λ b. (below-drop s c.left v).0 (step.0 (before.0 b)), λ b. before.1 (step.1 ((below-drop s c.left v).1 b)));
      }

  -- at the end the identity alone is below
  IsLifted-yes : (y w : List ℕ) (heights : List ℤ) (c : IsLifted A y w [] heights) → ((t : ℕ) → IsLeftDescent A c.left t → ⊥)
      → IsBelow A y w
  IsLifted-yes y w heights c none =
      c.settles.1 (below-refl A g (same-trans A g (same-sym A g (normal_form-same A g c.left))
      (same-equal A g (normal_form-no_descent A g c.left none))))

  IsLifted-no : (y w : List ℕ) (heights : List ℤ) (c : IsLifted A y w [] heights) (s : ℕ) → IsLeftDescent A c.left s → IsBelow A y w → ⊥
  IsLifted-no y w heights c s d b = omega (arith, d, below-length A g (c.settles.0 b), word_length-length A g [])

  -- where no letter of w is to come, the answer is whether nothing is left of y
  pub IsLifted-answer : (y w rest : List ℕ) (heights : List ℤ) (c : IsLifted A y w rest heights) → rest ≡ []
      → (found : Option ℕ) (answer : Bool)
      → MatchOption found ((t : ℕ) → IsLeftDescent A c.left t → ⊥) (IsLeastLeftDescent A c.left) → is_some found ≡ not answer
      → IsTrue answer ↔ IsBelow A y w
  IsLifted-answer y w rest heights c e found answer m k = go found answer m k
    where
      end : IsLifted A y w [] heights
      end = record { left = c.left; heights_of = c.heights_of; settles = rw e at c.settles }

      go : (found : Option ℕ) (answer : Bool) → MatchOption found ((t : ℕ) → IsLeftDescent A c.left t → ⊥) (IsLeastLeftDescent A c.left)
          → is_some found ≡ not answer
          → IsTrue answer ↔ IsBelow A y w
      go None true none k = (λ _. IsLifted-yes y w heights end none, λ _. refl)
      go None false none k = absurd (cc)
      go (Some s) true d k = absurd (cc)
      go (Some s) false d k = (λ t. absurd (cc), λ b. absurd (IsLifted-no y w heights end s d.descent b))

  -- what is left of a reduced word is reduced
  pub IsReduced-drop : (k : ℕ) (u : List ℕ) → IsReduced A u → IsReduced A (drop k u)
  IsReduced-drop k u r = let e : take k u ++ drop k u ≡ u = take-append-drop k u in IsReduced-back A g (take k u) (drop k u) (rw e r)

-- ---- a turn of the loop over the letters of a reduced word

module _ (x : CoxeterMatrix) (matrix : IsCoxeterMatrix x) (form : List ℕ) (word : IsWord x.rank form)
    (is_reduced : IsReduced (integer_matrix x) form) (k : ℕ) (more : k < length form) where
  g : IsAdmissible (integer_matrix x)
  g = IsAdmissible-integer_matrix x matrix

  pub turn-letter : IsLetter x.rank (slice_index form k)
  turn-letter = word k 0 more

  prefix : drop k form ≡ slice_index form k ∷ drop (k + 1) form
  prefix = rw (add-one, drop-cons form k 0)

  reduced : IsReduced (integer_matrix x) (drop k form)
  reduced = IsReduced-drop (integer_matrix x) g k form is_reduced

  module _ (first heights : List ℤ) (c : AreLifted (integer_matrix x) form (drop k form) first heights) (answer : Bool)
      (tells : IsTrue answer ↔ (at_letter heights (slice_index form k) <ℤ pos 0)) where
    descent : (u : List ℕ) → AreHeights (integer_matrix x) u heights
        → IsTrue answer ↔ IsLeftDescent (integer_matrix x) u (slice_index form k)
    descent u a = (
      λ t. descent_from_heights (integer_matrix x) g u heights (slice_index form k) a turn-letter (tells.0 t),
      λ d. tells.1 (heights_at_descent (integer_matrix x) g u heights (slice_index form k) a d),
    )

    pub turn-room : IsTrue answer → (n : ℕ) → AreOfShortElement (integer_matrix x) n first
        → AreShortWith (integer_matrix x) n (slice_index form k) heights
    turn-room taken n short =
        let e = c.short n short
        in AreShortWith-descent (integer_matrix x) g n e.word (slice_index form k) heights
        ((descent e.word e.heights_of).0 taken) e.short e.heights_of

    pub turn-down : IsTrue answer → (next : List ℤ) → Prepends (integer_matrix x) (slice_index form k) heights next
        → AreLifted (integer_matrix x) form (drop (k + 1) form) first next
    turn-down taken next moves = record {
      each = λ y a.
          let l = c.each y a
          in IsLifted-down (integer_matrix x) g y form (drop k form) (slice_index form k) (drop (k + 1) form) heights l prefix reduced
          ((descent l.left l.heights_of).0 taken) next (moves l.left l.heights_of);
      short = λ n short.
          let e = c.short n short
          in let d = (descent e.word e.heights_of).0 taken
          in record { word = slice_index form k ∷ e.word; heights_of = moves e.word e.heights_of; short = omega (arith, d, e.short) };
    }

    pub turn-up : answer ≡ false → AreLifted (integer_matrix x) form (drop (k + 1) form) first heights
    turn-up other = record {
      each = λ y a.
          let l = c.each y a
          in IsLifted-up (integer_matrix x) g y form (drop k form) (slice_index form k) (drop (k + 1) form) heights l prefix reduced
          (λ d. absurd (false≢true (sym other ∙ (descent l.left l.heights_of).1 d)));
      short = c.short;
    }
