-- Whether a new element is below the top: by a letter that shortens both, or along the word of the top.
use Rattle.std.proofs.Common.{◌≡◌, ℕ, ◌<◌, ◌≤◌, Bool, true, List, [], ◌∷◌, length, Contains, Option, None, Some, ◌↔◌, IsTrue, refl, ap, sym}
use Rattle.std.proofs.Common.{◌∙◌, arith}
use Rattle.std.proofs.Common.{get_or, eqb-true, eqb}
use Rattle.std.specs.Option.{option_eq, option_or}
use Rattle.std.proofs.lemmas.Bool.{eq-eqb}
use Rattle.std.proofs.lemmas.List.{get_or_default}
use Rattle.arrayvec.specs.ArrayVec.{ArrayVec}
use Rattle.cox_base.specs.Matrix.{IsWord}
use Rattle.cox_base.specs.IntegerMatrix.{IntegerMatrix}
use Rattle.cox_base.specs.Admissible.{IsAdmissible}
use Rattle.cox_base.specs.Descents.{IsLeftDescent, left_descents}
use Rattle.cox_base.specs.Reduced.{IsReduced}
use Rattle.cox_base.specs.Bruhat.{IsBelow}
use Rattle.cox_reflect.proofs.Elements.{same-refl, same-sym, same-trans, same-cons, same-square, same-equal}
use Rattle.cox_reflect.proofs.Search.{normal_form-same, word_length-length}
use Rattle.cox_reflect.proofs.Bruhat.{below-same, below-refl, below-cons, below-length, lift_down, lift_up}
use Rattle.cox_reflect.proofs.Roots.{left_descent-letter}
use Rattle.cox_reflect.proofs.OrderByLifting.{first-descent, below-drop}
use Rattle.cox_context.specs.Closed.{IsClosed}
use Rattle.cox_context.specs.Numbers.{word_at}
use Rattle.cox_context.specs.Shifts.{entry, IsLower}
use Rattle.cox_context.specs.Growth.{AreLower, AreBelowTop, remaining_word}
use Rattle.cox_context.proofs.Ideals.{contained-descent}
use Rattle.cox_context.proofs.Shifting.{length-at, first-member}

-- y ≤ w is settled by what is left of y, which is y itself or a member, and by what is left of the word of w
abbrev pub IsLeft : IntegerMatrix → List (List ℕ) → List ℕ → List ℕ → List ℕ → Option ℕ → Type 0
IsLeft A words y w rest None = IsBelow A y w ↔ IsBelow A y rest
IsLeft A words y w rest (Some i) = (i < length words) × (IsBelow A y w ↔ IsBelow A (word_at words i) rest)

-- a comparison with Some n
option_tells : (at : Option ℕ) (n : ℕ) → (option_eq eqb at (Some n) ≡ true) ↔ (at ≡ Some n)
option_tells None n = (λ e. absurd (cc), λ e. absurd (cc))
option_tells (Some i) n =
    (λ e. ap (λ (k : ℕ). Some k) (eqb-true i n e), λ e. let q : i ≡ n = cc in eq-eqb i n q)

module _ (A : IntegerMatrix) (g : IsAdmissible A) (words : List (List ℕ)) where
  -- t shortens x: it is taken off both
  lift-off : (x : List ℕ) (t k : ℕ) (v : List ℕ) → IsReduced A (t ∷ v) → IsLower A words x t (Some k)
      → IsBelow A x (t ∷ v) ↔ IsBelow A (word_at words k) v
  lift-off x t k v r (d, inside, is) =
      let step = lift_down A g x (t ∷ v) t (first-descent A g t v r) d
      in let same = same-trans A g (same-equal A g is) (normal_form-same A g (t ∷ x))
      in (
        λ b. below-same A g (same-sym A g same) (same-refl A g v) ((below-drop A g t (t ∷ x) v).0 (step.0 b)),
        λ b. step.1 ((below-drop A g t (t ∷ x) v).1 (below-same A g same (same-refl A g v) b)),
      )

  -- it does not: it is taken off the word of w alone
  lift-by : (x : List ℕ) (t : ℕ) (v : List ℕ) → IsReduced A (t ∷ v) → IsLower A words x t None → IsBelow A x (t ∷ v) ↔ IsBelow A x v
  lift-by x t v r none =
      let step = lift_up A g x (t ∷ v) t (first-descent A g t v r) none
      in (λ b. (below-drop A g t x v).0 (step.0 b), λ b. step.1 ((below-drop A g t x v).1 b))

  pub left-start : (y w : List ℕ) → IsLeft A words y w w None
  left-start y w = (λ b. b, λ b. b)

  -- the letter t of the word of w, and the shift by it
  pub left-next : (y w rest v : List ℕ) (t : ℕ) (at shorter : Option ℕ) → rest ≡ t ∷ v → IsReduced A rest → IsLeft A words y w rest at
      → IsLower A words (remaining_word words y at) t shorter → IsLeft A words y w v (option_or shorter at)
  left-next y w rest v t None None e r h none =
      let step = lift-by y t v (rw e at r) none in let old = rw e at h in (λ b. step.0 (old.0 b), λ b. old.1 (step.1 b))
  left-next y w rest v t None (Some k) e r h some =
      let step = lift-off y t k v (rw e at r) some in let old = rw e at h in (some.1, (λ b. step.0 (old.0 b), λ b. old.1 (step.1 b)))
  left-next y w rest v t (Some i) None e r h none =
      let step = lift-by (word_at words i) t v (rw e at r) none
      in let old = rw e at h.1
      in (h.0, (λ b. step.0 (old.0 b), λ b. old.1 (step.1 b)))
  left-next y w rest v t (Some i) (Some k) e r h some =
      let step = lift-off (word_at words i) t k v (rw e at r) some
      in let old = rw e at h.1
      in (some.1, (λ b. step.0 (old.0 b), λ b. old.1 (step.1 b)))

  -- at the end the identity alone is below
  pub left-end : (y w rest : List ℕ) (s : ℕ) (at : Option ℕ) → IsClosed A words → IsLeftDescent A y s → rest ≡ []
      → IsLeft A words y w rest at
      → (at ≡ Some 0) ↔ IsBelow A y w
  left-end y w rest s None closed d e h = (
    λ q. absurd (cc),
    λ b. absurd (omega (arith, d, below-length A g (rw e at (h.0 b)), word_length-length A g [])),
  )
  left-end y w rest s (Some i) closed d e h = (
    λ q. let zero : i ≡ 0 = cc in h.1.1 (rw (e, zero, first-member A g words closed) (below-refl A g (same-refl A g []))),
    λ b. ap (λ (k : ℕ). Some k) (only (rw e at (h.1.0 b))),
  )
    where
      empty : (n : List ℕ) → length n ≤ 0 → n ≡ []
      empty [] l = refl
      empty (s ∷ x) l = absurd (omega (arith, l))

      only : IsBelow A (word_at words i) [] → i ≡ 0
      only b =
          closed.distinct i 0 h.0 (omega (arith, closed.some))
          (empty (word_at words i) (omega (arith, below-length A g b, length-at A g words closed i h.0, word_length-length A g []))
          ∙ sym (first-member A g words closed))

  -- a letter that shortens both y and w, where t y is below w
  pub shared-below : (y w : List ℕ) (t k : ℕ) → IsLeftDescent A w t → IsLower A words y t (Some k) → IsBelow A (word_at words k) w
      → IsBelow A y w
  shared-below y w t k d (e, inside, is) b =
      below-same A g (same-trans A g (same-cons A g t (same-trans A g (same-equal A g is) (normal_form-same A g (t ∷ y))))
      (same-square A g t y))
      (same-refl A g w) (below-cons A g (word_at words k) w t d b)

  -- a letter of the top's descents that shortens y, where the members are below the top
  pub shared : (y descents lower : List ℕ) (top : ArrayVec ℕ) → IsAdmissible A → AreLower A words y lower
      → descents ≡ left_descents A top.items
      → AreBelowTop A (Some top) words → (t : ℕ) × (k : ℕ) × Contains descents t × (entry A.rank lower t 0 ≡ Some k)
      → IsBelow A y top.items
  shared y descents lower top g h e below (t, k, c, some) =
      let d : IsLeftDescent A top.items t = contained-descent A g top.items t (rw e at c)
      in let found : IsLower A words y t (Some k) = rw some at (h.each t (left_descent-letter A g top.items t d))
      in shared-below y top.items t k d found (below k found.1)

  -- the comparison at the end
  pub left-answer : (y w rest : List ℕ) (s : ℕ) (at : Option ℕ) (answer : Bool) → answer ≡ option_eq eqb at (Some 0) → IsClosed A words
      → IsLeftDescent A y s → rest ≡ [] → IsLeft A words y w rest at → IsTrue answer ↔ IsBelow A y w
  left-answer y w rest s at answer q closed d e h =
      let end = left-end y w rest s at closed d e h
      in (λ yes. end.0 ((option_tells at 0).0 (sym q ∙ yes)), λ b. q ∙ (option_tells at 0).1 (end.1 b))

-- descents are letters
pub descents-word : (A : IntegerMatrix) → IsAdmissible A → (w : List ℕ) → IsWord A.rank (left_descents A w)
descents-word A g w k d l =
    left_descent-letter A g w (get_or (left_descents A w) k d)
    (contained-descent A g w (get_or (left_descents A w) k d) (k, l, get_or_default (left_descents A w) k _ d l))
