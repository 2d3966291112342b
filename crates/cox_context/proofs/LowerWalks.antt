-- Walks from a member x by two letters t and s in turn, where s x is no member: down while the letters shorten, and up on the other side.
use Rattle.std.proofs.Common.{◌≡◌, ℕ, suc, ◌+◌, ◌≤◌, ◌<◌, cond, List, ◌∷◌, ◌++◌, length, Contains, Some, refl, ap}
use Rattle.std.proofs.Common.{sym, ◌∙◌, ⊎_elim, arith}
use Rattle.cox_base.specs.Matrix.{CoxeterMatrix, IsLetter, label}
use Rattle.cox_base.specs.IntegerMatrix.{IntegerMatrix, integer_matrix}
use Rattle.cox_base.specs.Admissible.{IsCoxeterMatrix, IsAdmissible}
use Rattle.cox_base.specs.Element.{SameElement}
use Rattle.cox_base.specs.ShortLex.{normal_form}
use Rattle.cox_base.specs.Length.{word_length}
use Rattle.cox_base.specs.Reduced.{IsReduced}
use Rattle.cox_base.specs.Descents.{IsLeftDescent}
use Rattle.cox_base.specs.Bruhat.{IsBelow}
use Rattle.cox_reflect.proofs.Admissible.{IsAdmissible-integer_matrix}
use Rattle.cox_reflect.proofs.Elements.{same-refl, same-sym, same-trans, same-cons, same-square}
use Rattle.cox_reflect.proofs.Search.{normal_form-same, normal_form-equal, word_length-equal}
use Rattle.cox_reflect.proofs.Lengths.{word_length-is, word_length-cons, cons-word_length}
use Rattle.cox_reflect.proofs.Deletion.{left_length}
use Rattle.cox_reflect.proofs.Bruhat.{below-same, below-ascent}
use Rattle.cox_reflect.proofs.OrderByLifting.{first-descent}
use Rattle.cox_reflect.proofs.RankTwo.{is_even, alternating, alternating-zero, alternating-suc, cond_not}
use Rattle.cox_reflect.proofs.NormalElements.{element-normal_form}
use Rattle.cox_context.specs.Closed.{IsClosed}
use Rattle.cox_context.specs.Numbers.{word_at}
use Rattle.cox_context.specs.Shifts.{IsLower}
use Rattle.cox_context.specs.Growth.{IsOutside}
use Rattle.cox_context.proofs.Shifting.{element-at, length-at, descent-member}
use Rattle.cox_context.proofs.Rounds.{steps-below, descent-steps, steps-descent, round-end, descent-label}

-- after j steps from the member i the walk has come to the member at; the next letters are these
pub record IsStep (A : IntegerMatrix) (words : List (List ℕ)) (s t i j at letter other : ℕ) : Type 0 where
  pub within : at < length words
  pub same : SameElement A (word_at words at) (alternating j s t ++ word_at words i)
  pub turn : letter ≡ cond (is_even j) t s
  pub next : other ≡ cond (is_even j) s t

module _ (A : IntegerMatrix) (g : IsAdmissible A) (words : List (List ℕ)) (s t i : ℕ) where
  pub step-start : i < length words → IsStep A words s t i 0 i t s
  step-start l = record {
    within = l;
    same = rw (alternating-zero s t) (same-refl A g (word_at words i));
    turn = refl;
    next = refl;
  }

  -- the letter and the member are the next step
  step-same : (j at letter other : ℕ) → IsStep A words s t i j at letter other
      → SameElement A (letter ∷ word_at words at) (alternating (suc j) s t ++ word_at words i)
  step-same j at letter other h = rw (alternating-suc j s t, ← h.turn) (same-cons A g letter h.same)

  pub step-next : (j at letter other k n : ℕ) → n ≡ suc j → IsStep A words s t i j at letter other → k < length words
      → word_at words k ≡ normal_form A (letter ∷ word_at words at) → IsStep A words s t i n k other letter
  step-next j at letter other k n q h l e = record {
    within = l;
    same = rw (q, e) (same-trans A g (normal_form-same A g (letter ∷ word_at words at)) (step-same j at letter other h));
    turn = rw q (h.next ∙ sym (cond_not (is_even j) t s));
    next = rw q (h.turn ∙ sym (cond_not (is_even j) s t));
  }

-- s lengthens the member x with the number i
pub record IsAscent (A : IntegerMatrix) (words : List (List ℕ)) (s i : ℕ) : Type 0 where
  pub reduced : IsReduced A (s ∷ word_at words i)
  pub descent : IsLeftDescent A (s ∷ word_at words i) s
  pub above : IsBelow A (word_at words i) (s ∷ word_at words i)

module _ (c : CoxeterMatrix) (m : IsCoxeterMatrix c) (words : List (List ℕ)) (closed : IsClosed (integer_matrix c) words) (s i : ℕ)
    (ls : IsLetter c.rank s) (inside : i < length words)
    (new : Contains words (normal_form (integer_matrix c) (s ∷ word_at words i)) → ⊥) where
  abbrev A : IntegerMatrix
  A = integer_matrix c

  g : IsAdmissible (integer_matrix c)
  g = IsAdmissible-integer_matrix c m

  pub ascent : IsAscent (integer_matrix c) words s i
  ascent = record {
    reduced = reduced;
    descent = first-descent A g s (word_at words i) reduced;
    above = below-ascent A g (word_at words i) s ls (omega (arith, longer));
  }
    where
      longer : word_length A (s ∷ word_at words i) ≡ word_length A (word_at words i) + 1
      longer = ⊎_elim (λ up. omega (arith, up)) (λ down. absurd (new (descent-member A g words closed s i inside (omega (arith, down)))))
          (left_length A g s (word_at words i) ls)

      reduced : IsReduced A (s ∷ word_at words i)
      reduced = omega (arith, longer, length-at A g words closed i inside)

  -- the shift by s itself
  pub own-lower : IsLower A words (s ∷ word_at words i) s (Some i)
  own-lower = (
    ascent.descent,
    inside,
    sym (element-at A g words closed i inside).normal ∙ normal_form-equal A g (same-sym A g (same-square A g s (word_at words i))),
  )

  module _ (t : ℕ) (lt : IsLetter c.rank t) (ne : t ≡ s → ⊥) where
    -- no order: t does not shorten s x
    pub no_order : label c t s ≡ 0 → IsLeftDescent A (s ∷ word_at words i) t → ⊥
    no_order e d = omega (arith, e, descent-label c m (word_at words i) s t lt ls ne ascent.reduced d)

    -- on the way down a letter that does not shorten shows that t does not shorten s x
    pub down-none : (j at letter other : ℕ) → IsStep A words s t i j at letter other → length (word_at words at) + j ≡ length
        (word_at words i)
        → j + 1 < label c t s → (IsLeftDescent A (word_at words at) letter → ⊥) → IsLeftDescent A (s ∷ word_at words i) t → ⊥
    down-none j at letter other h size less none d =
        let e : suc j ≡ j + 1 = omega arith
        in let steps = descent-steps c m (word_at words i) s t lt ls ne ascent.reduced (suc j) d (omega (arith, less))
        in none (omega (
          arith,
          steps,
          word_length-equal A g (step-same A g words s t i j at letter other h),
          size,
          length-at A g words closed at h.within,
        ))

    -- one that shortens leads on
    pub down-next : (j at letter other k : ℕ) → IsStep A words s t i j at letter other
        → length (word_at words at) + j ≡ length (word_at words i) → IsLeftDescent A (word_at words at) letter
        → word_at words k ≡ normal_form A (letter ∷ word_at words at) → length (word_at words k) + (j + 1) ≡ length (word_at words i)
    down-next j at letter other k h size d e = omega (
      arith,
      size,
      d,
      cons-word_length A g letter (word_at words at),
      length-at A g words closed at h.within,
      word_length-is A (letter ∷ word_at words at),
      ap length e,
    )

    -- after m - 1 steps down t shortens s x
    pub down-end : (j at letter other : ℕ) → IsStep A words s t i j at letter other → length (word_at words at) + j ≡ length
        (word_at words i)
        → j + 1 ≡ label c t s → IsLeftDescent A (s ∷ word_at words i) t
    down-end j at letter other h size all =
        steps-descent c m (word_at words i) s t lt ls ne ascent.reduced j all
        (omega (arith, size, word_length-equal A g h.same, length-at A g words closed at h.within))

    -- on the way up each element is below s x, and no longer than x
    pub up-none : (j at letter other : ℕ) → IsStep A words s t i j at letter other → length (word_at words at) + 1 ≤ length
        (word_at words i)
        → IsLeftDescent A (s ∷ word_at words i) t → (Contains words (normal_form A (letter ∷ word_at words at)) → ⊥)
        → IsOutside A words (s ∷ word_at words i) (length (word_at words i))
    up-none j at letter other h short d none = record {
      word = normal_form A (letter ∷ word_at words at);
      element = element-normal_form A g (letter ∷ word_at words at);
      below = below-same A g (same-sym A g (same-trans A g (normal_form-same A g (letter ∷ word_at words at))
          (step-same A g words s t i j at letter other h))) (same-refl A g (s ∷ word_at words i))
          (steps-below A g (word_at words i) (s ∷ word_at words i) s t (suc j) ascent.descent d ascent.above);
      short = omega (
        arith,
        short,
        word_length-cons A g letter (word_at words at),
        length-at A g words closed at h.within,
        word_length-is A (letter ∷ word_at words at),
      );
      absent = none;
    }

    pub up-next : (j at letter other k : ℕ) → IsStep A words s t i j at letter other
        → word_at words k ≡ normal_form A (letter ∷ word_at words at) → length (word_at words k) ≤ length (word_at words at) + 1
    up-next j at letter other k h e = omega (
      arith,
      word_length-cons A g letter (word_at words at),
      length-at A g words closed at h.within,
      word_length-is A (letter ∷ word_at words at),
      ap length e,
    )

    -- and after m - 1 steps up the walk has come to t s x
    pub up-end : (j at letter other : ℕ) → IsStep A words s t i j at letter other → 1 ≤ label c t s → j + 2 ≡ label c t s + label c t s
        → IsLeftDescent A (s ∷ word_at words i) t → IsLower A words (s ∷ word_at words i) t (Some at)
    up-end j at letter other h some all d = (
      d,
      h.within,
      sym (element-at A g words closed at h.within).normal
          ∙ normal_form-equal A g (same-trans A g h.same (round-end c m (word_at words i) s t lt ls ne ascent.reduced j some all)),
    )
