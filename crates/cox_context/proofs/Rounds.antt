-- Two letters t and s in turn before an element x that s lengthens. Where t shortens s x as well, the first m - 1 steps by t, s, t, .. all
-- shorten, and after m - 1 steps more the walk has come to t s x.
use Rattle.std.proofs.Common.{◌≡◌, ℕ, zero, suc, ◌+◌, ◌-◌, ◌≤◌, ◌<◌, Bool, true, false, List, [], ◌∷◌, ◌++◌, length, reverse, cond}
use Rattle.std.proofs.Common.{refl, ap, arith, length-append}
use Rattle.std.proofs.lemmas.List.{append_assoc, reverse-append, append-nil, length-reverse}
use mathlib.Core.List.{reverse-cons}
use Rattle.cox_base.specs.Matrix.{CoxeterMatrix, IsLetter, label}
use Rattle.cox_base.specs.Admissible.{IsCoxeterMatrix, IsAdmissible, HasOrder}
use Rattle.cox_base.specs.IntegerMatrix.{IntegerMatrix, integer_matrix}
use Rattle.cox_base.specs.Element.{SameElement}
use Rattle.cox_base.specs.Length.{word_length}
use Rattle.cox_base.specs.Reduced.{IsReduced}
use Rattle.cox_base.specs.Descents.{IsLeftDescent, IsRightDescent}
use Rattle.cox_base.specs.Bruhat.{IsBelow}
use Rattle.cox_reflect.proofs.Admissible.{IsAdmissible-integer_matrix, order_label}
use Rattle.cox_reflect.proofs.Elements.{same-refl, same-sym, same-trans, same-equal, same-append, same-cons, same-drop_back, same-inverse}
use Rattle.cox_reflect.proofs.Elements.{same-square}
use Rattle.cox_reflect.proofs.Search.{word_length-equal, word_length-least}
use Rattle.cox_reflect.proofs.Lengths.{IsReduced-reverse, word_length-cons, word_length-reverse}
use Rattle.cox_reflect.proofs.Bruhat.{below-cons}
use Rattle.cox_reflect.proofs.RankTwo.{is_even, alternating, alternating-zero, alternating-suc, length-alternating, alternating-last}
use Rattle.cox_reflect.proofs.RankTwo.{alternating-ends, TwoLetters, spread, braids, two_letters, pair_of}
use Rattle.cox_reflect.proofs.Positivity.{Split, split, positive, spread_nonnegative, BraidEnd, braid_end}
use Rattle.cox_reflect.proofs.Roots.{no_descent, left_descent_reverse}
use Rattle.cox_reflect.proofs.Zigzags.{zigzag, zigzag-order}

-- 2 k
abbrev pub double : ℕ → ℕ
double zero = 0
double (suc k) = suc (suc (double k))

pub double-is : (k : ℕ) → double k ≡ k + k
double-is zero = refl
double-is (suc k) = omega (arith, double-is k)

double-even : (k : ℕ) → is_even (double k) ≡ true
double-even zero = refl
double-even (suc k) = rw (double-even k) refl

zigzag-double : (t s k : ℕ) → zigzag t s k ≡ t ∷ alternating (double k) s t
unfolding alternating
zigzag-double t s zero = refl
zigzag-double t s (suc k) = rw (double-even k, zigzag-double t s k) refl

choice : (P : ℕ → Type 0) (b : Bool) (t s : ℕ) → P t → P s → P (cond b t s)
choice P true t s p q = p
choice P false t s p q = q

module _ (A : IntegerMatrix) (g : IsAdmissible A) where
  -- the letters at the end of a word of an inverse can be taken off again
  shortened : (p y : List ℕ) (s t n j : ℕ) → j ≤ n → SameElement A (p ++ alternating n s t) (reverse y)
      → word_length A (alternating j s t ++ y) + j ≤ length p + n
  shortened p y s t n j l e = omega (
    arith,
    word_length-least A g off,
    word_length-reverse A g (alternating j s t ++ y),
    length-append p a.0,
    ap length a.1,
    length-append a.0 (alternating j s t),
    length-alternating n s t,
    length-alternating j s t,
  )
    where
      a : (x : List ℕ) × (alternating n s t ≡ x ++ alternating j s t)
      a = alternating-ends n j s t l

      whole : SameElement A ((p ++ a.0) ++ alternating j s t) (reverse y)
      whole = rw (append_assoc p a.0 (alternating j s t), ← a.1) e

      back : SameElement A (reverse (alternating j s t ++ y) ++ alternating j s t) (reverse y)
      back =
          rw (reverse-append (alternating j s t) y, append_assoc (reverse y) (reverse (alternating j s t)) (alternating j s t))
          (same-trans A g (same-append A g (same-refl A g (reverse y)) (same-inverse A g (alternating j s t)))
          (same-equal A g (append-nil (reverse y))))

      off : SameElement A (p ++ a.0) (reverse (alternating j s t ++ y))
      off = same-drop_back A g (alternating j s t) (same-trans A g whole (same-sym A g back))

  -- what is below an element stays below it under letters that shorten it
  pub steps-below : (x y : List ℕ) (s t j : ℕ) → IsLeftDescent A y s → IsLeftDescent A y t → IsBelow A x y
      → IsBelow A (alternating j s t ++ x) y
  steps-below x y s t zero ds dt b = rw (alternating-zero s t) b
  steps-below x y s t (suc j) ds dt b =
      rw (alternating-suc j s t)
      (below-cons A g (alternating j s t ++ x) y (cond (is_even j) t s)
      (choice (IsLeftDescent A y) (is_even j) t s dt ds) (steps-below x y s t j ds dt b))

  -- so many steps lengthen by no more
  steps-length : (x : List ℕ) (s t i j : ℕ) → word_length A (alternating (j + i) s t ++ x) ≤ word_length A (alternating i s t ++ x) + j
  steps-length x s t i zero = let e : 0 + i ≡ i = omega arith in rw e (omega arith)
  steps-length x s t i (suc j) =
      let e : suc j + i ≡ suc (j + i) = omega arith
      in rw (e, alternating-suc (j + i) s t) (omega (
        arith,
        steps-length x s t i j,
        word_length-cons A g (cond (is_even (j + i)) t s) (alternating (j + i) s t ++ x),
      ))

  -- once round, but for two steps, is t s
  pub steps-round : (x : List ℕ) (s t m k : ℕ) → IsLetter A.rank t → IsLetter A.rank s → HasOrder (A.entry t s) (A.entry s t) m
      → k ≡ double (m - 1) → SameElement A (alternating k s t ++ x) (t ∷ s ∷ x)
  steps-round x s t m k lt ls order e =
      let all : SameElement A (t ∷ alternating (double (m - 1)) s t) (s ∷ []) =
      rw (← zigzag-double t s (m - 1)) (zigzag-order A g t s m lt ls order)
      in let two : SameElement A (alternating (double (m - 1)) s t) (t ∷ s ∷ [])
      = same-trans A g (same-sym A g (same-square A g t (alternating (double (m - 1)) s t))) (same-cons A g t all)
      in rw e (same-append A g two (same-refl A g x))

module _ (c : CoxeterMatrix) (h : IsCoxeterMatrix c) (x : List ℕ) (s t : ℕ) (lt : IsLetter c.rank t) (ls : IsLetter c.rank s)
    (ne : t ≡ s → ⊥) (reduced : IsReduced (integer_matrix c) (s ∷ x)) where
  abbrev A : IntegerMatrix
  A = integer_matrix c

  g : IsAdmissible (integer_matrix c)
  g = IsAdmissible-integer_matrix c h

  -- the inverse of x ends in an alternating word of m - 1 letters
  record IsEnded : Type 0 where
    prefix : List ℕ
    some : 1 ≤ label c t s
    ends : SameElement A (prefix ++ alternating (label c t s - 1) s t) (reverse x)
    size : length prefix + label c t s ≡ length x + 1

  ended : IsLeftDescent A (s ∷ x) t → IsEnded
  ended d = go (two_letters (pair_of A g t s lt ls ne) r.count)
    where
      r : Split A (reverse x ++ s ∷ []) t s
      r = split A g (reverse x) t s (rw (reverse-cons s x) at (IsReduced-reverse A g (s ∷ x) reduced))

      down : IsRightDescent A (reverse x ++ s ∷ []) t
      down = rw (reverse-cons s x) at (left_descent_reverse A g (s ∷ x) t d)

      end : (n : ℕ) → 0 < n → BraidEnd A (reverse x ++ s ∷ []) t s n → label c t s ≡ n → IsEnded
      end zero l b e = absurd (omega arith)
      end (suc n) l b e =
          let last : SameElement A ((b.prefix ++ alternating n s t) ++ s ∷ []) (reverse x ++ s ∷ []) =
          rw (append_assoc b.prefix (alternating n s t) (s ∷ []), ← alternating-last n t s) b.ends_t
          in let less : label c t s - 1 ≡ n = omega (arith, e)
          in record {
            prefix = b.prefix;
            some = omega (arith, e);
            ends = rw less (same-drop_back A g (s ∷ []) last);
            size = omega (arith, e, b.size, length-append (reverse x) (s ∷ []), length-reverse x);
          }

      go : TwoLetters r.count (A.entry t s) (A.entry s t) → IsEnded
      go (spread hx hy) =
          absurd (no_descent A g (reverse x ++ s ∷ []) t lt
          (spread_nonnegative A g (reverse x ++ s ∷ []) t s r lt ls hx hy
          (positive A g r.prefix t lt r.not_s) (positive A g r.prefix s ls r.not_t)) down)
      go (braids n l k order) =
          end n l (braid_end A g (reverse x ++ s ∷ []) t s n r k lt ls order)
          ((order_label c h t s n lt ls ne).0 order).0

  pub descent-label : IsLeftDescent A (s ∷ x) t → 1 ≤ label c t s
  descent-label d = let e = ended d in e.some

  -- where t shortens s x, each of the first m - 1 steps shortens
  pub descent-steps : (j : ℕ) → IsLeftDescent A (s ∷ x) t → j + 1 ≤ label c t s → word_length A (alternating j s t ++ x) + j ≤ length x
  descent-steps j d l =
      let e = ended d
      in omega (arith, shortened A g e.prefix x s t (label c t s - 1) j (omega (arith, l)) e.ends, e.size, e.some)

  label-order : 1 ≤ label c t s → HasOrder (A.entry t s) (A.entry s t) (label c t s)
  label-order some = (order_label c h t s (label c t s) lt ls ne).1 (refl, λ z. omega (arith, some, z))

  -- 2 m - 2 steps lead to t s x
  pub round-end : (k : ℕ) → 1 ≤ label c t s → k + 2 ≡ label c t s + label c t s → SameElement A (alternating k s t ++ x) (t ∷ s ∷ x)
  round-end k some e =
      steps-round A g x s t (label c t s) k lt ls (label-order some) (omega (arith, double-is (label c t s - 1), e, some))

  -- where each of the first m - 1 steps shortens, t shortens s x
  pub steps-descent : (k : ℕ) → k + 1 ≡ label c t s → word_length A (alternating k s t ++ x) + k ≡ length x → IsLeftDescent A (s ∷ x) t
  steps-descent k e down = omega (
    arith,
    reduced,
    down,
    steps-length A g x s t k k,
    word_length-equal A g (round-end (k + k) (omega (arith, e)) (omega (arith, e))),
  )
