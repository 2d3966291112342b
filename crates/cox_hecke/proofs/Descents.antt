-- A letter on either side of a word: whether it shortens it, and what that says of lengths.
use Rattle.std.proofs.Common.{◌≡◌, ℕ, suc, ◌+◌, ◌<◌, ◌≤◌, Bool, true, false, not, List, [], ◌∷◌, ◌++◌, reverse, length, ◌⊎◌, inl, inr}
use Rattle.std.proofs.Common.{⊎_elim}
use Rattle.std.proofs.Common.{refl, ap, sym, ◌∙◌, arith}
use Rattle.std.specs.Prelude.{nat_lt}
use Rattle.std.proofs.lemmas.Bool.{cases_lt}
use Rattle.std.proofs.lemmas.Bool.Decides.{nat_tests}
use Rattle.std.proofs.lemmas.List.{reverse-reverse}
use mathlib.Core.List.{reverse-cons}
use Rattle.cox_base.specs.Matrix.{IsLetter}
use Rattle.cox_base.specs.IntegerMatrix.{IntegerMatrix}
use Rattle.cox_base.specs.Admissible.{IsAdmissible}
use Rattle.cox_base.specs.Element.{SameElement}
use Rattle.cox_base.specs.ShortLex.{normal_form}
use Rattle.cox_base.specs.Length.{word_length}
use Rattle.cox_base.specs.Reduced.{IsReduced}
use Rattle.cox_base.specs.Descents.{IsLeftDescent, IsRightDescent}
use Rattle.cox_reflect.proofs.Elements.{same-sym, same-trans, same-cons, same-push, same-square, same-push_twice, same-equal}
use Rattle.cox_reflect.proofs.Search.{normal_form-same, word_length-equal, word_length-length}
use Rattle.cox_reflect.proofs.Lengths.{word_length-is, word_length-cons_reverse, word_length-reverse, IsReduced-tail}
use Rattle.cox_reflect.proofs.Roots.{left_descent-letter, left_descent_reverse}
use Rattle.cox_reflect.proofs.Deletion.{left_length, right_length, sides_same}
use Rattle.cox_rpoly.specs.InverseOperators.{shortens_left}
use Rattle.cox_hecke.specs.Operators.{shortens_right}

-- from length m to length n, down by one or up by one
abbrev pub Moves : Bool → ℕ → ℕ → Type 0
Moves true m n = m ≡ suc n
Moves false m n = n ≡ suc m

moves : (m n : ℕ) → (n ≡ m + 1) ⊎ (m ≡ n + 1) → Moves (nat_lt n m) m n
moves m n c = go (nat_lt n m) refl c
  where
    go : (b : Bool) → nat_lt n m ≡ b → (n ≡ m + 1) ⊎ (m ≡ n + 1) → Moves b m n
    go true e (inl u) = absurd (grind (arith, nat_tests))
    go true e (inr d) = omega arith
    go false e (inl u) = omega arith
    go false e (inr d) = absurd (grind (arith, nat_tests))

Moves-back : (b c : Bool) (m n m' : ℕ) → Moves b m n → Moves c n m' → m' ≡ m → c ≡ not b
Moves-back true true m n m' p q e = absurd (omega arith)
Moves-back true false m n m' p q e = refl
Moves-back false true m n m' p q e = refl
Moves-back false false m n m' p q e = absurd (omega arith)

pub nat_lt-yes : {m n : ℕ} → m < n → nat_lt m n ≡ true
nat_lt-yes {m} {n} l = grind (arith, nat_tests)

pub yes-nat_lt : (m n : ℕ) → nat_lt m n ≡ true → m < n
yes-nat_lt m n l = grind (arith, nat_tests)

pub nat_lt-no : (m n : ℕ) → (m < n → ⊥) → nat_lt m n ≡ false
nat_lt-no m n l = ⊎_elim (λ h. absurd (l h)) (λ (h : n ≤ m). grind (arith, nat_tests)) (cases_lt m n)

pub no-nat_lt : (m n : ℕ) → nat_lt m n ≡ false → m < n → ⊥
no-nat_lt m n e l = grind (arith, nat_tests)

-- the reversed word of a reversed word with a letter before it
pub reverse-back : (w : List ℕ) (s : ℕ) → reverse (s ∷ reverse w) ≡ w ++ s ∷ []
reverse-back w s = reverse-cons s (reverse w) ∙ ap (λ (u : List ℕ). u ++ s ∷ []) (reverse-reverse w)

module _ (A : IntegerMatrix) (g : IsAdmissible A) where
  -- ---- it depends on the element alone

  pub shortens_left-same : (s : ℕ) {x y : List ℕ} → SameElement A x y → shortens_left A s x ≡ shortens_left A s y
  shortens_left-same s {x} {y} e = rw (word_length-equal A g (same-cons A g s e), word_length-equal A g e) refl

  pub shortens_right-same : (s : ℕ) {x y : List ℕ} → SameElement A x y → shortens_right A s x ≡ shortens_right A s y
  shortens_right-same s {x} {y} e = rw (word_length-equal A g (same-push A g s e), word_length-equal A g e) refl

  -- ---- a letter changes the length by one

  pub left_moves : (s : ℕ) (x : List ℕ) → IsLetter A.rank s → Moves (shortens_left A s x) (word_length A x) (word_length A (s ∷ x))
  left_moves s x l = moves (word_length A x) (word_length A (s ∷ x)) (left_length A g s x l)

  pub right_moves : (s : ℕ) (x : List ℕ) → IsLetter A.rank s
      → Moves (shortens_right A s x) (word_length A x) (word_length A (x ++ s ∷ []))
  right_moves s x l = moves (word_length A x) (word_length A (x ++ s ∷ [])) (right_length A g x s l)

  -- and back
  pub shortens_left-back : (s : ℕ) (x : List ℕ) → IsLetter A.rank s → shortens_left A s (s ∷ x) ≡ not (shortens_left A s x)
  shortens_left-back s x l =
      Moves-back (shortens_left A s x) (shortens_left A s (s ∷ x)) (word_length A x) (word_length A (s ∷ x)) (word_length A (s ∷ s ∷ x))
      (left_moves s x l) (left_moves s (s ∷ x) l) (word_length-equal A g (same-square A g s x))

  pub shortens_right-back : (s : ℕ) (x : List ℕ) → IsLetter A.rank s → shortens_right A s (x ++ s ∷ []) ≡ not (shortens_right A s x)
  shortens_right-back s x l =
      Moves-back (shortens_right A s x) (shortens_right A s (x ++ s ∷ [])) (word_length A x) (word_length A (x ++ s ∷ []))
      (word_length A ((x ++ s ∷ []) ++ s ∷ [])) (right_moves s x l) (right_moves s (x ++ s ∷ []) l)
      (word_length-equal A g (same-push_twice A g x s))

  -- on the right it is as on the left for the reversed word
  pub shortens-reverse : (s : ℕ) (x : List ℕ) → shortens_left A s (reverse x) ≡ shortens_right A s x
  shortens-reverse s x =
      let e : word_length A (s ∷ reverse x)
      ≡ word_length A (x ++ s ∷ []) = rw (reverse-reverse x) at (word_length-cons_reverse A g s (reverse x))
      in rw (e, word_length-reverse A g x) refl

  -- ---- both sides: s and t do not disturb one another, unless sx = xt

  pub data SidesOf (s t : ℕ) (x : List ℕ) : Type 0 where
    apart : shortens_left A s (x ++ t ∷ []) ≡ shortens_left A s x → shortens_right A t (s ∷ x) ≡ shortens_right A t x → SidesOf s t x
    together : SameElement A (s ∷ x) (x ++ t ∷ []) → shortens_left A s x ≡ shortens_right A t x → SidesOf s t x

  pub sides_of : (s t : ℕ) (x : List ℕ) → IsLetter A.rank s → IsLetter A.rank t → SidesOf s t x
  sides_of s t x l k =
      go (shortens_left A s x) (shortens_right A t x) (shortens_left A s (x ++ t ∷ [])) (shortens_right A t (s ∷ x)) refl refl refl refl
      (left_moves s x l) (right_moves t x k) (left_moves s (x ++ t ∷ []) l) (right_moves t (s ∷ x) k)
    where
      close : word_length A (s ∷ x ++ t ∷ []) ≡ word_length A x → word_length A (s ∷ x) ≡ word_length A (x ++ t ∷ [])
          → shortens_left A s x ≡ shortens_right A t x → SidesOf s t x
      close e f same = together (sides_same A g s t x l e f) same

      go : (p q p' q' : Bool) → shortens_left A s x ≡ p → shortens_right A t x ≡ q → shortens_left A s (x ++ t ∷ []) ≡ p'
          → shortens_right A t (s ∷ x) ≡ q' → Moves p (word_length A x) (word_length A (s ∷ x))
          → Moves q (word_length A x) (word_length A (x ++ t ∷ []))
          → Moves p' (word_length A (x ++ t ∷ [])) (word_length A (s ∷ x ++ t ∷ []))
          → Moves q' (word_length A (s ∷ x)) (word_length A (s ∷ x ++ t ∷ [])) → SidesOf s t x
      go true true true true a b c d i j m n = apart (c ∙ sym a) (d ∙ sym b)
      go true true false false a b c d i j m n = close (omega arith) (omega arith) (a ∙ sym b)
      go true false true false a b c d i j m n = apart (c ∙ sym a) (d ∙ sym b)
      go false true false true a b c d i j m n = apart (c ∙ sym a) (d ∙ sym b)
      go false false false false a b c d i j m n = apart (c ∙ sym a) (d ∙ sym b)
      go false false true true a b c d i j m n = close (omega arith) (omega arith) (a ∙ sym b)
      go true true true false a b c d i j m n = absurd (omega arith)
      go true true false true a b c d i j m n = absurd (omega arith)
      go true false true true a b c d i j m n = absurd (omega arith)
      go true false false true a b c d i j m n = absurd (omega arith)
      go true false false false a b c d i j m n = absurd (omega arith)
      go false true true true a b c d i j m n = absurd (omega arith)
      go false true true false a b c d i j m n = absurd (omega arith)
      go false true false false a b c d i j m n = absurd (omega arith)
      go false false true false a b c d i j m n = absurd (omega arith)
      go false false false true a b c d i j m n = absurd (omega arith)

  -- ---- reduced words

  pub reduced-letter : (s : ℕ) (u : List ℕ) → IsReduced A (s ∷ u) → IsLetter A.rank s
  reduced-letter s u r = left_descent-letter A g (s ∷ u) s
      (omega (arith, r, word_length-equal A g (same-square A g s u), word_length-length A g u))

  pub reduced-rises : (s : ℕ) (u : List ℕ) → IsReduced A (s ∷ u) → shortens_left A s u ≡ false
  reduced-rises s u r = nat_lt-no (word_length A (s ∷ u)) (word_length A u) (λ h. omega (arith, r, IsReduced-tail A g s u r))

  -- an element that is not the identity has a descent on each side
  pub some_left_descent : (x : List ℕ) → 0 < word_length A x → (s : ℕ) × IsLeftDescent A x s
  some_left_descent x some = go (normal_form A x) refl
    where
      go : (n : List ℕ) → normal_form A x ≡ n → (s : ℕ) × IsLeftDescent A x s
      go [] e = absurd (omega (arith, some, word_length-is A x, ap length e))
      go (s ∷ n) e =
          let same : SameElement A (s ∷ x) n
          = same-trans A g (same-cons A g s (same-trans A g (same-sym A g (normal_form-same A g x)) (same-equal A g e)))
          (same-square A g s n)
          in (s, omega (arith, word_length-equal A g same, word_length-length A g n, word_length-is A x, ap length e))

  pub some_right_descent : (x : List ℕ) → 0 < word_length A x → (s : ℕ) × IsRightDescent A x s
  some_right_descent x some =
      let d = some_left_descent (reverse x) (omega (arith, some, word_length-reverse A g x))
      in (d.0, rw (reverse-reverse x) at (left_descent_reverse A g (reverse x) d.0 d.1))
