-- The members of a closed list: what is below them, and their shifts.
use Rattle.std.proofs.Common.{◌≡◌, ℕ, ◌+◌, ◌≤◌, ◌<◌, List, [], ◌∷◌, ◌++◌, length, Contains, ◌↔◌, Option, None, Some, IsSome, ap, sym}
use Rattle.std.proofs.Common.{◌∙◌, ◌⊎◌, ⊎_elim, arith}
use Rattle.std.proofs.lemmas.Bool.{cases_order}
use Rattle.std.proofs.lemmas.List.Elements.{All-head}
use Rattle.cox_base.specs.Matrix.{IsLetter}
use Rattle.cox_base.specs.IntegerMatrix.{IntegerMatrix}
use Rattle.cox_base.specs.Admissible.{IsAdmissible}
use Rattle.cox_base.specs.Element.{SameElement}
use Rattle.cox_base.specs.ShortLex.{normal_form}
use Rattle.cox_base.specs.Length.{word_length}
use Rattle.cox_base.specs.Descents.{IsLeftDescent, IsRightDescent}
use Rattle.cox_base.specs.Bruhat.{IsBelow}
use Rattle.cox_reflect.proofs.Elements.{same-refl, same-sym, same-trans, same-equal, same-cons, same-square, same-push_twice}
use Rattle.cox_reflect.proofs.Search.{normal_form-same, normal_form-equal, word_length-equal}
use Rattle.cox_reflect.proofs.Lengths.{word_length-is}
use Rattle.cox_reflect.proofs.Deletion.{left_length, right_length, sides_same}
use Rattle.cox_reflect.proofs.Bruhat.{below-same, below-refl, below-trans, below-least}
use Rattle.cox_reflect.proofs.Bruhat.{below-descent, below-ascent, below-push}
use Rattle.cox_reflect.proofs.NormalElements.{element-normal_form, element-word, element-length}
use Rattle.cox_base.specs.Members.{IsElement}
use Rattle.cox_context.specs.Closed.{IsClosed}
use Rattle.cox_context.specs.Numbers.{word_at}
use Rattle.cox_context.specs.Numbering.{IsNumberOf}
use Rattle.cox_context.proofs.PlacedWords.{IsPlaced, contains-placed, contains-at}
use Rattle.cox_context.proofs.Ideals.{element-nil, element-tail, below-tail}

module _ (A : IntegerMatrix) (g : IsAdmissible A) where
  pub below-right_ascent : (x : List ℕ) (s : ℕ) → word_length A x < word_length A (x ++ s ∷ []) → IsBelow A x (x ++ s ∷ [])
  below-right_ascent x s up =
      let d : IsRightDescent A (x ++ s ∷ []) s = omega (arith, up, word_length-equal A g (same-push_twice A g x s))
      in below-same A g (same-push_twice A g x s) (same-refl A g (x ++ s ∷ []))
      (below-push A g (x ++ s ∷ []) (x ++ s ∷ []) s d (below-refl A g (same-refl A g (x ++ s ∷ []))))

module _ (A : IntegerMatrix) (g : IsAdmissible A) (words : List (List ℕ)) (closed : IsClosed A words) where
  pub element-at : (i : ℕ) → i < length words → IsElement A (word_at words i)
  element-at i l = closed.element (word_at words i) (contains-at words i l)

  pub length-at : (i : ℕ) → i < length words → word_length A (word_at words i) ≡ length (word_at words i)
  length-at i l = element-length A g (word_at words i) (element-at i l)

  -- what is below a member is a member
  pub member-below : (y : List ℕ) (i : ℕ) → i < length words → IsBelow A y (word_at words i) → Contains words (normal_form A y)
  member-below y i l b =
      closed.down (normal_form A y) (word_at words i) (contains-at words i l) (element-normal_form A g y)
      (below-same A g (same-sym A g (normal_form-same A g y)) (same-refl A g (word_at words i)) b)

  -- a member with a greater number is not below
  pub later-not_below : (i j : ℕ) → i < length words → j < length words → j < i → IsBelow A (word_at words i) (word_at words j) → ⊥
  later-not_below i j l m h b = omega (arith, h, closed.upward i j l m b)

  -- the identity is the first member
  pub first-member : word_at words 0 ≡ []
  first-member =
      let none : p.i ≤ 0 = closed.upward p.i 0 p.within (omega (arith, closed.some)) (rw p.is (below-least A g (word_at words 0)))
      in let first : p.i ≡ 0 = omega (arith, none)
      in rw first at p.is
    where
      p : IsPlaced words []
      p = contains-placed words [] (closed.down [] (word_at words 0) (contains-at words 0 (omega (arith, closed.some))) (element-nil A g)
          (below-least A g (word_at words 0)))

  -- from s x back to x
  pub shift-back : (s : ℕ) (i k : ℕ) → i < length words → word_at words k ≡ normal_form A (s ∷ word_at words i)
      → word_at words i ≡ normal_form A (s ∷ word_at words k)
  shift-back s i k l e =
      sym (normal_form-equal A g (same-trans A g
      (same-cons A g s (same-trans A g (same-equal A g e) (normal_form-same A g (s ∷ word_at words i))))
      (same-square A g s (word_at words i))) ∙ (element-at i l).normal)

  -- where an element u has one letter less than x, its number is less than that of x, and where it has one more, it is not
  shift-order : (u : List ℕ) (i k : ℕ) → i < length words → k < length words → word_at words k ≡ normal_form A u
      → (word_length A (word_at words i) < word_length A u → IsBelow A (word_at words i) u)
      → (word_length A u < word_length A (word_at words i) → IsBelow A u (word_at words i))
      → (word_length A u ≡ word_length A (word_at words i) + 1) ⊎ (word_length A (word_at words i) ≡ word_length A u + 1)
      → (k < i) ↔ (word_length A u < word_length A (word_at words i))
  shift-order u i k m n e above below sides = (
    λ less. ⊎_elim (λ up. absurd (omega (
      arith,
      less,
      closed.upward i k m n (below-same A g (same-refl A g (word_at words i)) there (above (omega (arith, up)))),
    )))
        (λ down. omega (arith, down)) sides,
    λ d. ⊎_elim (λ (q : k ≡ i). absurd (omega (arith, d, size, length-at i m, ap (λ (j : ℕ). length (word_at words j)) q)))
        (λ side. ⊎_elim (λ less. less)
        (λ more. absurd (omega (
          arith,
          more,
          closed.upward k i n m (below-same A g there (same-refl A g (word_at words i)) (below d)),
        )))
        side) (cases_order k i),
  )
    where
      size : word_length A u ≡ length (word_at words k)
      size = word_length-is A u ∙ sym (ap length e)

      there : SameElement A u (word_at words k)
      there = same-trans A g (same-sym A g (normal_form-same A g u)) (same-equal A g (sym e))

  -- so the numbers of s x and x s tell whether s shortens x
  pub shift-less : (s : ℕ) (i k : ℕ) → IsLetter A.rank s → i < length words → k < length words
      → word_at words k ≡ normal_form A (s ∷ word_at words i) → (k < i) ↔ IsLeftDescent A (word_at words i) s
  shift-less s i k l m n e = shift-order (s ∷ word_at words i) i k m n e (λ up. below-ascent A g (word_at words i) s l up)
      (λ down. below-descent A g (word_at words i) s down) (left_length A g s (word_at words i) l)

  pub right_shift-less : (s : ℕ) (i k : ℕ) → IsLetter A.rank s → i < length words → k < length words
      → word_at words k ≡ normal_form A (word_at words i ++ s ∷ []) → (k < i) ↔ IsRightDescent A (word_at words i) s
  right_shift-less s i k l m n e = shift-order (word_at words i ++ s ∷ []) i k m n e (λ up. below-right_ascent A g (word_at words i) s up)
      (λ down. below-push A g (word_at words i) (word_at words i) s down (below-refl A g (same-refl A g (word_at words i))))
      (right_length A g (word_at words i) s l)

  -- a shift that shortens a member is a member
  pub descent-member : (s : ℕ) (i : ℕ) → i < length words → IsLeftDescent A (word_at words i) s
      → Contains words (normal_form A (s ∷ word_at words i))
  descent-member s i l d = member-below (s ∷ word_at words i) i l (below-descent A g (word_at words i) s d)

  pub right_descent-member : (s : ℕ) (i : ℕ) → i < length words → IsRightDescent A (word_at words i) s
      → Contains words (normal_form A (word_at words i ++ s ∷ []))
  right_descent-member s i l d = member-below (word_at words i ++ s ∷ []) i l
      (below-push A g (word_at words i) (word_at words i) s d (below-refl A g (same-refl A g (word_at words i))))

  -- with x = t x': where x s is a member, so is x' s
  pub right-parent : (t s : ℕ) (x : List ℕ) (i : ℕ) → IsLetter A.rank s → i < length words → word_at words i ≡ t ∷ x
      → Contains words (normal_form A ((t ∷ x) ++ s ∷ [])) → Contains words (normal_form A (x ++ s ∷ []))
  right-parent t s x i l within e c = ⊎_elim up down (left_length A g t z letter)
    where
      z : List ℕ
      z = x ++ s ∷ []

      elem : IsElement A (t ∷ x)
      elem = rw e at (element-at i within)

      letter : IsLetter A.rank t
      letter = All-head (IsLetter A.rank) t x (element-word A g (t ∷ x) elem)

      p : IsPlaced words (normal_form A (t ∷ z))
      p = contains-placed words (normal_form A (t ∷ z)) c

      up : word_length A (t ∷ z) ≡ word_length A z + 1 → Contains words (normal_form A z)
      up h =
          member-below z p.i p.within
          (below-same A g (same-refl A g z) (same-trans A g (same-sym A g (normal_form-same A g (t ∷ z))) (same-equal A g (sym p.is)))
          (below-ascent A g z t letter (omega (arith, h))))

      down : word_length A z ≡ word_length A (t ∷ z) + 1 → Contains words (normal_form A z)
      down h = ⊎_elim longer shorter (right_length A g x s l)
        where
          shorter : word_length A x ≡ word_length A z + 1 → Contains words (normal_form A z)
          shorter k =
              member-below z i within
              (rw e (below-trans A g (below-push A g x x s (omega (arith, k)) (below-refl A g (same-refl A g x)))
              (below-tail A g t x elem)))

          longer : word_length A z ≡ word_length A x + 1 → Contains words (normal_form A z)
          longer k =
              let inner : word_length A (t ∷ x) ≡ word_length A z =
              omega (arith, k, element-length A g (t ∷ x) elem, element-length A g x (element-tail A g t x elem))
              in let same : SameElement A (t ∷ x) z = sides_same A g t s x letter (omega (arith, h, k)) inner
              in let q : normal_form A z ≡ word_at words i = normal_form-equal A g (same-sym A g same) ∙ elem.normal ∙ sym e
              in rw q (contains-at words i within)

  -- a letter that leads from a member to none does not shorten it
  pub lacking-ascent : (s i : ℕ) (x : Option ℕ) → i < length words → IsNumberOf words (normal_form A (s ∷ word_at words i)) x → x ≡ None
      → IsLeftDescent A (word_at words i) s → ⊥
  lacking-ascent s i None l none e d = none (descent-member s i l d)
  lacking-ascent s i (Some k) l found e d = absurd (cc)

  -- one that leads from a longest member to a member shortens it
  pub shifted-descent : (s i : ℕ) (x : Option ℕ) → IsLetter A.rank s → i < length words
      → ((k : ℕ) → k < length words → length (word_at words k) ≤ length (word_at words i))
      → IsNumberOf words (normal_form A (s ∷ word_at words i)) x → IsSome x → IsLeftDescent A (word_at words i) s
  shifted-descent s i None letter l longest found some = absurd (cc)
  shifted-descent s i (Some k) letter l longest (inside, is) some =
      ⊎_elim
      (λ longer. absurd (omega (
        arith,
        longer,
        longest k inside,
        word_length-is A (s ∷ word_at words i),
        ap length is,
        length-at i l,
      )))
      (λ shorter. omega (arith, shorter)) (left_length A g s (word_at words i) letter)
