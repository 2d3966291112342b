-- Bruhat order by lifting, with reduced words of the inverses.
use Rattle.std.proofs.Common.{◌≡◌, ℕ, ◌<◌, Bool, true, false, ◌==◌, IsTrue, List, [], ◌∷◌, ◌++◌, length, reverse, ◌↔◌, refl, sym, ◌∙◌}
use Rattle.std.proofs.Common.{arith, eqb-true, eq-eqb}
use Rattle.std.specs.List.{remove}
use Rattle.std.proofs.lemmas.Bool.{false≢true}
use Rattle.std.proofs.lemmas.List.{length-append}
use Rattle.std.proofs.lemmas.List.Elements.{All-head}
use Rattle.cox_base.specs.Matrix.{IsLetter, IsWord}
use Rattle.cox_base.specs.IntegerMatrix.{IntegerMatrix}
use Rattle.cox_base.specs.Admissible.{IsAdmissible}
use Rattle.cox_base.specs.Element.{SameElement}
use Rattle.cox_base.specs.Reduced.{IsReduced}
use Rattle.cox_base.specs.Descents.{IsRightDescent}
use Rattle.cox_base.specs.Bruhat.{IsBelow}
use Rattle.cox_reflect.proofs.Elements.{same-refl, same-sym, same-push_twice}
use Rattle.cox_reflect.proofs.Search.{word_length-equal, word_length-length}
use Rattle.cox_reflect.proofs.Lengths.{IsReduced-prefix}
use Rattle.cox_reflect.proofs.WordsAndSubwords.{IsWord-prefix, IsWord-back}
use Rattle.cox_reflect.proofs.Bruhat.{below-same, below-refl, below-length, lift_down_right, lift_up_right, below_reverse}
use Rattle.cox_minroots.proofs.ReducedProducts.{reduced-remove, word-remove}
use Rattle.cox_minroots.proofs.ExchangeForms.{exchanged-descent, put_in-no_descent}

-- y <= w exactly where the element of small is below that of large
pub record IsLifted (A : IntegerMatrix) (y w small large : List ℕ) : Type 0 where
  pub settles : IsBelow A y w ↔ IsBelow A small large
  pub reduced_small : IsReduced A small
  pub reduced_large : IsReduced A large
  pub word_small : IsWord A.rank small
  pub word_large : IsWord A.rank large

module _ (A : IntegerMatrix) (g : IsAdmissible A) where
  pub lifted-start : (y w small large : List ℕ) → SameElement A small (reverse y) → SameElement A large (reverse w) → IsReduced A small
      → IsReduced A large
      → IsWord A.rank small → IsWord A.rank large → IsLifted A y w small large
  lifted-start y w small large e f h k m n = record {
    settles = (
      λ b. below-same A g (same-sym A g e) (same-sym A g f) ((below_reverse A g y w).0 b),
      λ b. (below_reverse A g y w).1 (below-same A g e f b),
    );
    reduced_small = h;
    reduced_large = k;
    word_small = m;
    word_large = n;
  }

  module _ (y w small front : List ℕ) (s : ℕ) (h : IsLifted A y w small (front ++ s ∷ [])) where
    -- s shortens large
    last_descent : IsRightDescent A (front ++ s ∷ []) s
    last_descent =
        omega (
          arith,
          h.reduced_large,
          word_length-equal A g (same-push_twice A g front s),
          word_length-length A g front,
          length-append front (s ∷ []),
        )

    pub lifted-letter : IsLetter A.rank s
    lifted-letter = All-head (IsLetter A.rank) s [] (IsWord-back front (s ∷ []) h.word_large)

    -- s shortens small: it goes
    pub lifted-down : (place : ℕ) → place < length small → SameElement A (small ++ s ∷ []) (remove small place)
        → IsLifted A y w (remove small place) front
    lifted-down place l e = record {
      settles = (
        λ b. below-same A g e (same-push_twice A g front s) ((lift d).0 (h.settles.0 b)),
        λ b. h.settles.1 ((lift d).1 (below-same A g (same-sym A g e) (same-sym A g (same-push_twice A g front s)) b)),
      );
      reduced_small = reduced-remove A g small s place h.reduced_small l e;
      reduced_large = IsReduced-prefix A g front (s ∷ []) h.reduced_large;
      word_small = word-remove small place l h.word_small;
      word_large = IsWord-prefix front (s ∷ []) h.word_large;
    }
      where
        d : IsRightDescent A small s
        d = exchanged-descent A g small s place h.reduced_small l e

        lift : IsRightDescent A small s → IsBelow A small (front ++ s ∷ []) ↔ IsBelow A (small ++ s ∷ []) ((front ++ s ∷ []) ++ s ∷ [])
        lift k = lift_down_right A g small (front ++ s ∷ []) s last_descent k

    -- it does not: it stays
    pub lifted-up : IsReduced A (small ++ s ∷ []) → IsLifted A y w small front
    lifted-up k = record {
      settles = (
        λ b. below-same A g (same-refl A g small) (same-push_twice A g front s) (lift.0 (h.settles.0 b)),
        λ b. h.settles.1 (lift.1 (below-same A g (same-refl A g small) (same-sym A g (same-push_twice A g front s)) b)),
      );
      reduced_small = h.reduced_small;
      reduced_large = IsReduced-prefix A g front (s ∷ []) h.reduced_large;
      word_small = h.word_small;
      word_large = IsWord-prefix front (s ∷ []) h.word_large;
    }
      where
        lift : IsBelow A small (front ++ s ∷ []) ↔ IsBelow A small ((front ++ s ∷ []) ++ s ∷ [])
        lift = lift_up_right A g small (front ++ s ∷ []) s last_descent (put_in-no_descent A g small s h.reduced_small k)

  -- at the end only the identity is below
  pub lifted-end : (y w small : List ℕ) → IsLifted A y w small [] → (answer : Bool) → answer ≡ (length small == 0)
      → IsTrue answer ↔ IsBelow A y w
  lifted-end y w small h answer e = (
    λ t. h.settles.1 (empty small (eqb-true (length small) 0 (sym e ∙ t))),
    λ b. e ∙ eq-eqb (length small) 0 (short (h.settles.0 b)),
  )
    where
      empty : (v : List ℕ) → length v ≡ 0 → IsBelow A v []
      empty [] k = below-refl A g (same-refl A g [])
      empty (s ∷ v) k = absurd (omega (arith, k))

      short : IsBelow A small [] → length small ≡ 0
      short b = omega (arith, below-length A g b, word_length-length A g [], h.reduced_small)

-- a list that has no last element
pub empty_list : (xs : List ℕ) → (0 < length xs → false ≡ true) → xs ≡ []
empty_list [] h = refl
empty_list (x ∷ xs) h = absurd (false≢true (h (omega arith)))
