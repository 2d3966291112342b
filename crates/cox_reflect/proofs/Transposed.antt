-- The transposed matrix has the same elements, lengths, normal forms and signs, and equal roots have equal coroots: both groups
-- have the same relations.
use Rattle.std.proofs.Common.{◌↔◌, ◌≡◌, ℕ, ◌≤◌, List, [], ◌∷◌, ◌++◌, reverse, ap, sym, ◌∙◌, arith}
use Rattle.cox_base.specs.Matrix.{IsLetter, IsWord}
use Rattle.cox_base.specs.IntegerMatrix.{IntegerMatrix}
use Rattle.cox_base.specs.Admissible.{IsAdmissible}
use Rattle.cox_base.specs.Element.{SameElement, matrix}
use Rattle.cox_base.specs.ShortLex.{normal_form}
use Rattle.cox_base.specs.Length.{word_length}
use Rattle.cox_base.specs.Reduced.{IsReduced}
use Rattle.cox_reflect.specs.Transpose.{transposed}
use Rattle.cox_reflect.specs.Relations.{AreRelated, itself, turned, chained, joined, square, braided}
use Rattle.cox_reflect.specs.Action.{Vector, simple_root, reflect}
use Rattle.cox_reflect.specs.WordAction.{act, IsNonnegative, IsNonpositive}
use Rattle.cox_lemmas.proofs.Ring.{linears}
use Rattle.cox_reflect.proofs.Action.{act-append, act-cons, act-reverse, reverse-act}
use Rattle.cox_reflect.proofs.Elements.{same-act, matrix-column}
use Rattle.cox_reflect.proofs.Search.{normal_form-same, IsWord-normal_form, word_length-least, word_length-equal, word_length-length}
use Rattle.cox_reflect.proofs.Lengths.{word_length-is}
use Rattle.cox_reflect.proofs.RankTwo.{IsAdmissiblePair-swap, HasOrder-swap}
use Rattle.cox_reflect.proofs.WordsAndSubwords.{IsWord-single, IsWord-append, IsWord-reverse}
use Rattle.cox_reflect.proofs.Positivity.{positive, IsWord-reduced, simple_root-nonnegative}
use Rattle.cox_reflect.specs.Root.{IsNonnegativeRoot}
use Rattle.cox_reflect.proofs.ShortLexFirst.{IsBefore, length-before, none-before_normal_form, normal_form-unique}
use Rattle.cox_reflect.proofs.RootSigns.{columns-root, column-nonnegative, nonnegative-column}
use Rattle.cox_reflect.proofs.Roots.{SignOf, longer, shorter, sign_of, sign_changes, root-apart, act-push_root}
use Rattle.cox_reflect.proofs.Exchange.{equal_roots}
use Rattle.cox_reflect.proofs.Faithful.{related-same, same-related}

pub IsAdmissible-transposed : (A : IntegerMatrix) → IsAdmissible A → IsAdmissible (transposed A)
IsAdmissible-transposed A g = record {
  diagonal = g.diagonal;
  pairs = λ s t l k lt. IsAdmissiblePair-swap (g.pairs s t l k lt);
  row_outside = λ s t foreign. g.column_outside t s foreign;
  column_outside = λ s t foreign. g.row_outside t s foreign;
}

pub related-transposed : (A : IntegerMatrix) {u v : List ℕ} → AreRelated A u v → AreRelated (transposed A) u v
related-transposed A (itself u) = itself u
related-transposed A (turned r) = turned (related-transposed A r)
related-transposed A (chained r q) = chained (related-transposed A r) (related-transposed A q)
related-transposed A (joined r q) = joined (related-transposed A r) (related-transposed A q)
related-transposed A (square l) = square l
related-transposed A (braided l k h) = braided l k (HasOrder-swap h)

module _ (A : IntegerMatrix) (g : IsAdmissible A) where
  pub same-transposed : {u v : List ℕ} → IsWord A.rank u → IsWord A.rank v → SameElement A u v
      → SameElement (transposed A) u v
  same-transposed hu hv e =
      related-same (transposed A) (IsAdmissible-transposed A g) (related-transposed A (same-related A g hu hv e))

  length-at_most : (u : List ℕ) → IsWord A.rank u → word_length (transposed A) u ≤ word_length A u
  length-at_most u h =
      omega (
        arith,
        word_length-least (transposed A) (IsAdmissible-transposed A g)
            (same-transposed (IsWord-normal_form A g u) h (normal_form-same A g u)),
        word_length-is A u,
      )

module _ (A : IntegerMatrix) (g : IsAdmissible A) where
  pub word_length-transposed : (u : List ℕ) → IsWord A.rank u → word_length (transposed A) u ≡ word_length A u
  word_length-transposed u h =
      omega (arith, length-at_most A g u h, length-at_most (transposed A) (IsAdmissible-transposed A g) u h)

  -- the coroot x e(s) has the sign of the root
  pub coroot-nonnegative : (x : List ℕ) (s : ℕ) → IsWord A.rank x → IsLetter A.rank s
      → IsNonnegative (act A x (simple_root s)) → IsNonnegative (act (transposed A) x (simple_root s))
  coroot-nonnegative x s h l p = go (sign_of A g x s l)
    where
      go : SignOf A x s → IsNonnegative (act (transposed A) x (simple_root s))
      go (longer e q) =
          positive (transposed A) (IsAdmissible-transposed A g) x s l
          (omega (
            arith,
            e,
            word_length-transposed x h,
            word_length-transposed (x ++ s ∷ []) (IsWord-append x (s ∷ []) h (IsWord-single l)),
          ))
      go (shorter e n) = absurd (root-apart A g x s p n)

  -- equal roots have equal coroots: first where one is e(s)
  simple_coroot : (z : List ℕ) (t s : ℕ) → IsWord A.rank z → IsLetter A.rank t → IsLetter A.rank s
      → act A z (simple_root t) ≡ simple_root s → act (transposed A) z (simple_root t) ≡ simple_root s
  simple_coroot z t s h lt ls e = sign_changes (transposed A) (IsAdmissible-transposed A g) z t s up down
    where
      up : IsNonnegative (act (transposed A) z (simple_root t))
      up = coroot-nonnegative z t h lt (λ i. rw e (simple_root-nonnegative s i))

      same : SameElement (transposed A) (z ++ t ∷ []) (s ∷ z)
      same =
          same-transposed A g (IsWord-append z (t ∷ []) h (IsWord-single lt)) (IsWord-append (s ∷ []) z (IsWord-single ls) h)
          (equal_roots A g z t s lt ls e)

      image : reflect (transposed A) s (act (transposed A) z (simple_root t)) ≡ act (transposed A) (z ++ t ∷ []) (simple_root t)
      image =
          sym (act-cons (transposed A) s z (simple_root t))
          ∙ sym (same-act (transposed A) (IsAdmissible-transposed A g) same (simple_root t))

      down : IsNonpositive (reflect (transposed A) s (act (transposed A) z (simple_root t)))
      down i =
          rw image (omega (arith, linears, up i, act-push_root (transposed A) (IsAdmissible-transposed A g) z t lt i))

  pub equal_coroots : (x y : List ℕ) (t s : ℕ) → IsWord A.rank x → IsWord A.rank y → IsLetter A.rank t
      → IsLetter A.rank s
      → act A x (simple_root t) ≡ act A y (simple_root s)
      → act (transposed A) x (simple_root t) ≡ act (transposed A) y (simple_root s)
  equal_coroots x y t s hx hy lt ls e =
      let moved : act A (reverse y ++ x) (simple_root t) ≡ simple_root s
      = act-append A (reverse y) x (simple_root t) ∙ ap (act A (reverse y)) e ∙ act-reverse A g y (simple_root s)
      in let there : act (transposed A) (reverse y ++ x) (simple_root t) ≡ simple_root s = simple_coroot (reverse y ++ x) t s
      (IsWord-append (reverse y) x (IsWord-reverse y hy) hx) lt ls moved
      in sym (reverse-act (transposed A) (IsAdmissible-transposed A g) y (act (transposed A) x (simple_root t)))
      ∙ ap (act (transposed A) y) (sym (act-append (transposed A) (reverse y) x (simple_root t)) ∙ there)

  -- the normal forms are the same words
  pub normal_form-transposed : (u : List ℕ) → IsWord A.rank u → normal_form (transposed A) u ≡ normal_form A u
  normal_form-transposed u h =
      sym (normal_form-unique (transposed A) (IsAdmissible-transposed A g)
      (same-transposed A g (IsWord-normal_form A g u) h (normal_form-same A g u)) first)
    where
      first : (v : List ℕ) → SameElement (transposed A) v u → IsBefore v (normal_form A u) → ⊥
      first v e b =
          let reduced : IsReduced (transposed A) v
          = omega (
            arith,
            length-before b,
            word_length-is A u,
            word_length-transposed u h,
            word_length-equal (transposed A) (IsAdmissible-transposed A g) e,
            word_length-length (transposed A) (IsAdmissible-transposed A g) v,
          )
          in let word : IsWord A.rank v = IsWord-reduced (transposed A) (IsAdmissible-transposed A g) v reduced
          in none-before_normal_form A g (same-transposed (transposed A) (IsAdmissible-transposed A g) word h e) b

  -- ---- as columns of matrices

  pub root-transposed : (x : List ℕ) (s : ℕ) → IsWord A.rank x → IsLetter A.rank s → IsNonnegativeRoot A x s
      → IsNonnegativeRoot (transposed A) x s
  root-transposed x s h l p =
      column-nonnegative (transposed A) (IsAdmissible-transposed A g) x s (coroot-nonnegative x s h l (nonnegative-column A g x s p))

  pub equal_columns : (x y : List ℕ) (t s : ℕ) → IsWord A.rank x → IsWord A.rank y → IsLetter A.rank t
      → IsLetter A.rank s
      → ((i : ℕ) → IsLetter A.rank i → matrix A x i t ≡ matrix A y i s) → (i : ℕ) → IsLetter A.rank i
      → matrix (transposed A) x i t ≡ matrix (transposed A) y i s
  equal_columns x y t s hx hy lt ls e i l =
      matrix-column (transposed A) x i t l
      ∙ ap (λ (v : Vector). v i) (equal_coroots x y t s hx hy lt ls (columns-root A g x y t s lt ls e))
      ∙ sym (matrix-column (transposed A) y i s l)

  pub same_over_transposed : (u v : List ℕ) → IsWord A.rank u → IsWord A.rank v
      → SameElement A u v ↔ SameElement (transposed A) u v
  same_over_transposed u v hu hv =
      (same-transposed A g hu hv, same-transposed (transposed A) (IsAdmissible-transposed A g) hu hv)

module _ (A : IntegerMatrix) (g : IsAdmissible A) where
  pub root_over_transposed : (x : List ℕ) (s : ℕ) → IsWord A.rank x → IsLetter A.rank s
      → IsNonnegativeRoot A x s ↔ IsNonnegativeRoot (transposed A) x s
  root_over_transposed x s h l =
      (root-transposed A g x s h l, root-transposed (transposed A) (IsAdmissible-transposed A g) x s h l)
