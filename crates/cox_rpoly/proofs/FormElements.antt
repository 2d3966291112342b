-- Elements told by their normal forms: their words, their descents by a search in the list, and products by a letter.
use Rattle.std.proofs.Common.{◌≡◌, ℕ, zero, suc, ◌+◌, ◌≤◌, ◌<◌, Bool, true, false, ◌&&◌, ◌||◌, nat_eq, nat_lt, List, ◌∷◌, length, ◌↔◌}
use Rattle.std.proofs.Common.{refl, ap, sym, ◌∙◌, ⊎_elim}
use Rattle.std.proofs.Common.{arith, eqb-true, eq-eqb, ltb-true, lt-ltb}
use Rattle.std.specs.List.{list_any, range_with_len}
use Rattle.std.proofs.lemmas.Bool.{cases_eq}
use Rattle.std.proofs.lemmas.Map.Views.{any-filter_same}
use Rattle.arrayvec.specs.ArrayVec.{ArrayVec}
use Rattle.cox_base.specs.Matrix.{IsLetter, IsWord}
use Rattle.cox_base.specs.IntegerMatrix.{IntegerMatrix}
use Rattle.cox_base.specs.Admissible.{IsAdmissible}
use Rattle.cox_base.specs.Element.{SameElement}
use Rattle.cox_base.specs.Bruhat.{IsBelow}
use Rattle.cox_base.specs.Length.{word_length}
use Rattle.cox_base.specs.SideDescents.{descent_set}
use Rattle.cox_base.specs.Descents.{IsLeftDescent, left_descents}
use Rattle.cox_base.specs.Reduced.{IsReduced}
use Rattle.cox_base.specs.ShortLex.{letters, normal_form}
use Rattle.cox_reflect.proofs.Bruhat.{below-equal_length, below-length, below-same}
use Rattle.cox_reflect.proofs.Elements.{same-refl, same-sym, same-trans, same-equal, same-cons, same-square}
use Rattle.cox_reflect.proofs.Lengths.{word_length-is}
use Rattle.cox_reflect.proofs.Search.{normal_form-same, normal_form-equal, word_length-equal, IsWord-normal_form}
use Rattle.cox_rpoly.specs.ElementValues.{IsElementBelow, is_of_form}

any-range : (s a n : ℕ) → a ≤ s → s < a + n → list_any (λ y. nat_eq y s) (range_with_len a n) ≡ true
any-range s a zero from to = absurd (omega arith)
any-range s a (suc n) from to = ⊎_elim here (there (any-range s (a + 1) n)) (cases_eq a s)
  where
    here : a ≡ s → list_any (λ y. nat_eq y s) (range_with_len a (suc n)) ≡ true
    here e = rw (eq-eqb a s e) refl

    there : (a + 1 ≤ s → s < a + 1 + n → list_any (λ y. nat_eq y s) (range_with_len (a + 1) n) ≡ true) → (a ≡ s → ⊥)
        → list_any (λ y. nat_eq y s) (range_with_len a (suc n)) ≡ true
    there later ne = go (nat_eq a s) (later (omega arith) (omega arith))
      where
        go : (b : Bool) → list_any (λ y. nat_eq y s) (range_with_len (a + 1) n) ≡ true
            → (b || list_any (λ y. nat_eq y s) (range_with_len (a + 1) n)) ≡ true
        go true e = refl
        go false e = e

and_true : (b c : Bool) → c ≡ true → (b && c) ≡ b
and_true true c e = e
and_true false c e = refl

module _ (A : IntegerMatrix) (g : IsAdmissible A) where
  -- a letter is in the list of descents exactly where it is one
  pub found-descent : (u : List ℕ) (s : ℕ) (found : Bool) → IsLetter A.rank s → found ≡ list_any (λ y. nat_eq y s) (left_descents A u)
      → (found ≡ true) ↔ IsLeftDescent A u s
  unfolding descent_set letters
  found-descent u s found l is = (
    λ h. ltb-true (word_length A (s ∷ u)) (word_length A u) (sym same ∙ h),
    λ d. same ∙ lt-ltb (word_length A (s ∷ u)) (word_length A u) d,
  )
    where
      same : found ≡ nat_lt (word_length A (s ∷ u)) (word_length A u)
      same =
          is ∙ any-filter_same (λ y. nat_eq y s) (λ t. nat_lt (word_length A (t ∷ u)) (word_length A u))
          (nat_lt (word_length A (s ∷ u)) (word_length A u))
          (λ k e. ap (λ (t : ℕ). nat_lt (word_length A (t ∷ u)) (word_length A u)) (eqb-true k s e)) (range_with_len 1 A.rank)
          ∙ and_true (nat_lt (word_length A (s ∷ u)) (word_length A u)) _ (any-range s 1 A.rank l.from_one (omega (arith, l.to_rank)))

  module _ (u : List ℕ) (x : ArrayVec ℕ) (is : is_of_form A u x) where
    pub form-word : IsWord A.rank x.items
    form-word = let word : IsWord A.rank x.items = rw is (IsWord-normal_form A g u) in word

    pub form-length : length x.items ≡ word_length A u
    form-length = ap (λ (xs : List ℕ). length xs) is ∙ sym (word_length-is A u)

    pub form-same : SameElement A x.items u
    form-same = same-trans A g (same-equal A g is) (normal_form-same A g u)

    pub form-descents : (t : ℕ) → IsLeftDescent A x.items t ↔ IsLeftDescent A u t
    form-descents t =
        let e : word_length A (t ∷ x.items) ≡ word_length A (t ∷ u) = word_length-equal A g (same-cons A g t form-same)
        in let f : word_length A x.items ≡ word_length A u = word_length-equal A g form-same
        in (λ d. omega (arith, d, e, f), λ d. omega (arith, d, e, f))

    -- the normal form of s x
    pub form-times : (s : ℕ) (y : List ℕ) → y ≡ normal_form A (s ∷ x.items) → y ≡ normal_form A (s ∷ u)
    form-times s y e = e ∙ normal_form-equal A g (same-cons A g s form-same)

    pub form-below : (v : List ℕ) → IsBelow A x.items v ↔ IsBelow A u v
    form-below v = (
      λ b. below-same A g form-same (same-refl A g v) b,
      λ b. below-same A g (same-sym A g form-same) (same-refl A g v) b,
    )

  -- an element below s v that is as long is s v, so s x is v
  pub form-top : (s : ℕ) (v : List ℕ) (x : ArrayVec ℕ) (y : List ℕ) → IsReduced A (s ∷ v) → IsElementBelow is_of_form A (s ∷ v) x
      → length v < length x.items → y ≡ normal_form A v → (u : List ℕ) → is_of_form A u x → y ≡ normal_form A (s ∷ u)
  form-top s v x y r below long e u is =
      let long_word : word_length A below.word ≡ word_length A (s ∷ v)
      = omega (arith, below-length A g below.below, form-length below.word x below.of_word, r, long)
      in let top = below-equal_length A g below.below long_word
      in let same : SameElement A u (s ∷ v)
      = same-trans A g (same-sym A g (form-same u x is)) (same-trans A g (form-same below.word x below.of_word) top)
      in e ∙ normal_form-equal A g (same-sym A g (same-trans A g (same-cons A g s same) (same-square A g s v)))
