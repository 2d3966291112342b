-- Normal forms and descents of reduced words, by exchanges.
use Rattle.std.proofs.Common.{◌≡◌, ℕ, zero, suc, ◌+◌, ◌-◌, ◌≤◌, ◌<◌, Bool, true, false, Option, None, Some, is_some, IfSome, IfNone}
use Rattle.std.proofs.Common.{nat_lt, List, [], ◌∷◌, ◌++◌, length, reverse, filter, refl, ap, sym, ◌∙◌, ⊎_elim, arith, lt-ltb}
use Rattle.std.specs.List.{range_with_len, remove}
use Rattle.std.proofs.Math.Path.{fun_ext}
use Rattle.std.proofs.lemmas.Bool.{cases_lt, le-ltb}
use Rattle.std.proofs.lemmas.List.{length-append, reverse-append, reverse-reverse}
use Rattle.std.proofs.lemmas.List.Elements.{All-nil}
use Rattle.cox_base.specs.declared.side.Side.TheVariants.{Right}
use Rattle.cox_base.specs.Matrix.{IsLetter, IsWord}
use Rattle.cox_base.specs.IntegerMatrix.{IntegerMatrix}
use Rattle.cox_base.specs.Admissible.{IsAdmissible}
use Rattle.cox_base.specs.Element.{SameElement}
use Rattle.cox_base.specs.ShortLex.{letters, normal_form}
use Rattle.cox_base.specs.Length.{word_length}
use Rattle.cox_base.specs.SideDescents.{descent_set}
use Rattle.cox_base.specs.Descents.{IsLeftDescent, IsRightDescent, left_descents, right_descents}
use Rattle.cox_base.specs.Reduced.{IsReduced}
use Rattle.cox_lemmas.proofs.RangeFilters.{filter_range-yes, filter_range-no}
use Rattle.cox_reflect.proofs.Sums.{letter_above}
use Rattle.cox_reflect.proofs.Elements.{same-trans, same-reverse, same-push}
use Rattle.cox_reflect.proofs.FormsByDescents.{left_descents-word_on_side}
use Rattle.cox_reflect.proofs.Search.{normal_form-equal, word_length-equal, word_length-length}
use Rattle.cox_reflect.proofs.Roots.{reverse_left_descent, left_descent_reverse, left_descent-letter}
use Rattle.cox_reflect.proofs.WordsAndSubwords.{IsWord-append, IsWord-single}
use Rattle.cox_reflect.proofs.NormalForm.{normal_form-descent, normal_form-no_descent}
use Rattle.cox_minroots.proofs.ReducedProducts.{length-remove}

-- the normal form of the inverse of `all` begins with the form and goes on with that of the inverse of `rest`
pub record IsBegun (A : IntegerMatrix) (all form rest : List ℕ) : Type 0 where
  pub whole : normal_form A (reverse all) ≡ form ++ normal_form A (reverse rest)
  pub reduced : IsReduced A rest
  pub word : IsWord A.rank rest
  pub begun : IsWord A.rank form
  pub size : length form + length rest ≤ length all

-- the right descents up to n
unfoldable pub descents_to : IntegerMatrix → List ℕ → ℕ → List ℕ
descents_to A v n = filter (λ s. nat_lt (word_length A (v ++ s ∷ [])) (word_length A v)) (range_with_len 1 n)

module _ (A : IntegerMatrix) (g : IsAdmissible A) where
  -- an exchanged letter is a right descent, and one that is put in is none
  pub exchanged-descent : (v : List ℕ) (s place : ℕ) → IsReduced A v → place < length v → SameElement A (v ++ s ∷ []) (remove v place)
      → IsRightDescent A v s
  exchanged-descent v s place h l e =
      omega (arith, h, length-remove v place l, word_length-equal A g e, word_length-length A g (remove v place))

  pub put_in-no_descent : (v : List ℕ) (s : ℕ) → IsReduced A v → IsReduced A (v ++ s ∷ []) → IsRightDescent A v s → ⊥
  put_in-no_descent v s h k d = omega (arith, h, k, d, length-append v (s ∷ []))

  -- the normal form of w, by a word of its inverse
  pub form-inverse : (w v : List ℕ) → SameElement A v (reverse w) → normal_form A (reverse v) ≡ normal_form A w
  form-inverse w v e = normal_form-equal A g (rw (reverse-reverse w) at (same-reverse A g e))

  -- the inverse of the inverse
  pub same-inverse_twice : (w v u : List ℕ) → SameElement A v (reverse w) → SameElement A u (reverse v) → SameElement A u w
  same-inverse_twice w v u e f = same-trans A g f (rw (reverse-reverse w) at (same-reverse A g e))

  pub right_descents-same : {u v : List ℕ} → SameElement A u v → right_descents A u ≡ right_descents A v
  unfolding descent_set
  right_descents-same {u} {v} e =
      ap (λ (p : ℕ → Bool). filter p (letters A.rank))
      (fun_ext (λ s. rw (word_length-equal A g (same-push A g s e), word_length-equal A g e) refl))

  -- the left descents of w, by a word of its inverse
  pub left_descents-inverse : (w v : List ℕ) → SameElement A v (reverse w) → right_descents A v ≡ left_descents A w
  left_descents-inverse w v e =
      let back : left_descents A (reverse (reverse w)) ≡ right_descents A (reverse w) = left_descents-word_on_side A g Right (reverse w)
      in right_descents-same e ∙ sym (rw (reverse-reverse w) at back)

  -- what the code knows where it asks for an exchange
  pub some-descent : (v : List ℕ) (s : ℕ) (found : Option ℕ) → IsReduced A v → is_some found ≡ true
      → IfSome found (λ place. place < length v)
      → IfSome found (λ place. SameElement A (v ++ s ∷ []) (remove v place)) → IsRightDescent A v s
  some-descent v s None h e a b = absurd (cc)
  some-descent v s (Some place) h e a b = exchanged-descent v s place h a b

  pub none-no_descent : (v : List ℕ) (s : ℕ) (found : Option ℕ) → IsReduced A v → is_some found ≡ false
      → IfNone found (IsReduced A (v ++ s ∷ []))
      → IsRightDescent A v s → ⊥
  none-no_descent v s None h e a d = put_in-no_descent v s h a d
  none-no_descent v s (Some place) h e a d = absurd (cc)

  -- the normal form by the least right descent of the inverse
  pub form-least : (v : List ℕ) (s : ℕ) (rest : List ℕ) → IsRightDescent A v s → ((t : ℕ) → 1 ≤ t → t < s → IsRightDescent A v t → ⊥)
      → SameElement A (v ++ s ∷ []) rest → normal_form A (reverse v) ≡ s ∷ normal_form A (reverse rest)
  form-least v s rest d least e =
      normal_form-descent A g (reverse v) s (reverse_left_descent A g (reverse v) s (rw (reverse-reverse v) d)) below
      ∙ ap (λ (w : List ℕ). s ∷ w) (normal_form-equal A g (rw (reverse-append v (s ∷ [])) at (same-reverse A g e)))
    where
      below : (t : ℕ) → t < s → IsLeftDescent A (reverse v) t → ⊥
      below t l k =
          let there : IsRightDescent A v t = rw (reverse-reverse v) at (left_descent_reverse A g (reverse v) t k)
          in least t (left_descent-letter A g (reverse v) t k).from_one l there

  pub form-none : (v : List ℕ) (n : ℕ) → A.rank ≤ n → ((t : ℕ) → 1 ≤ t → t ≤ n → IsRightDescent A v t → ⊥) → normal_form A (reverse v) ≡ []
  form-none v n l none =
      normal_form-no_descent A g (reverse v)
      (λ t k. let there : IsRightDescent A v t = rw (reverse-reverse v) at (left_descent_reverse A g (reverse v) t k)
      in let letter = left_descent-letter A g (reverse v) t k
      in none t letter.from_one (omega (arith, letter.to_rank, l)) there)

-- ---- the list of the right descents

letters_above : {n : ℕ} (w : List ℕ) → IsWord n w → IsWord (suc n) w
letters_above w h k d l = letter_above _ _ (h k d l)

module _ (A : IntegerMatrix) (v : List ℕ) where
  pub descents-none : descents_to A v 0 ≡ []
  unfolding descents_to
  descents-none = refl

  pub descents-yes : (s : ℕ) → 1 ≤ s → IsRightDescent A v s → descents_to A v s ≡ descents_to A v (s - 1) ++ s ∷ []
  unfolding descents_to
  descents-yes s l d = filter_range-yes (λ t. nat_lt (word_length A (v ++ t ∷ [])) (word_length A v)) (s - 1) s (omega (arith, l))
      (lt-ltb (word_length A (v ++ s ∷ [])) (word_length A v) d)

  pub descents-no : (s : ℕ) → 1 ≤ s → (IsRightDescent A v s → ⊥) → descents_to A v s ≡ descents_to A v (s - 1)
  unfolding descents_to
  descents-no s l none = filter_range-no (λ t. nat_lt (word_length A (v ++ t ∷ [])) (word_length A v)) (s - 1) s (omega (arith, l))
      (le-ltb (word_length A (v ++ s ∷ [])) (word_length A v) (omega (arith, none)))

  pub descents-all : descents_to A v A.rank ≡ right_descents A v
  unfolding descents_to descent_set letters
  descents-all = refl

  -- letters up to n, at most n of them
  pub descents-letters : (n : ℕ) → (IsWord n (descents_to A v n)) × (length (descents_to A v n) ≤ n)
  descents-letters zero = (rw descents-none (All-nil (IsLetter 0)), rw descents-none (omega arith))
  descents-letters (suc n) =
      ⊎_elim (yes (grown (descents-letters n))) (no (grown (descents-letters n)))
      (cases_lt (word_length A (v ++ suc n ∷ [])) (word_length A v))
    where
      grown : (IsWord n (descents_to A v n)) × (length (descents_to A v n) ≤ n)
          → (IsWord (suc n) (descents_to A v n)) × (length (descents_to A v n) ≤ n)
      grown h = (letters_above (descents_to A v n) h.0, h.1)

      place : suc n - 1 ≡ n
      place = omega arith

      yes : (IsWord (suc n) (descents_to A v n)) × (length (descents_to A v n) ≤ n) → IsRightDescent A v (suc n)
          → (IsWord (suc n) (descents_to A v (suc n))) × (length (descents_to A v (suc n)) ≤ suc n)
      yes before d =
          let e : descents_to A v (suc n) ≡ descents_to A v n ++ suc n ∷ [] = rw place at (descents-yes (suc n) (omega arith) d)
          in (
            rw e (IsWord-append (descents_to A v n) (suc n ∷ []) before.0
                (IsWord-single (record { from_one = omega arith; to_rank = omega arith }))),
            rw e (omega (arith, length-append (descents_to A v n) (suc n ∷ []), before.1)),
          )

      no : (IsWord (suc n) (descents_to A v n)) × (length (descents_to A v n) ≤ n)
          → word_length A v ≤ word_length A (v ++ suc n ∷ []) → (IsWord (suc n) (descents_to A v (suc n)))
          × (length (descents_to A v (suc n)) ≤ suc n)
      no before l =
          let e : descents_to A v (suc n) ≡ descents_to A v n = rw place at (descents-no (suc n) (omega arith) (λ d. omega (arith, l, d)))
          in (rw e before.0, rw e (omega (arith, before.1)))
