-- Bruhat order (Humphreys 5.9, 5.10): it is given by chains and by any reduced word, it is a partial order, and it lifts on both sides.
use Rattle.std.proofs.Common.{◌≡◌, ℕ, ◌≤◌, ◌<◌, List, [], ◌∷◌, ◌++◌, reverse, ◌⊎◌, ◌↔◌, inl, inr, ⊎_elim, arith}
use Rattle.std.proofs.lemmas.List.{reverse-reverse}
use Rattle.cox_base.specs.Matrix.{IsLetter}
use Rattle.cox_base.specs.IntegerMatrix.{IntegerMatrix}
use Rattle.cox_base.specs.Admissible.{IsAdmissible}
use Rattle.cox_base.specs.Element.{SameElement}
use Rattle.cox_base.specs.ShortLex.{normal_form}
use Rattle.cox_base.specs.Length.{word_length}
use Rattle.cox_base.specs.Reduced.{IsReduced}
use Rattle.cox_base.specs.Descents.{IsLeftDescent, IsRightDescent}
use Rattle.cox_base.specs.Bruhat.{IsSubword, kept, left_out, IsBelow}
use Rattle.cox_reflect.specs.Subword.{HasSubword}
use Rattle.cox_reflect.specs.Chain.{IsChain, no_step, last_step}
use Rattle.cox_reflect.proofs.WordsAndSubwords.{IsSubword-nil, IsSubword-reverse, reverse-push}
use Rattle.cox_reflect.proofs.Elements.{same-refl, same-sym, same-trans, same-cons, same-square, same-reverse}
use Rattle.cox_reflect.proofs.Search.{normal_form-same, word_length-length}
use Rattle.cox_reflect.proofs.Lengths.{IsReduced-normal_form, IsReduced-reverse}
use Rattle.cox_reflect.proofs.Roots.{left_descent-letter, descent-reverse, reverse-descent}
use Rattle.cox_reflect.proofs.Deletion.{left_length}
use Rattle.cox_reflect.proofs.Chains.{chain_upper, chain_lower, chain_join, chain-length, chain-same, descent_step, ascent_step}
use Rattle.cox_reflect.proofs.Chains.{chain_subword, lift_chain, subword_chain}

module _ (A : IntegerMatrix) (g : IsAdmissible A) where
  -- ---- by chains

  pub below-chain : {y w : List ℕ} → IsBelow A y w → IsChain A y w
  below-chain {y} {w} b =
      chain_lower A g (same-sym A g b.same) (chain_upper A g (subword_chain A g b.subword (IsReduced-normal_form A g w))
      (normal_form-same A g w))

  pub chain-below : {y w : List ℕ} → IsChain A y w → IsBelow A y w
  chain-below {y} {w} c =
      let v = chain_subword A g c (normal_form A w) (normal_form-same A g w) in record { word = v.0; subword = v.1; same = v.2 }

  -- ---- by any reduced word

  -- any word of w will do ..
  pub below-subword : {y w : List ℕ} → IsBelow A y w → (u : List ℕ) → SameElement A u w → HasSubword A u y
  below-subword b u e =
      let v = chain_subword A g (below-chain b) u e in record { word = v.0; subword = v.1; same = v.2 }

  -- .. and any reduced word tells
  pub subword-below : {y w : List ℕ} (u : List ℕ) → IsReduced A u → SameElement A u w → HasSubword A u y → IsBelow A y w
  subword-below u h e v =
      chain-below (chain_lower A g (same-sym A g v.same) (chain_upper A g (subword_chain A g v.subword h) e))

  pub below_by_subword : {y w : List ℕ} (u : List ℕ) → IsReduced A u → SameElement A u w
      → IsBelow A y w ↔ HasSubword A u y
  below_by_subword u h e = (λ b. below-subword b u e, λ v. subword-below u h e v)

  -- ---- a partial order on elements

  pub below-same : {y y' w w' : List ℕ} → SameElement A y y' → SameElement A w w' → IsBelow A y w → IsBelow A y' w'
  below-same e f b = chain-below (chain_lower A g (same-sym A g e) (chain_upper A g (below-chain b) f))

  pub below-refl : {y w : List ℕ} → SameElement A y w → IsBelow A y w
  below-refl e = chain-below (no_step e)

  pub below-trans : {x y w : List ℕ} → IsBelow A x y → IsBelow A y w → IsBelow A x w
  below-trans b c = chain-below (chain_join A g (below-chain b) (below-chain c))

  pub below-length : {y w : List ℕ} → IsBelow A y w → word_length A y ≤ word_length A w
  below-length b = chain-length A g (below-chain b)

  pub below-equal_length : {y w : List ℕ} → IsBelow A y w → word_length A y ≡ word_length A w → SameElement A y w
  below-equal_length b e = chain-same A g (below-chain b) e

  pub below-antisym : {y w : List ℕ} → IsBelow A y w → IsBelow A w y → SameElement A y w
  below-antisym b c = below-equal_length b (omega (arith, below-length b, below-length c))

  pub below-least : (w : List ℕ) → IsBelow A [] w
  below-least w = record { word = []; subword = IsSubword-nil (normal_form A w); same = same-refl A g [] }

  pub below_identity : (y : List ℕ) → IsBelow A y [] ↔ SameElement A y []
  below_identity y =
      (λ b. below-equal_length b (omega (arith, below-length b, word_length-length A g [])), λ e. below-refl e)

  -- ---- a letter on the left

  pub below-descent : (w : List ℕ) (s : ℕ) → IsLeftDescent A w s → IsBelow A (s ∷ w) w
  below-descent w s d =
      chain-below (last_step (no_step (same-refl A g (s ∷ w))) (descent_step A g s w (left_descent-letter A g w s d) d))

  pub below-ascent : (w : List ℕ) (s : ℕ) → IsLetter A.rank s → word_length A w < word_length A (s ∷ w)
      → IsBelow A w (s ∷ w)
  below-ascent w s l d = chain-below (last_step (no_step (same-refl A g w)) (ascent_step A g s w l d))

  -- y below w: then y or s y is below s w
  below-cases : (y w : List ℕ) (s : ℕ) → IsLeftDescent A w s → IsBelow A y w
      → IsBelow A y (s ∷ w) ⊎ IsBelow A (s ∷ y) (s ∷ w)
  below-cases y w s d b =
      go (below-subword b (s ∷ normal_form A (s ∷ w))
      (same-trans A g (same-cons A g s (normal_form-same A g (s ∷ w))) (same-square A g s w)))
    where
      of_subword : {v : List ℕ} → IsSubword v (s ∷ normal_form A (s ∷ w)) → SameElement A v y
          → IsBelow A y (s ∷ w) ⊎ IsBelow A (s ∷ y) (s ∷ w)
      of_subword (kept {v = v} a) e =
          inr (record { word = v; subword = a; same = same-trans A g (same-sym A g (same-square A g s v)) (same-cons A g s e) })
      of_subword (left_out {v = v} a) e = inl (record { word = v; subword = a; same = e })

      go : HasSubword A (s ∷ normal_form A (s ∷ w)) y → IsBelow A y (s ∷ w) ⊎ IsBelow A (s ∷ y) (s ∷ w)
      go v = of_subword v.subword v.same

  below-lift : (s : ℕ) {y w : List ℕ} → IsBelow A y w → IsBelow A (s ∷ y) w ⊎ IsBelow A (s ∷ y) (s ∷ w)
  below-lift s b = ⊎_elim (λ c. inl (chain-below c)) (λ c. inr (chain-below c)) (lift_chain A g s (below-chain b))

  pub lift_down : (y w : List ℕ) (s : ℕ) → IsLeftDescent A w s → IsLeftDescent A y s
      → IsBelow A y w ↔ IsBelow A (s ∷ y) (s ∷ w)
  lift_down y w s d e = (
    λ b. ⊎_elim (λ c. below-trans (below-descent y s e) c) (λ c. c) (below-cases y w s d b),
    λ b. ⊎_elim
        (λ c. below-trans (below-same (same-square A g s y) (same-refl A g (s ∷ w)) c) (below-descent w s d))
        (λ c. below-same (same-square A g s y) (same-square A g s w) c)
        (below-lift s b),
  )

  pub lift_up : (y w : List ℕ) (s : ℕ) → IsLeftDescent A w s → (IsLeftDescent A y s → ⊥)
      → IsBelow A y w ↔ IsBelow A y (s ∷ w)
  lift_up y w s d e = (
    λ b. ⊎_elim (λ c. c) (λ c. below-trans (below-ascent y s l rising) c) (below-cases y w s d b),
    λ b. below-trans b (below-descent w s d),
  )
    where
      l : IsLetter A.rank s
      l = left_descent-letter A g w s d

      rising : word_length A y < word_length A (s ∷ y)
      rising = ⊎_elim (λ f. omega (arith, f)) (λ f. absurd (e (omega (arith, f)))) (left_length A g s y l)

  pub below-cons : (y w : List ℕ) (s : ℕ) → IsLeftDescent A w s → IsBelow A y w → IsBelow A (s ∷ y) w
  below-cons y w s d b =
      ⊎_elim
      (λ c. ⊎_elim (λ p. below-trans p (below-descent w s d))
      (λ p. below-same (same-refl A g (s ∷ y)) (same-square A g s w) p) (below-lift s c))
      (λ c. below-trans c (below-descent w s d)) (below-cases y w s d b)

  -- ---- inverses

  reverse_keeps_below : {y w : List ℕ} → IsBelow A y w → IsBelow A (reverse y) (reverse w)
  reverse_keeps_below {y} {w} b =
      subword-below (reverse (normal_form A w)) (IsReduced-reverse A g (normal_form A w) (IsReduced-normal_form A g w))
      (same-reverse A g (normal_form-same A g w))
      (record { word = reverse b.word; subword = IsSubword-reverse b.subword; same = same-reverse A g b.same })

  pub below_reverse : (y w : List ℕ) → IsBelow A y w ↔ IsBelow A (reverse y) (reverse w)
  below_reverse y w = (reverse_keeps_below, λ b. rw (reverse-reverse y, reverse-reverse w) at (reverse_keeps_below b))

  -- ---- a letter on the right

  pub lift_down_right : (y w : List ℕ) (s : ℕ) → IsRightDescent A w s → IsRightDescent A y s
      → IsBelow A y w ↔ IsBelow A (y ++ s ∷ []) (w ++ s ∷ [])
  lift_down_right y w s d e =
      let left = lift_down (reverse y) (reverse w) s (descent-reverse A g w s d) (descent-reverse A g y s e)
      in (
        λ b. (below_reverse (y ++ s ∷ []) (w ++ s ∷ [])).1 (rw (reverse-push y s, reverse-push w s) (left.0 ((below_reverse y w).0 b))),
        λ b. (below_reverse y w).1 (left.1 (rw (reverse-push y s, reverse-push w s) at ((below_reverse (y ++ s ∷ []) (w ++ s ∷ [])).0 b))),
      )

  pub lift_up_right : (y w : List ℕ) (s : ℕ) → IsRightDescent A w s → (IsRightDescent A y s → ⊥)
      → IsBelow A y w ↔ IsBelow A y (w ++ s ∷ [])
  lift_up_right y w s d e =
      let left = lift_up (reverse y) (reverse w) s (descent-reverse A g w s d) (λ f. e (reverse-descent A g y s f))
      in (
        λ b. (below_reverse y (w ++ s ∷ [])).1 (rw (reverse-push w s) (left.0 ((below_reverse y w).0 b))),
        λ b. (below_reverse y w).1 (left.1 (rw (reverse-push w s) at ((below_reverse y (w ++ s ∷ [])).0 b))),
      )

  pub below-push : (y w : List ℕ) (s : ℕ) → IsRightDescent A w s → IsBelow A y w → IsBelow A (y ++ s ∷ []) w
  below-push y w s d b =
      (below_reverse (y ++ s ∷ []) w).1 (rw (reverse-push y s) (below-cons (reverse y) (reverse w) s (descent-reverse A g w s d)
      ((below_reverse y w).0 b)))

  -- the normal form of w has the same elements below it
  pub below-form : (y w form : List ℕ) → form ≡ normal_form A w → IsBelow A y form ↔ IsBelow A y w
  below-form y w form e = (
    λ b. below-same (same-refl A g y) (normal_form-same A g w) (rw e at b),
    λ b. rw e (below-same (same-refl A g y) (same-sym A g (normal_form-same A g w)) b),
  )
