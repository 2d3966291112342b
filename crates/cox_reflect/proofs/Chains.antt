-- Chains of reflections (Humphreys 5.9, 5.10): where a chain leads from x up to w, every word of w has a word of x as a subword;
-- and subwords of a reduced word are joined to it by a chain.
use Rattle.std.proofs.Common.{◌≡◌, ℕ, ◌+◌, ◌≤◌, ◌<◌, List, [], ◌∷◌, ◌++◌, reverse, ◌⊎◌, inl, inr, ⊎_elim, arith}
use Rattle.std.proofs.lemmas.List.Elements.{All-head}
use Rattle.cox_base.specs.Matrix.{IsLetter}
use Rattle.cox_base.specs.IntegerMatrix.{IntegerMatrix}
use Rattle.cox_base.specs.Admissible.{IsAdmissible}
use Rattle.cox_base.specs.Element.{SameElement}
use Rattle.cox_base.specs.ShortLex.{normal_form}
use Rattle.cox_base.specs.Length.{word_length}
use Rattle.cox_base.specs.Reduced.{IsReduced}
use Rattle.cox_base.specs.Bruhat.{IsSubword, none, kept, left_out}
use Rattle.cox_reflect.specs.DerivedWords.{reflection, IsWithoutOne, this_one, later_one}
use Rattle.cox_reflect.specs.Chain.{IsReflectionStep, IsChain, no_step, last_step}
use Rattle.cox_reflect.proofs.Sums.{letter_cases}
use Rattle.cox_reflect.proofs.WordsAndSubwords.{IsSubword-refl, IsSubword-trans, IsSubword-without_one}
use Rattle.cox_reflect.proofs.Elements.{same-refl, same-sym, same-trans, same-cons, same-append, same-square, same-outside}
use Rattle.cox_reflect.proofs.Search.{normal_form-same, word_length-least, word_length-equal}
use Rattle.cox_reflect.proofs.Lengths.{word_length-is, word_length-cons, IsReduced-tail}
use Rattle.cox_reflect.proofs.Positivity.{IsWord-reduced}
use Rattle.cox_reflect.proofs.Exchange.{Reflected, letter_goes, grows, reflected, length-without_one}
use Rattle.cox_reflect.proofs.Deletion.{reflection-left, left_length}

module _ (A : IntegerMatrix) (g : IsAdmissible A) where
  -- ---- chains and equal elements

  pub step_upper : {x w w' : List ℕ} → IsReflectionStep A x w → SameElement A w w' → IsReflectionStep A x w'
  step_upper {x} {w} {w'} st e = record {
    y = st.y;
    s = st.s;
    letter = st.letter;
    same = same-trans A g (same-append A g (same-sym A g e) (same-refl A g (reflection st.y st.s))) st.same;
    shorter = omega (arith, st.shorter, word_length-equal A g e);
  }

  pub chain_upper : {x w w' : List ℕ} → IsChain A x w → SameElement A w w' → IsChain A x w'
  chain_upper (no_step f) e = no_step (same-trans A g f e)
  chain_upper (last_step c st) e = last_step c (step_upper st e)

  pub chain_lower : {x x' w : List ℕ} → SameElement A x' x → IsChain A x w → IsChain A x' w
  chain_lower e (no_step f) = no_step (same-trans A g e f)
  chain_lower e (last_step c st) = last_step (chain_lower e c) st

  pub chain_join : {x v w : List ℕ} → IsChain A x v → IsChain A v w → IsChain A x w
  chain_join a (no_step e) = chain_upper a e
  chain_join a (last_step c st) = last_step (chain_join a c) st

  pub chain-length : {x w : List ℕ} → IsChain A x w → word_length A x ≤ word_length A w
  chain-length (no_step e) = omega (arith, word_length-equal A g e)
  chain-length (last_step c st) = omega (arith, chain-length c, st.shorter)

  pub chain-same : {x w : List ℕ} → IsChain A x w → word_length A x ≡ word_length A w → SameElement A x w
  chain-same (no_step e) l = e
  chain-same (last_step c st) l = absurd (omega (arith, chain-length c, st.shorter, l))

  -- a letter that shortens w gives a step
  pub descent_step : (s : ℕ) (w : List ℕ) → IsLetter A.rank s → word_length A (s ∷ w) < word_length A w
      → IsReflectionStep A (s ∷ w) w
  descent_step s w l d = record { y = reverse w; s = s; letter = l; same = reflection-left A g w s; shorter = d }

  pub ascent_step : (s : ℕ) (w : List ℕ) → IsLetter A.rank s → word_length A w < word_length A (s ∷ w)
      → IsReflectionStep A w (s ∷ w)
  ascent_step s w l d = record {
    y = reverse w;
    s = s;
    letter = l;
    same = same-trans A g (same-cons A g s (reflection-left A g w s)) (same-square A g s w);
    shorter = d;
  }

  -- ---- every word of the upper end has a subword of the lower end

  pub chain_subword : {x w : List ℕ} → IsChain A x w → (u : List ℕ) → SameElement A u w
      → (v : List ℕ) × IsSubword v u × SameElement A v x
  chain_subword (no_step e) u f = (u, IsSubword-refl u, same-trans A g f (same-sym A g e))
  chain_subword {x} {w} (last_step {v = m} c st) u f = go (reflected A g u st.y st.s st.letter) (chain_subword c)
    where
      below : SameElement A (u ++ reflection st.y st.s) m
      below = same-trans A g (same-append A g f (same-refl A g (reflection st.y st.s))) st.same

      go : Reflected A u st.y st.s
          → ((u' : List ℕ) → SameElement A u' m → (v : List ℕ) × IsSubword v u' × SameElement A v x)
          → (v : List ℕ) × IsSubword v u × SameElement A v x
      go (letter_goes u' without e) rest =
          let r = rest u' (same-trans A g (same-sym A g e) below) in (r.0, IsSubword-trans r.1 (IsSubword-without_one without), r.2)
      go (grows h) rest = absurd (omega (arith, h, word_length-equal A g below, st.shorter, word_length-equal A g f))

  -- ---- multiplying by a letter

  -- the same reflection below s v
  step_cons : (s : ℕ) {x v : List ℕ} → IsReflectionStep A x v → word_length A (s ∷ x) < word_length A (s ∷ v)
      → IsReflectionStep A (s ∷ x) (s ∷ v)
  step_cons s st l = record { y = st.y; s = st.s; letter = st.letter; same = same-cons A g s st.same; shorter = l }

  lift_step : (s : ℕ) {x v : List ℕ} → IsReflectionStep A x v → IsChain A (s ∷ x) v ⊎ IsChain A (s ∷ x) (s ∷ v)
  lift_step s {x} {v} st =
      ⊎_elim (λ l. ⊎_elim (up l) (down l) (left_length A g s v l)) foreign_letter (letter_cases A.rank s)
    where
      one : IsReflectionStep A (s ∷ x) (s ∷ v) → IsChain A (s ∷ x) (s ∷ v)
      one q = last_step (no_step (same-refl A g (s ∷ x))) q

      foreign_letter : (IsLetter A.rank s → ⊥) → IsChain A (s ∷ x) v ⊎ IsChain A (s ∷ x) (s ∷ v)
      foreign_letter foreign = inl (last_step (no_step (same-outside A g s x foreign)) st)

      up : IsLetter A.rank s → word_length A (s ∷ v) ≡ word_length A v + 1
          → IsChain A (s ∷ x) v ⊎ IsChain A (s ∷ x) (s ∷ v)
      up l e = inr (one (step_cons s st (omega (arith, e, st.shorter, word_length-cons A g s x))))

      n : List ℕ
      n = normal_form A (s ∷ v)

      upper : SameElement A (s ∷ n) v
      upper = same-trans A g (same-cons A g s (normal_form-same A g (s ∷ v))) (same-square A g s v)

      lower : SameElement A ((s ∷ n) ++ reflection st.y st.s) x
      lower = same-trans A g (same-append A g upper (same-refl A g (reflection st.y st.s))) st.same

      of_rest : {w : List ℕ} → IsWithoutOne w (s ∷ n) → SameElement A x w
          → IsChain A (s ∷ x) v ⊎ IsChain A (s ∷ x) (s ∷ v)
      of_rest this_one e = inl (no_step (same-trans A g (same-cons A g s e) upper))
      of_rest (later_one {v = rest} k) e =
          let same : SameElement A rest (s ∷ x) = same-sym A g (same-trans A g (same-cons A g s e) (same-square A g s rest))
          in inr (one (step_cons s st (omega (arith, word_length-least A g same, length-without_one k, word_length-is A (s ∷ v)))))

      of_reflected : Reflected A (s ∷ n) st.y st.s → IsChain A (s ∷ x) v ⊎ IsChain A (s ∷ x) (s ∷ v)
      of_reflected (letter_goes w k e) = of_rest k (same-trans A g (same-sym A g lower) e)
      of_reflected (grows h) =
          absurd (omega (arith, h, word_length-equal A g lower, word_length-equal A g upper, st.shorter))

      down : IsLetter A.rank s → word_length A v ≡ word_length A (s ∷ v) + 1
          → IsChain A (s ∷ x) v ⊎ IsChain A (s ∷ x) (s ∷ v)
      down l e = of_reflected (reflected A g (s ∷ n) st.y st.s st.letter)

  -- where x is below v, s x is below v or below s v
  pub lift_chain : (s : ℕ) {x v : List ℕ} → IsChain A x v → IsChain A (s ∷ x) v ⊎ IsChain A (s ∷ x) (s ∷ v)
  lift_chain s (no_step e) = inr (no_step (same-cons A g s e))
  lift_chain s (last_step c st) =
      ⊎_elim (λ a. inl (last_step a st)) (λ b. ⊎_elim (λ p. inl (chain_join b p)) (λ q. inr (chain_join b q))
      (lift_step s st)) (lift_chain s c)

  -- ---- subwords of a reduced word

  -- the step from w to s w, where s w is reduced
  reduced_step : (s : ℕ) (w : List ℕ) → IsReduced A (s ∷ w) → IsReflectionStep A w (s ∷ w)
  reduced_step s w h =
      ascent_step s w (All-head (IsLetter A.rank) s w (IsWord-reduced A g (s ∷ w) h)) (omega (arith, h, IsReduced-tail A g s w h))

  pub subword_chain : {v u : List ℕ} → IsSubword v u → IsReduced A u → IsChain A v u
  subword_chain none h = no_step (same-refl A g [])
  subword_chain (kept {s = s} {v = v} {w = w} a) h =
      ⊎_elim (λ p. last_step p (reduced_step s w h)) (λ q. q) (lift_chain s (subword_chain a (IsReduced-tail A g s w h)))
  subword_chain (left_out {s = s} {v = v} {w = w} a) h =
      last_step (subword_chain a (IsReduced-tail A g s w h)) (reduced_step s w h)
